use Rattle.vyrd_batch.proofs.Prelude.{◌≡◌, Some, map, length, ap, subst, sym, ◌++◌, ◌∙◌, arith}
use Rattle.vyrd_batch.proofs.Prelude.{bytes_of, verdicts_of, AreJudgedTo, BatchView, IsCut, IsLeft}
use Rattle.vyrd_batch.proofs.JudgedFacts.{verdict_each}
use Rattle.vyrd_batch.proofs.RoundLaws.{judged_logs}
use Rattle.vyrd_batch.proofs.rounds.BatchJudge.judge_logs.Goals as goal

pub returns-clause-judged : goal.returns-clause-judged
returns-clause-judged g c = λ input j.
    let s = c.self.inside in
    let old = s.verdicts.items in
    let bytes = c.args.bytes.now in
    let place = c.args.place in
    let spans = c.in_ok-found.found.spans.items in
    let taken = c.in_ok-found.found.taken in
    let count : c.len.result ≡ length old = omega (arith, c.len.ensures) in
    let here : s.place ≡ Some place = ap (λ (b : BatchView). b.place) c.self.view_is ∙ c.requires in
    let before : AreJudgedTo s.place input old bytes =
    subst (λ b. AreJudgedTo b.place input b.verdicts bytes) (sym c.self.view_is) j in
    judged_logs input bytes old c.append.new.verdicts.items place taken spans
    (subst (λ place. AreJudgedTo place input old bytes) here before)
    (subst (λ log. IsCut bytes log place spans taken) count c.in_ok-found.ensures.cut)
    (c.in_ok-append.ensures.ok ∙ ap (λ more. old ++ more)
    (c.deref-2.ensures.value ∙ c.in_ok-verdicts.ensures.verdicts
    ∙ ap (λ spans. verdicts_of (map (bytes_of bytes) spans)) c.deref.ensures.value))

pub returns-in_err-found-clause-ever : goal.returns-in_err-found-clause-ever
returns-in_err-found-clause-ever g c = λ left fresh spent is.
    let count : length c.args.self.now.verdicts ≡ c.len.result =
    ap (λ (b : BatchView). length b.verdicts) (sym c.self.view_is)
    ∙ sym (omega (arith, c.len.ensures)) in
    let here : IsLeft c.len.result c.args.place left = subst (λ n. IsLeft n c.args.place left) count
    spent in
    omega (arith, c.in_err-found.ensures.ever left fresh here is)

pub returns-in_err-verdicts-clause-ever : goal.returns-in_err-verdicts-clause-ever
returns-in_err-verdicts-clause-ever g c = λ left fresh spent is.
    let count : length c.args.self.now.verdicts ≡ c.len.result =
    ap (λ (b : BatchView). length b.verdicts) (sym c.self.view_is)
    ∙ sym (omega (arith, c.len.ensures)) in
    let here : IsLeft c.len.result c.args.place left = subst (λ n. IsLeft n c.args.place left) count
    spent in
    omega (
      arith,
      c.in_ok-found.ensures.steps left fresh here
          is,
      c.in_err-verdicts.ensures.steps,
      ap length c.deref.ensures.value,
    )

pub returns-in_err-append-clause-ever : goal.returns-in_err-append-clause-ever
returns-in_err-append-clause-ever g c = λ left fresh spent is.
    let count : length c.args.self.now.verdicts ≡ c.len.result =
    ap (λ (b : BatchView). length b.verdicts) (sym c.self.view_is)
    ∙ sym (omega (arith, c.len.ensures)) in
    let here : IsLeft c.len.result c.args.place left = subst (λ n. IsLeft n c.args.place left) count
    spent in
    omega (
      arith,
      c.in_ok-found.ensures.steps left fresh here is,
      c.append.ensures.steps,
      c.in_ok-verdicts.ensures.steps,
      ap length c.deref.ensures.value,
      ap length c.deref-2.ensures.value,
      ap length c.in_ok-verdicts.ensures.verdicts,
      verdict_each c.args.bytes.now c.deref.result.now,
    )

pub returns-clause-ever : goal.returns-clause-ever
returns-clause-ever g c = λ left fresh spent is.
    let count : length c.args.self.now.verdicts ≡ c.len.result =
    ap (λ (b : BatchView). length b.verdicts) (sym c.self.view_is)
    ∙ sym (omega (arith, c.len.ensures)) in
    let here : IsLeft c.len.result c.args.place left = subst (λ n. IsLeft n c.args.place left) count
    spent in
    omega (
      arith,
      c.in_ok-found.ensures.steps left fresh here is,
      c.append.ensures.steps,
      c.in_ok-verdicts.ensures.steps,
      ap length c.deref.ensures.value,
      ap length c.deref-2.ensures.value,
      ap length c.in_ok-verdicts.ensures.verdicts,
      verdict_each c.args.bytes.now c.deref.result.now,
    )

pub returns-clause-steps : goal.returns-clause-steps
returns-clause-steps g c = λ left fresh spent is.
    let count : length c.args.self.now.verdicts ≡ c.len.result =
    ap (λ (b : BatchView). length b.verdicts) (sym c.self.view_is)
    ∙ sym (omega (arith, c.len.ensures)) in
    let here : IsLeft c.len.result c.args.place left = subst (λ n. IsLeft n c.args.place left) count
    spent in
    omega (
      arith,
      c.in_ok-found.ensures.steps left fresh here is,
      c.append.ensures.steps,
      c.in_ok-verdicts.ensures.steps,
      ap length c.deref.ensures.value,
      ap length c.deref-2.ensures.value,
      ap length c.in_ok-verdicts.ensures.verdicts,
      verdict_each c.args.bytes.now c.deref.result.now,
    )

pub returns-clause-first : goal.returns-clause-first
returns-clause-first g c =
    omega (
      arith,
      c.in_ok-found.ensures.first,
      c.append.ensures.steps,
      c.in_ok-verdicts.ensures.steps,
      ap length c.deref.ensures.value,
      ap length c.deref-2.ensures.value,
      ap length c.in_ok-verdicts.ensures.verdicts,
      verdict_each c.args.bytes.now c.deref.result.now,
    )
