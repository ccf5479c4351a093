use Rattle.vyrd_batch.proofs.Prelude.{◌≡◌, ◌∙◌, drop, None, refl, ap, subst, sym, AreJudged}
use Rattle.vyrd_batch.proofs.Prelude.{AreJudgedTo, BatchView, IsBegun}
use Rattle.vyrd_batch.proofs.RoundLaws.{none_there, judged_begun}
use Rattle.vyrd_batch.proofs.rounds.BatchJudge.begin.Goals as goal

pub returns-clause-judged : goal.returns-clause-judged
returns-clause-judged c = λ input j.
    let s = c.self.inside in
    let verdicts = s.verdicts.items in
    let bytes = c.args.bytes.now in
    let none : s.place ≡ None = none_there s.place (sym c.is_some.ensures ∙ c.if-is_some.false) in
    let before : AreJudgedTo s.place input verdicts bytes =
    subst (λ b. AreJudgedTo b.place input b.verdicts bytes) (sym c.self.view_is) j in
    subst (AreJudged input verdicts 6) (sym (ap (drop 6) c.in-Some.ensures))
    (judged_begun input bytes c.in-Some.field-0.now verdicts
    (subst (λ place. AreJudgedTo place input verdicts bytes) none before) c.in-Some.ensures)

pub returns-clause-begun : goal.returns-clause-begun
returns-clause-begun c = λ place e.
    let s = c.self.inside in
    let none : c.args.self.now.place ≡ None =
    ap (λ (b : BatchView). b.place) (sym c.self.view_is)
    ∙ none_there s.place (sym c.is_some.ensures ∙ c.if-is_some.false) in
    subst (λ before. IsBegun before place 6 c.args.bytes.now) (sym none)
    (refl, (c.in-Some.field-0.now, c.in-Some.ensures))
