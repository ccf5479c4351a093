use Rattle.std.proofs.Common.{◌≡◌, false, Some, length, ap, subst, sym, ◌∙◌, arith}
use Rattle.vyrd_batch.specs.Rounds.{BatchView, IsSpentBy}
use Rattle.vyrd_batch.proofs.CostLaws.{whole_cost, whole_ever}
use Rattle.vyrd_batch.proofs.rounds.BatchJudge.judge_whole.Goals as goal

pub returns-in_err-taken-clause-ever : goal.returns-in_err-taken-clause-ever
returns-in_err-taken-clause-ever g c = λ left fresh spent is.
    let log = length c.begin-first.new.self.verdicts in
    let here : c.begin-first.new.self.place ≡ Some c.in-Some.place = ap (λ (b : BatchView). b.place)
    (sym c.self.view_is) ∙ c.in-Some.is in
    let before : IsSpentBy false c.args.self.now.place log left =
    subst (λ n. IsSpentBy false c.args.self.now.place n left)
    (sym (ap length c.begin-first.ensures.same)) spent in
    omega (
      arith,
      c.tick.ensures,
      whole_ever c.args.self.now.place log c.in-Some.place c.begin-first.result c.args.bytes.now
          c.split_at.result.1.now left fresh
          c.tick.new.self c.judge_logs.new.steps (c.begin-first.ensures.begun c.in-Some.place here)
          c.split_at.ensures.back before is
          c.judge_logs.ensures.ever,
    )

pub returns-clause-ever : goal.returns-clause-ever
returns-clause-ever g c = λ left fresh spent is.
    let log = length c.begin-first.new.self.verdicts in
    let here : c.begin-first.new.self.place ≡ Some c.in-Some.place = ap (λ (b : BatchView). b.place)
    (sym c.self.view_is) ∙ c.in-Some.is in
    let before : IsSpentBy false c.args.self.now.place log left =
    subst (λ n. IsSpentBy false c.args.self.now.place n left)
    (sym (ap length c.begin-first.ensures.same)) spent in
    omega (
      arith,
      c.tick.ensures,
      whole_ever c.args.self.now.place log c.in-Some.place c.begin-first.result c.args.bytes.now
          c.split_at.result.1.now left fresh
          c.tick.new.self c.judge_logs.new.steps (c.begin-first.ensures.begun c.in-Some.place here)
          c.split_at.ensures.back before is
          c.judge_logs.ensures.ever,
    )

pub returns-clause-steps : goal.returns-clause-steps
returns-clause-steps g c = λ left fresh spent is.
    let log = length c.begin-first.new.self.verdicts in
    let here : c.begin-first.new.self.place ≡ Some c.in-Some.place = ap (λ (b : BatchView). b.place)
    (sym c.self.view_is) ∙ c.in-Some.is in
    let before : IsSpentBy false c.args.self.now.place log left =
    subst (λ n. IsSpentBy false c.args.self.now.place n left)
    (sym (ap length c.begin-first.ensures.same)) spent in
    omega (
      arith,
      c.tick.ensures,
      whole_cost c.args.self.now.place c.judge_logs.new.self.place log c.in-Some.place
          c.begin-first.result c.in_ok-taken.taken
          c.args.bytes.now c.split_at.result.1.now left fresh c.tick.new.self c.judge_logs.new.steps
          (c.begin-first.ensures.begun c.in-Some.place here) c.split_at.ensures.back before is
          c.in_ok-taken.ensures.steps c.in_ok-taken.ensures.first,
    )
