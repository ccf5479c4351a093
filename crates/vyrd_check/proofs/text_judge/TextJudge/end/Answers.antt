use Rattle.vyrd_check.proofs.Prelude.{◌+◌, ◌≤◌, ap, subst, sym, ◌∙◌, ∥∥₁_elim, rules_by}
use Rattle.vyrd_check.proofs.Prelude.{text_verdict, verdict, Malformed, read_so_far, finish_cost}
use Rattle.vyrd_check.proofs.Prelude.{CheckerKept, IsJudging, IsUndecided, where_same}
use Rattle.vyrd_check.proofs.CostLaws.{end_is}
use Rattle.vyrd_check.proofs.WholeFacts.{whole_same}
use Rattle.vyrd_check.proofs.ReadingFacts.{whole_faulty, whole_accepted, not_ended}
use Rattle.vyrd_check.proofs.PieceLaws.{header_of_charter}
use Rattle.vyrd_check.proofs.text_judge.TextJudge.end.Goals as goal

pub returns-in-Err-Malformed-clause-verdict : goal.returns-in-Err-Malformed-clause-verdict
returns-in-Err-Malformed-clause-verdict g c = λ bytes u.
    let max = c.self.inside.reader.max_lines in
    let before = subst (λ k. IsUndecided k bytes) (sym c.self.view_is) u in
    let fault = rw c.in-Err-Malformed.field-0-is at
    (c.in-Err-Malformed.ensures.answer bytes before.read) in
    (λ i. Malformed (c.in-Err-Malformed.line-is i) (c.in-Err-Malformed.rule-is i))
    ∙ whole_faulty max bytes c.in-Err-Malformed.line c.in-Err-Malformed.rule before.nothing fault
    ∙ ap (λ (k : CheckerKept). text_verdict k.reader.max_lines bytes) c.self.view_is

pub unreachable-requires : goal.unreachable-requires
unreachable-requires g c =
    ∥∥₁_elim c.requires.somewhere (λ x y. absurd x) (λ s.
    let max = c.self.inside.reader.max_lines in
    let before = subst (λ k. IsUndecided k s.0) (sym c.self.view_is) s.1 in
    let none = subst (λ judge. IsJudging judge (read_so_far max s.0)) c.in-None.is before.judging in
    not_ended max s.0 none.1 (c.in-Ok.ensures.ended s.0 before.read))

pub returns-clause-verdict : goal.returns-clause-verdict
returns-clause-verdict g c = λ bytes u.
    let max = c.self.inside.reader.max_lines in
    let before = subst (λ k. IsUndecided k bytes) (sym c.self.view_is) u in
    let read = read_so_far max bytes in
    let has = subst (λ judge. IsJudging judge read) c.in-Some.is before.judging in
    let h = header_of_charter read.header c.in-Some.judge.kept.charter has.charter in
    let whole = ap (λ l. verdict (rules_by l) read.starting read.entries) (sym h.2)
    ∙ whole_accepted max bytes h.0 before.nothing
    (c.in-Ok.ensures.answer bytes before.read) (c.in-Ok.ensures.ended bytes before.read) h.1 in
    where_same (verdict (rules_by c.in-Some.judge.kept.charter) read.starting read.entries)
    (text_verdict c.args.self.now.reader.max_lines bytes)
    (whole ∙ ap (λ (k : CheckerKept). text_verdict k.reader.max_lines bytes) c.self.view_is)
    c.finish_counted.result
    (c.finish_counted.ensures.verdict read.starting read.entries has.followed)

pub returns-clause-steps : goal.returns-clause-steps
returns-clause-steps g c = λ bytes u.
    let max = c.self.inside.reader.max_lines in
    let before = subst (λ k. IsUndecided k bytes) (sym c.self.view_is) u in
    let read = read_so_far max bytes in
    let has = subst (λ judge. IsJudging judge read) c.in-Some.is before.judging in
    let done = (whole_same max bytes).ended ∙ c.in-Ok.ensures.ended bytes before.read in
    subst (λ (k : CheckerKept). c.finish_counted.new.steps
    ≤ c.args.steps.now + finish_cost k.reader.max_lines bytes) c.self.view_is
    (subst (λ n. c.finish_counted.new.steps ≤ c.args.steps.now + n)
    (end_is c.in-Some.judge read read.entries has done)
    c.finish_counted.ensures.steps)
