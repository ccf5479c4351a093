use Rattle.vyrd_own_check.proofs.Prelude.{◌+◌, ◌≤◌, subst, sym, ap, ◌∙◌, ∥∥₁_elim, rules_by}
use Rattle.vyrd_own_check.proofs.Prelude.{own_text_verdict, verdict, Malformed, kept_in}
use Rattle.vyrd_own_check.proofs.Prelude.{read_so_far, limit_of, IsJudging, OwnReading, where_same}
use Rattle.vyrd_own_check.proofs.CostLaws.{end_is}
use Rattle.vyrd_own_check.proofs.ReadingFacts.{whole_faulty, whole_accepted, not_ended}
use Rattle.vyrd_own_check.proofs.text_judge.OwnTextJudge.end.Goals as goal

pub returns-in-Err-Malformed-clause-verdict : goal.returns-in-Err-Malformed-clause-verdict
returns-in-Err-Malformed-clause-verdict g c = λ bytes u.
    let max = limit_of (kept_in c.args.self.now) in
    let fault = rw c.in-Err-Malformed.field-0-is at
    (c.in-Err-Malformed.ensures.answer bytes u.read) in
    (λ i. Malformed (c.in-Err-Malformed.line-is i) (c.in-Err-Malformed.rule-is i))
    ∙ whole_faulty max bytes u.nothing (c.in-Err-Malformed.ensures.alike bytes u.read)
    c.in-Err-Malformed.line c.in-Err-Malformed.rule fault

pub unreachable-requires : goal.unreachable-requires
unreachable-requires g c =
    ∥∥₁_elim c.requires.somewhere (λ x y. absurd x) (λ s.
    let max = limit_of (kept_in c.args.self.now) in
    let none = subst (λ judge. IsJudging judge (read_so_far max s.0)) c.in-None.is s.1.judging in
    not_ended max s.0 (c.in-Ok.ensures.alike s.0 s.1.read) none.1
    (c.in-Ok.ensures.ended s.0 s.1.read))

pub returns-clause-verdict : goal.returns-clause-verdict
returns-clause-verdict g c = λ bytes u.
    let max = limit_of (kept_in c.args.self.now) in
    let read = read_so_far max bytes in
    let has = subst (λ judge. IsJudging judge read) c.in-Some.is u.judging in
    let whole = whole_accepted max bytes u.nothing (c.in-Ok.ensures.alike bytes u.read)
    c.in-Some.judge.kept.charter
    (c.in-Ok.ensures.answer bytes u.read) (c.in-Ok.ensures.ended bytes u.read) has.charter in
    where_same (verdict (rules_by c.in-Some.judge.kept.charter) read.starting read.entries)
    (own_text_verdict max bytes)
    whole c.finish_counted.result
    (c.finish_counted.ensures.verdict read.starting read.entries has.followed)

pub returns-clause-steps : goal.returns-clause-steps
returns-clause-steps g c = λ bytes u.
    let max = limit_of (kept_in c.args.self.now) in
    let read = read_so_far max bytes in
    let has = subst (λ judge. IsJudging judge read) c.in-Some.is u.judging in
    let done = sym (ap (λ (x : OwnReading). x.ended) (c.in-Ok.ensures.alike bytes u.read))
    ∙ c.in-Ok.ensures.ended bytes u.read in
    subst (λ n. c.finish_counted.new.steps ≤ c.args.steps.now + n)
    (end_is c.in-Some.judge read read.entries has done)
    c.finish_counted.ensures.steps
