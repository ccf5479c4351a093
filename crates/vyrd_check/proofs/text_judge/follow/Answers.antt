use Rattle.vyrd_check.proofs.Prelude.{◌≡◌, Some, None, ◌++◌, ap, sym, ◌∙◌, option_or, rules_by}
use Rattle.vyrd_check.proofs.Prelude.{verdict_so_far, end_verdict, IsJudging, wrong_in, where_same}
use Rattle.std.specs.Prelude.{if◌then◌else◌}
use Rattle.vyrd_judge.proofs.EndFacts.{where_none}
use Rattle.vyrd_check.proofs.PieceLaws.{wrong_by, judging_on}
use Rattle.vyrd_words.proofs.CutLaws.{always}
use Rattle.vyrd_check.proofs.CostLaws.{followed_paid, open_paid}
use Rattle.vyrd_check.proofs.text_judge.follow.Goals as goal

pub returns-then-ended-clause-answer : goal.returns-then-ended-clause-answer
returns-then-ended-clause-answer g c = λ read log ready.
    let log' = log ++ c.args.entries.now in
    let h = rules_by c.args.judge.now.kept.charter in
    let h' = rules_by c.follow_counted.new.self.kept.charter in
    let followed = ready.before.followed in
    let none : verdict_so_far h read.starting log'
    ≡ None = sym (c.in_ok-verdict.ensures.answer read.starting log followed) ∙ c.in_default.is in
    let none' : verdict_so_far h' read.starting log'
    ≡ None = ap (λ l. verdict_so_far (rules_by l) read.starting log')
    c.in_ok-verdict.ensures.charter ∙ none in
    let whole : end_verdict h' read.starting log' ≡ wrong_in read =
    ap (λ l. end_verdict (rules_by l) read.starting log') c.in_ok-verdict.ensures.charter
    ∙ sym (λ i. option_or (none i)
    (if (c.if-ended.true i) then end_verdict h read.starting log' else None))
    ∙ sym (wrong_by c.args.judge.now read log c.args.entries.now c.args.ended ready) in
    where_same (end_verdict h' read.starting log') (wrong_in read) whole c.open_call.result
    (c.open_call.ensures.verdict read.starting log'
    (c.in_ok-verdict.ensures.followed read.starting log followed) none')

pub returns-then-ended-clause-judging : goal.returns-then-ended-clause-judging
returns-then-ended-clause-judging g c = λ read log ready.
    where_none c.open_call.result (IsJudging (Some c.follow_counted.new.self) read)
    (judging_on c.args.judge.now c.follow_counted.new.self read log
    c.args.entries.now c.args.ended ready c.in_ok-verdict.ensures.charter
    c.in_ok-verdict.ensures.shows
    (c.in_ok-verdict.ensures.followed read.starting log ready.before.followed)
    (c.in_ok-verdict.ensures.so_far ∙ c.in_default.is))

pub returns-else-ended-clause-judging : goal.returns-else-ended-clause-judging
returns-else-ended-clause-judging g c = λ read log ready none.
    judging_on c.args.judge.now c.follow_counted.new.self read log
    c.args.entries.now c.args.ended ready c.in_ok-verdict.ensures.charter
    c.in_ok-verdict.ensures.shows
    (c.in_ok-verdict.ensures.followed read.starting log ready.before.followed)
    (c.in_ok-verdict.ensures.so_far ∙ c.in_default.is)

pub returns-in-Some-clause-steps : goal.returns-in-Some-clause-steps
returns-in-Some-clause-steps g c = λ read log ready.
    followed_paid c.args.judge.now c.follow_counted.new.self read log c.args.entries.now
    c.args.ended c.args.steps.now c.follow_counted.new.steps ready
    (c.in_ok-verdict.ensures.steps read.starting log ready.before.followed)

pub returns-then-ended-clause-steps : goal.returns-then-ended-clause-steps
returns-then-ended-clause-steps g c = λ read log ready.
    always c.open_call.result
    (open_paid c.args.judge.now c.follow_counted.new.self read log c.args.entries.now c.args.ended
    c.args.steps.now c.follow_counted.new.steps c.open_call.new.steps ready c.if-ended.true
    c.in_ok-verdict.ensures.charter c.open_call.ensures.steps
    (c.in_ok-verdict.ensures.steps read.starting log ready.before.followed))

pub returns-else-ended-clause-steps : goal.returns-else-ended-clause-steps
returns-else-ended-clause-steps g c = λ read log ready.
    followed_paid c.args.judge.now c.follow_counted.new.self read log c.args.entries.now
    c.args.ended c.args.steps.now c.follow_counted.new.steps ready
    (c.in_ok-verdict.ensures.steps read.starting log ready.before.followed)
