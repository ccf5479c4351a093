use Rattle.vyrd_plain.proofs.Prelude.{[], sym, ap, ◌∙◌, rules_of, start_verdict-none, Malformed}
use Rattle.vyrd_plain.proofs.Prelude.{line_of, line_without}
use Rattle.vyrd_base.proofs.VerdictParts.{verdict_standing, so_far_fault, so_far_break, so_far_none}
use Rattle.vyrd_plain.proofs.judge.judge_log.Goals as goal

pub returns-in-Some : goal.returns-in-Some
returns-in-Some g c =
    verdict_standing (rules_of c.args.header) [] c.args.entries.now c.args.stop c.in-Some.violation
    (so_far_fault (rules_of c.args.header) [] c.args.entries.now c.split_at.result.0.now
    c.in-Some.violation (start_verdict-none c.args.header)
    (c.split_at.ensures.front ∙ c.in_ok-front.ensures.front)
    (sym c.in_ok-violation.ensures ∙ c.in-Some.is))

pub returns-in-Some-broken : goal.returns-in-Some-broken
returns-in-Some-broken g c =
    ap (λ line. Malformed line c.in-Some-broken.rule) (sym (line_without c.in_ok-front.front.len))
    ∙ verdict_standing (rules_of c.args.header) [] c.args.entries.now c.args.stop
    (Malformed (line_of [] c.in_ok-front.front.len) c.in-Some-broken.rule)
    (so_far_break (rules_of c.args.header) [] c.args.entries.now c.split_at.result.0.now
    c.in_ok-front.front.len c.in-Some-broken.rule
    (start_verdict-none c.args.header) (c.split_at.ensures.front ∙ c.in_ok-front.ensures.front)
    c.split_at.ensures.front_len
    (sym c.in_ok-violation.ensures ∙ c.in_default.is) (sym c.in_ok-front.ensures.broken
    ∙ c.in-Some-broken.is))

pub at_stop-requires-clause-faultless : goal.at_stop-requires-clause-faultless
at_stop-requires-clause-faultless g c =
    so_far_none (rules_of c.args.header) [] c.args.entries.now c.split_at.result.0.now
    (start_verdict-none c.args.header)
    (c.split_at.ensures.front ∙ c.in_ok-front.ensures.front)
    (sym c.in_ok-violation.ensures ∙ c.in_default.is) (sym c.in_ok-front.ensures.broken
    ∙ c.in_default-broken.is)
