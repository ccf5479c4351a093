use Rattle.std.proofs.Common.{◌≡◌, ◌∙◌, sym, true, false, arith}
use Rattle.vyrd_mover.proofs.WalkLaws.{refusal_at}
use Rattle.vyrd_mover.proofs.LinesLaws.{rest_too_many, rest_after_end, rest_ends, rest_line}
use Rattle.vyrd_mover.proofs.LinesLaws.{rest_goes_on}
use Rattle.vyrd_mover.proofs.lines.next_line.Goals as goal

pub returns-then-number-gt-MOST_LINES-clause-err : goal.returns-then-number-gt-MOST_LINES-clause-err
returns-then-number-gt-MOST_LINES-clause-err = grind (arith, rest_too_many)

pub returns-then-ended-clause-err : goal.returns-then-ended-clause-err
returns-then-ended-clause-err c = search (rest_after_end, arith)

pub returns-then-is_word-clause-ok : goal.returns-then-is_word-clause-ok
returns-then-is_word-clause-ok c = λ r have.
    rest_ends c.args.events.now r c.args.number c.args.ended c.args.line.now have c.if-ended.false
    c.requires.one_line (omega arith) (c.is_word.ensures.0 c.if-is_word.true)

pub returns-in_err-take_line-clause-err : goal.returns-in_err-take_line-clause-err
returns-in_err-take_line-clause-err = grind (arith, refusal_at, rest_line)

pub returns-clause-ok : goal.returns-clause-ok
returns-clause-ok c = λ r have.
    rest_goes_on c.take_line.new.self r c.args.number c.args.ended c.args.line.now c.if-ended.false
    c.requires.one_line (omega arith)
    (λ e. let x : false ≡ true = sym c.if-is_word.false ∙ c.is_word.ensures.1 e in cc)
    (c.in_ok-take_line.ensures.ok r have)
