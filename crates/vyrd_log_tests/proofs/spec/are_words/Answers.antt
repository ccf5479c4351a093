use Rattle.std.proofs.Common.{◌<◌, ◌^◌, arith, subst, take_all}
use Rattle.std.specs.Prelude.{All}
use Rattle.std.proofs.lemmas.List.Elements.{All-more}
use Rattle.vyrd_log_tests.proofs.spec.are_words.Goals as goal

pub loop-word-preserved : goal.loop-word-preserved
loop-word-preserved c =
    All-more (λ word. word < 2 ^ 63) c.args.words.now c.loop-word.word-index 0 c.loop-word-test.true
    c.loop-word.invariant
    (omega (arith, c.if-word.false))

pub returns : goal.returns
returns c = λ yes.
    subst (All (λ word. word < 2 ^ 63))
    (take_all c.loop-word.word-index c.args.words.now (omega (arith, c.loop-word-test.false)))
    c.loop-word.invariant
