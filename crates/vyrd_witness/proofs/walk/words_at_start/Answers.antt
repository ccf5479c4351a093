use Rattle.std.proofs.Common.{ap, ◌∙◌, replicate, arith}
use Rattle.vyrd_witness.proofs.StartWords.{start_none, start_next, start_passed}
use Rattle.vyrd_witness.proofs.walk.words_at_start.Goals as goal
use Rattle.vyrd_witness.proofs.walk.words_at_start.Goals.{then-start-len, else-start-len}

pub loop-i-init : goal.loop-i-init
loop-i-init c = c.in_ok-words.ensures.items_if_clones_equal (λ y e. e)
    ∙ ap (λ n. replicate n 0) c.plain_words.ensures
    ∙ start_none c.args.header c.args.starting.now

pub loop-i-preserved : goal.loop-i-preserved
loop-i-preserved c = elim c.if-start-len.branch [
  | then-start-len w ↦
      start_next c.args.header c.args.starting.now c.loop-i.i c.loop-i.words.items
      c.if-start-len.words.items c.loop-i-test.true c.loop-i.invariant
      (ap (λ v. v.items) w.words-is)
  | else-start-len w ↦
      ap (λ v. v.items) w.words-is
      ∙ start_passed c.args.header c.args.starting.now c.loop-i.i c.loop-i.words.items
      c.loop-i-test.true c.loop-i.invariant
      (omega (arith, w.if-start-len.false, c.len.ensures, c.loop-i.words.ok.0))
]
