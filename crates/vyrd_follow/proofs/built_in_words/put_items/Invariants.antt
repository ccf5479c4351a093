use Rattle.vyrd_follow.proofs.Prelude.{◌++◌, drop, view_of_words, Wrote, or_item, turn_items}
use Rattle.vyrd_follow.proofs.TurnLaws.{IsTurning}
use Rattle.vyrd_follow.proofs.built_in_words.put_items.Given as goal

abbrev pub invariant-loop-key : goal.invariant-loop-key
invariant-loop-key l =
    IsTurning l.fn.effect l.fn.was l.fn.shown (view_of_words l.fn.header l.words) l.shown
    (drop l.key-index l.key-items) l.items.items
    (l.fn.items.items ++ or_item (Wrote l.fn.effect l.fn.was)
    (turn_items l.fn.effect l.fn.was l.fn.shown (view_of_words l.fn.header l.words)))
