use Rattle.vyrd_witness.proofs.Prelude.{◌≡◌, take, cond, None, has_block, newest_first, wrote}
use Rattle.vyrd_witness.proofs.Prelude.{last_of, is_write_to}
use Rattle.vyrd_witness.proofs.races.held_write.Given as goal

abbrev pub invariant-loop-at : goal.invariant-loop-at
invariant-loop-at l = record {
  block : l.in_block ≡ has_block l.fn.caller (newest_first (take l.at l.front));
  held : l.held ≡ cond (wrote l.fn.caller l.fn.word (newest_first (take l.at l.front)))
      (last_of l.fn.caller (is_write_to l.fn.word) (newest_first (take l.at l.front))) None;
}
