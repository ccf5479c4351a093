use Rattle.vyrd_plain.proofs.Prelude.{◌≡◌, None, take, newest_first, first_break, HasFollowed}
use Rattle.vyrd_plain.proofs.front.front_of.Given as goal

abbrev pub invariant-loop-i : goal.invariant-loop-i
invariant-loop-i l = record {
  header : l.shape.header ≡ l.fn.header;
  followed : HasFollowed l.shape (newest_first (take l.i l.entries));
  kept : first_break l.fn.header (take l.i l.entries) ≡ None;
}
