use Rattle.std.proofs.Common.{◌≡◌, None, take}
use Rattle.vyrd_base.specs.Places.{newest_first}
use Rattle.vyrd_base.specs.Front.{first_break}
use Rattle.vyrd_shape.specs.Following.{HasFollowed}
use Rattle.vyrd_explain.proofs.front.front_len.Given as goal

abbrev pub invariant-loop-i : goal.invariant-loop-i
invariant-loop-i l = record {
  header : l.shape.header ≡ l.fn.header;
  followed : HasFollowed l.shape (newest_first (take l.i l.entries));
  kept : first_break l.fn.header (take l.i l.entries) ≡ None;
}
