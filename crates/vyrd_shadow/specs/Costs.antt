-- What the work on the words costs, in steps.
use Rattle.std.specs.Prelude.{ℕ, ◌+◌, ◌*◌, length}
use Rattle.vyrd_shadow.specs.Blocks.{kept_count}
use Rattle.vyrd_shadow.specs.Following.{ShadowKept}

-- What is owed for the entries so far: for each write that a block keeps two steps, which the
-- block's end takes for it, and one, since its word is a changed one then; and for each changed
-- word
-- the step in which it is dropped.
abbrev pub owed : ShadowKept → ℕ
owed kept = 3 * kept_count kept.blocks + length kept.changed
