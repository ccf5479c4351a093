-- The multiset, the cache and the string buffers, as the proof sees them.
use Rattle.std.proofs.Common.{◌≡◌, ℕ, ◌+◌, ◌*◌, ◌/◌, refl, ◌∙◌, arith}
use Rattle.vyrd_base.specs.declared.header.Header.{Header}
use Rattle.vyrd_memory.proofs.Memories as memories
use Rattle.vyrd_multiset.specs.Cells as slots
use Rattle.vyrd_multiset.specs.Contents.{IsMultiset}
use Rattle.vyrd_cache.specs.Cells as chunks
use Rattle.vyrd_buffers.specs.Cells as texts
use Rattle.vyrd_every.specs.Structures.{Structure}

-- no state of a slot is both
pub zero_one : (n : ℕ) → n ≡ 0 → n ≡ 1 → ⊥
zero_one n e f = omega (arith, e, f)

-- The multiset has four slots in each bucket, of two words each. A bucket's lock guards the words
-- of its slots. A slot is free if its state is 0. An insert that has found it gives it the value
-- and the state 1, and gives the lock back: the slot is reserved then, until it gets the state 2 or
-- 0 again.
abbrev pub multiset : Header → Structure
multiset h = record {
  header = h;
  words = 8 * h.size;
  guard = λ cell. slots.lock_of h (cell / 8);
  Represents = λ memory state. IsMultiset h memory state;
  Free = λ memory slot. memory (2 * slot) ≡ 0;
  Reserved = λ memory slot. memory (2 * slot) ≡ 1;
  Same = λ a b slot. (b (2 * slot) ≡ a (2 * slot)) × (b (2 * slot + 1) ≡ a (2 * slot + 1));
  same = λ a slot. (refl, refl);
  same_more = λ a b c slot first second. (second.0 ∙ first.0, second.1 ∙ first.1);
  stays = λ a b slot same one. same.0 ∙ one;
  apart = λ a slot free one. zero_one (a (2 * slot)) free one;
}

-- The cache has five words for each chunk, and the chunk's lock guards them. Nothing is reserved:
-- what an operation does to a chunk it does while it holds the lock.
abbrev pub cache : Header → Structure
cache h = record {
  header = h;
  words = 5 * h.size;
  guard = λ cell. chunks.lock_of h (cell / 5);
  Represents = λ memory state. memories.Represents h memory state;
  Free = λ memory slot. ⊥;
  Reserved = λ memory slot. ⊥;
  Same = λ a b slot. Unit {0};
  same = λ a slot. tt;
  same_more = λ a b c slot first second. tt;
  stays = λ a b slot same one. one;
  apart = λ a slot free one. free;
}

-- A string buffer has eight words, and its lock guards them. Nothing is reserved here either.
abbrev pub buffers : Header → Structure
buffers h = record {
  header = h;
  words = 8 * h.size;
  guard = λ cell. texts.lock_of h (cell / 8);
  Represents = λ memory state. memories.Represents h memory state;
  Free = λ memory slot. ⊥;
  Reserved = λ memory slot. ⊥;
  Same = λ a b slot. Unit {0};
  same = λ a slot. tt;
  same_more = λ a b c slot first second. tt;
  stays = λ a b slot same one. one;
  apart = λ a slot free one. free;
}
