-- What a shadow keeps, and the entries that it stands for.
use Rattle.std.specs.Prelude.{◌≡◌, ℕ, ◌<◌, Bool, true, List, [], map, Option, None, is_some}
use Rattle.std.specs.Prelude.{unwrap_or, slice_index_or}
use Rattle.vyrd_base.specs.declared.header.Header.{Header}
use Rattle.vyrd_base.specs.declared.log.Entry.{Entry}
use Rattle.vyrd_base.specs.declared.log.StartWord.{StartWord}
use Rattle.vyrd_base.specs.Places.{first_answer}
use Rattle.vyrd_base.specs.Callers.{has_block}
use Rattle.vyrd_base.specs.Words.{block_writes, given_to, words_after}
use Rattle.vyrd_base.specs.Front.{WellFormed}
use Rattle.vyrd_shadow.specs.Blocks.{first_written}

-- The header, the plain words, for each caller the writes that its open block keeps back, each word
-- once in the order of the first writes, or nothing if it has no open block, and the words that
-- have changed.
pub record ShadowKept : Type 0 where
  pub header : Header
  pub words : List ℕ
  pub blocks : List (Option (List (ℕ × ℕ)))
  pub changed : List ℕ

-- whether the caller has an open block
abbrev pub is_open : ShadowKept → ℕ → Bool
is_open kept c = is_some (slice_index_or kept.blocks c None)

-- the writes that the caller's open block keeps back
abbrev pub kept_writes : ShadowKept → ℕ → List (ℕ × ℕ)
kept_writes kept c = unwrap_or (slice_index_or kept.blocks c None) []

-- the words of some writes
abbrev pub words_of : List (ℕ × ℕ) → List ℕ
words_of writes = map (λ write. write.0) writes

-- What is kept stands for these entries, given the newest first, after these starting words. Each
-- entry keeps the rules. The words are those after all of them. A caller's block is open exactly
-- when its last open has no close after it, and what an open block keeps has its words, in the
-- order of their first writes, each with its last value.
pub record HasFollowed (kept : ShadowKept) (starting : List StartWord)
    (earlier : List Entry) : Type 0 where
  pub rules : WellFormed kept.header earlier
  pub words : kept.words ≡ words_after kept.header starting earlier
  pub blocks : (c : ℕ) → c < kept.header.callers → is_open kept c ≡ has_block c earlier
  pub order : (c : ℕ) → c < kept.header.callers → has_block c earlier ≡ true
      → words_of (kept_writes kept c) ≡ first_written (block_writes c earlier)
  pub values : (c w : ℕ) → c < kept.header.callers → has_block c earlier ≡ true
      → first_answer (given_to w) (kept_writes kept c)
      ≡ first_answer (given_to w) (block_writes c earlier)
