-- What is kept of the words stands for these entries.
use Rattle.std.specs.Prelude.{◌≡◌, ◌<◌, ◌≤◌, ℕ, List, [], ◌∷◌, None, Some, slice_get, length}
use Rattle.vyrd_base.specs.declared.header.Header.{Header}
use Rattle.vyrd_base.specs.declared.log.Entry.{Entry}
use Rattle.vyrd_base.specs.declared.log.StartWord.{StartWord}
use Rattle.vyrd_base.specs.Shape.{broken_rule}
use Rattle.vyrd_base.specs.BlockEnds.{ended_effects_at}
use Rattle.vyrd_base.specs.Commits.{is_commit, commit_count}
use Rattle.vyrd_shadow.specs.Following.{ShadowKept, HasFollowed}
use Rattle.vyrd_words.specs.Cuts.{Cuts, first_with, with_part, begun_with}
use Rattle.vyrd_words.specs.Effects.{ActAlike, cut_if, inner_number, parts_behind}

-- What is kept of the words: the words now with the blocks that are open, those at the commits that
-- wait, and for each caller the number of the lone commit since its last open.
pub record WordsView : Type 0 where
  pub shadow : ShadowKept
  pub views : Cuts
  pub inner : List ℕ

-- The shadow has followed the entries, given the newest first, and the lone commits in open blocks
-- have their numbers.
pub record HasWords (shadow : ShadowKept) (inner : List ℕ) (starting : List StartWord)
    (earlier : List Entry) : Type 0 where
  pub followed : HasFollowed shadow starting earlier
  pub unchanged : shadow.changed ≡ []
  pub numbers : (c : ℕ) → c < shadow.header.callers
      → slice_get inner c ≡ Some (inner_number c earlier)

-- the entry breaks no rule after these entries
pub record Keeps (h : Header) (earlier : List Entry) (e : Entry) : Type 0 where
  pub rules : broken_rule h earlier e ≡ None

-- the entry keeps the rules after some entries for which what is kept stands, and among which that
-- many commits stand
abbrev pub MayFollow : ShadowKept → List ℕ → Entry → ℕ → Type 0
MayFollow shadow inner e commits =
    ∥ ((starting : List StartWord) × (earlier : List Entry) × HasWords shadow inner starting earlier
    × Keeps shadow.header earlier e × (commits ≡ commit_count earlier)) ∥₁

-- The entry was taken in: what is kept stands for the entries with it. Its effects are among the
-- writes since the commits that wait: at the end of those between two commits, if a lone commit
-- stands in the block that it ends, and otherwise at the end of all. After a commit no write has
-- taken effect. There are no more writes than effects.
pub record HasTaken (shadow : ShadowKept) (inner : List ℕ) (old new : Cuts)
    (starting : List StartWord)
    (e : Entry) (earlier : List Entry) : Type 0 where
  pub words : HasWords shadow inner starting (e ∷ earlier)
  pub writes : List (ℕ × ℕ)
  pub alike : ActAlike writes (ended_effects_at earlier e.caller e.kind)
  pub first : new.first
      ≡ first_with (parts_behind earlier e.caller e.kind) writes old.first old.since
  pub since : new.since ≡ cut_if (is_commit e.kind)
      (with_part (parts_behind earlier e.caller e.kind) writes old.since)
  pub few : length writes ≤ length (ended_effects_at earlier e.caller e.kind)
  pub begun : new.begun
      ≤ begun_with (parts_behind earlier e.caller e.kind) writes old.begun old.since
