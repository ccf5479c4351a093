-- Which came first: a lone commit inside a block, or the last effect on a word.
use Rattle.std.specs.Prelude.{◌≡◌, ℕ, ◌+◌, ◌<◌, ◌≤◌, max, Bool, true, false, not, nat_lt, ◌&&◌}
use Rattle.std.specs.Prelude.{◌==◌, List, [], ◌∷◌, length, slice_index, slice_set, if◌then◌else◌}
use Rattle.std.specs.List.{list_any, count_by}
use Rattle.vyrd_base.specs.declared.header.Header.{Header}
use Rattle.vyrd_base.specs.declared.log.Kind.{Kind}
use Rattle.vyrd_base.specs.declared.log.Kind.TheVariants.{Write, BlockClose, BlockCommit}
use Rattle.vyrd_base.specs.declared.log.Entry.{Entry}
use Rattle.vyrd_base.specs.Callers.{has_inner_commit}
use Rattle.vyrd_base.specs.Layout.{plain_words}
use Rattle.vyrd_base.specs.Words.{effects_at, is_lone_commit}

-- whether one of the writes is to the word
abbrev pub has_write : ℕ → List (ℕ × ℕ) → Bool
has_write w writes = list_any (λ write. write.0 == w) writes

-- Where in the log a write to the word last took effect: how many entries there are up to that one,
-- and 0 if none did. Entries before a place are given the newest first, and those after it the
-- oldest first.
abbrev pub last_effect : ℕ → List Entry → List Entry → ℕ
last_effect w [] later = 0
last_effect w (e ∷ earlier) later =
    if has_write w (effects_at earlier e.caller e.kind later) then length earlier + 1
    else last_effect w earlier (e ∷ later)

-- where in the log the caller's last lone commit stands
abbrev pub last_commit : ℕ → List Entry → ℕ
last_commit c [] = 0
last_commit c (e ∷ earlier) =
    if e.caller == c && is_lone_commit e.kind then length earlier + 1 else last_commit c earlier

-- the stamp of each caller's last lone commit inside a block, and the next one to be given
pub record CommitStamps : Type 0 where
  pub by_caller : List ℕ
  pub next : ℕ

-- these stamps of commits are given already
abbrev pub AreGiven : List ℕ → ℕ → Type 0
AreGiven by_caller next = (c : ℕ) → slice_index by_caller c < next

-- how many of the commits are before a stamp
abbrev pub rank : List ℕ → ℕ → ℕ
rank commits stamp = count_by (λ commit. nat_lt commit stamp) commits

-- each stamp is its rank now
pub record AreRanked (commits old new : List ℕ) : Type 0 where
  pub lengths : length new ≡ length old
  pub ranks : (i : ℕ) → i < length old → slice_index new i ≡ rank commits (slice_index old i)

-- The stamps of commits and words stand in the order of the log, for callers with a lone commit in
-- their open block, and the next stamp comes after all.
pub record AreOrdered (h : Header) (at : CommitStamps) (stamps : List ℕ) (earlier : List Entry)
    : Type 0 where
  pub commits : (c d : ℕ) → c < h.callers → d < h.callers
      → has_inner_commit c earlier ≡ true → has_inner_commit d earlier ≡ true
      → nat_lt (slice_index at.by_caller c) (slice_index at.by_caller d)
      ≡ nat_lt (last_commit c earlier) (last_commit d earlier)
  pub words : (c w : ℕ) → c < h.callers → w < length stamps → w < plain_words h
      → has_inner_commit c earlier ≡ true
      → nat_lt (slice_index at.by_caller c) (slice_index stamps w)
      ≡ nat_lt (last_commit c earlier) (last_effect w earlier [])
  pub given : AreGiven at.by_caller at.next
  pub past : (w : ℕ) → w < length stamps → slice_index stamps w ≤ at.next

-- the same order, among commits and between commits and words; the stamps may be others
pub record SameOrder (old : CommitStamps) (stamps : List ℕ) (new : CommitStamps) (stamps' : List ℕ)
    : Type 0 where
  pub callers : length new.by_caller ≡ length old.by_caller
  pub lengths : length stamps' ≡ length stamps
  pub commits : (c d : ℕ) → c < length old.by_caller → d < length old.by_caller
      → nat_lt (slice_index new.by_caller c) (slice_index new.by_caller d)
      ≡ nat_lt (slice_index old.by_caller c) (slice_index old.by_caller d)
  pub words : (c w : ℕ) → c < length old.by_caller → w < length stamps
      → nat_lt (slice_index new.by_caller c) (slice_index stamps' w)
      ≡ nat_lt (slice_index old.by_caller c) (slice_index stamps w)
  pub given : AreGiven new.by_caller new.next
  pub past : ((w : ℕ) → w < length stamps → slice_index stamps w ≤ old.next)
      → (w : ℕ) → w < length stamps → slice_index stamps' w ≤ new.next

-- the caller's commit has the next stamp, once the stamps may have become others in the same order,
-- and no higher ones
pub record IsAdded (c : ℕ) (old : CommitStamps) (stamps : List ℕ) (new : CommitStamps)
    (stamps' : List ℕ) : Type 0 where
  pub before : CommitStamps
  pub same : SameOrder old stamps before stamps'
  pub low : before.next ≤ old.next
  pub is : new ≡ record {
    by_caller = slice_set before.by_caller c before.next;
    next = before.next + 1;
  }

-- Whether a write to the word takes effect once the caller's entry stands: a write outside a block,
-- or one of the block that ends here. The words that the block has written are those that it holds.
abbrev pub takes_effect : List ℕ → Bool → ℕ → Kind → ℕ → Bool
takes_effect holders in_block c (Write word value) w = not in_block && (word == w)
takes_effect holders in_block c BlockClose w = slice_index holders w == c + 1
takes_effect holders in_block c BlockCommit w = slice_index holders w == c + 1
takes_effect holders in_block c _ w = false

-- the stamp of the writes that take effect then: that of the lone commit inside the block, or the
-- next
abbrev pub effect_stamp : CommitStamps → Bool → ℕ → ℕ
effect_stamp commits inner c = if inner then slice_index commits.by_caller c else commits.next

-- each of these words has at least this stamp now, and the others have the stamp that they had
pub record AreRaised (words : ℕ → Bool) (stamp : ℕ) (old new : List ℕ) : Type 0 where
  pub lengths : length new ≡ length old
  pub stamps : (w : ℕ) → w < length old
      → slice_index new w ≡ (if words w then max (slice_index old w) stamp else slice_index old w)
