-- Entries that commit.
use Rattle.vyrd_base.proofs.Prelude.{◌≡◌, inl, inr, ℕ, true, false, List, Some, None, refl, subst}
use Rattle.vyrd_base.proofs.Prelude.{sym, ◌⊎◌, Kind, Commit, BlockCommit, Entry, StartWord}
use Rattle.vyrd_base.proofs.Prelude.{call_or_return, commit_or_call, is_call, State, is_commit}
use Rattle.vyrd_base.proofs.Prelude.{returned, fault_of_commit, fault_at, place_of, Rules}
use Rattle.vyrd_base.proofs.BlockLaws.{entry}

-- a kind of entry that commits
pub data Commits : Kind → Type 0 where
  alone : Commits Commit
  with_block : Commits BlockCommit

pub commits_by : {kind : Kind} → (kind ≡ Commit) ⊎ (kind ≡ BlockCommit) → Commits kind
commits_by (inl is) = subst Commits (sym is) alone
commits_by (inr is) = subst Commits (sym is) with_block

pub commits_is : (kind : Kind) → Commits kind → is_commit kind ≡ true
commits_is _ alone = refl
commits_is _ with_block = refl

pub commits_inside : (kind : Kind) → Commits kind → call_or_return kind ≡ None
commits_inside _ alone = refl
commits_inside _ with_block = refl

pub commits_unreturned : (kind : Kind) → Commits kind → returned kind ≡ None
commits_unreturned _ alone = refl
commits_unreturned _ with_block = refl

pub commits_uncalled : (kind : Kind) → Commits kind → is_call kind ≡ false
commits_uncalled _ alone = refl
commits_uncalled _ with_block = refl

pub commits_called : (kind : Kind) → Commits kind → commit_or_call kind ≡ Some true
commits_called _ alone = refl
commits_called _ with_block = refl

pub fault_of_commit_kind : (r : Rules) (starting : List StartWord) (states : List State) (c : ℕ)
    (kind : Kind) (earlier later : List Entry)
    → Commits kind → fault_at r starting states (place_of (entry c kind) earlier later)
    ≡ fault_of_commit r starting states (place_of (entry c kind) earlier later)
unfolding fault_at
fault_of_commit_kind r starting states c _ earlier later alone = refl
fault_of_commit_kind r starting states c _ earlier later with_block = refl
