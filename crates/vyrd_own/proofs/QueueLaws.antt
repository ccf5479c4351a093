-- Lists with two ends, and the room in them.
use Rattle.vyrd_own.proofs.Prelude.{◌≡◌, ℕ, List, [], ◌∷◌, refl, ap, ◌∙◌, arith, ◌<◌, ◌≤◌, length}
use Rattle.vyrd_own.proofs.Prelude.{take, zero, suc, map, slice_index_or, slice_set, Queued}
use Rattle.vyrd_own.proofs.Prelude.{queue_at, listed}

-- what the lists hold
abbrev pub all_items : List Queued → List (List ℕ)
all_items lists = map (λ q. q.items) lists

listed_items : (lists : List Queued) (i : ℕ) → listed (all_items lists) i ≡ (queue_at lists i).items
listed_items [] i = refl
listed_items (q ∷ lists) zero = refl
listed_items (q ∷ lists) (suc i) = listed_items lists i

set_items : (lists : List Queued) (i : ℕ) (q : Queued) → all_items (slice_set lists i q)
    ≡ slice_set (all_items lists) i q.items
set_items [] i q = refl
set_items (x ∷ lists) zero q = refl
set_items (x ∷ lists) (suc i) q = ap (λ rest. x.items ∷ rest) (set_items lists i q)

there : (lists : List Queued) (i : ℕ) (q : Queued) → i < length lists → q ≡ slice_index_or lists i q
    → q ≡ queue_at lists i
there [] i q low is = absurd (omega arith)
there (x ∷ lists) zero q low is = is
there (x ∷ lists) (suc i) q low is = there lists i q (omega arith) is

-- a list that was changed, as the lists are seen
pub items_changed : (lists : List Queued) (i : ℕ) (before after : Queued) (items : List ℕ → List ℕ)
    → i < length lists
    → before ≡ slice_index_or lists i before → after.items ≡ items before.items
    → all_items (slice_set lists i after) ≡ slice_set (all_items lists) i
    (items (listed (all_items lists) i))
items_changed lists i before after items low is changed =
    grind (arith, after, changed, set_items, there, listed_items)

same_set : (all : List (List ℕ)) (i : ℕ) → slice_set all i (listed all i) ≡ all
same_set [] i = refl
same_set (x ∷ all) zero = refl
same_set (x ∷ all) (suc i) = ap (λ rest. x ∷ rest) (same_set all i)

pub items_same : (lists : List Queued) (i : ℕ) (before after : Queued) → i < length lists
    → before ≡ slice_index_or lists i before → after.items ≡ before.items
    → all_items (slice_set lists i after) ≡ all_items lists
items_same lists i before after low is same =
    items_changed lists i before after (λ items. items) low is same ∙ same_set (all_items lists) i

pub all_taken : {A : Type 0} (xs : List A) (k : ℕ) → length xs ≤ k → take k xs ≡ xs
all_taken [] zero h = refl
all_taken [] (suc k) h = refl
all_taken (x ∷ xs) zero h = absurd (omega arith)
all_taken (x ∷ xs) (suc k) h = ap (λ rest. x ∷ rest) (all_taken xs k (omega arith))
