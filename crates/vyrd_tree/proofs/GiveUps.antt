-- The leaf of a key, and when an insert gives up.
use Rattle.vyrd_tree.proofs.Prelude
use Prelude.{◌≡◌, ◌≢◌, ℕ, zero, suc, ◌+◌, ◌<◌, ◌≤◌, ◌^◌, ◌⊎◌, inl, inr, Bool, cond, Some, ◌∙◌, sym}
use Prelude.{arith, Header, Tree, Correct, Memory, state_in, alone, GivesUpWhere, insert_entry}
use Prelude.{is_past, leaf_from, leaf_of, HasNoRoom, zero_or, le_or, level_at, count_at, bound_at}
use Prelude.{right_at, last_in, Below, IsTree, after_of, after_falls, after_few, next_of, one_cover}
use Prelude.{zero_low, tree_represents, gives_up, past, not_past, LeafOf, InsertDone, insert_alone}
use Rattle.vyrd_base.specs.Amounts.{Amounts}

-- the links lead to the leaf that has the key in its range
leaf_found : (size : ℕ) (m : Memory) (low : ℕ → ℕ) (key : ℕ) → IsTree size m low → (left n : ℕ)
    → n ≤ last_in size m → level_at m n ≡ 0 → low n ≤ key
    → after_of (last_in size m) m low n < left → LeafOf size m low key (leaf_from left m key n)
leaf_found size m low key t zero n used leaf from more = absurd (omega (arith, more))
leaf_found size m low key t (suc left) n used leaf from more = by_bound (zero_or (bound_at m n))
    (le_or (bound_at m n) key) (leaf_found size m low key t left (right_at m n))
  where
    Found : Bool → Type 0
    Found beyond = LeafOf size m low key (cond beyond (leaf_from left m key (right_at m n)) n)

    here : Below key (bound_at m n) → Found (is_past (bound_at m n) key)
    here below = grind (arith, not_past (bound_at m n) key below)

    by_bound : (bound_at m n ≡ 0) ⊎ (bound_at m n ≢ 0) → (bound_at m n ≤ key) ⊎ (key < bound_at m n)
        → (right_at m n ≤ last_in size m → level_at m (right_at m n) ≡ 0 → low (right_at m n) ≤ key
        → after_of (last_in size m) m low (right_at m n) < left
        → LeafOf size m low key (leaf_from left m key (right_at m n))) → LeafOf size m low key
        (cond (is_past (bound_at m n) key) (leaf_from left m key (right_at m n)) n)
    by_bound (inl none) order later = here (λ some. absurd (some none))
    by_bound (inr some) (inr lt) later = here (λ some. lt)
    by_bound (inr some) (inl le) later = search (next_of, after_falls, last_in, past, arith)

-- the leaf of a key is a leaf in use that has the key in its range, and no other node is
pub leaf_stands : (h : Header) (m : Memory) (low : ℕ → ℕ) (key : ℕ) → IsTree h.size m low
    → LeafOf h.size m low key (leaf_of h m key)
leaf_stands h m low key t =
    let none = zero_low h.size m low t in
    let few = after_few (last_in h.size m) m low 0 (omega arith) in
    let fits = t.last_low in
    leaf_found h.size m low key t h.size 0 (omega arith) t.zero_leaf (omega (arith, none))
    (omega (arith, few, fits))

pub leaf_is : (h : Header) (m : Memory) (low : ℕ → ℕ) (key n : ℕ) → IsTree h.size m low
    → LeafOf h.size m low key n → leaf_of h m key ≡ n
leaf_is h m low key n t l =
    let found = leaf_stands h m _ key t in
    one_cover _ m _ t _ n key found.in_use l.in_use (found.leaf ∙ sym l.leaf) found.covers l.covers

pub insert_gives_up : (h : Header) (memory : Memory) (state : Amounts) (c key value : ℕ) → h.subject
    ≡ Tree
    → state_in h memory ≡ Some state → key < 2 ^ 32
    → value < 2 ^ 32
    → GivesUpWhere (HasNoRoom h memory state key)
    (alone c (insert_entry h Correct key value) memory)
insert_gives_up h memory state c key value is e small_key small =
    gives_up (HasNoRoom h memory state key) (InsertDone h memory state key value)
    (alone c (insert_entry h Correct key value) memory)
    (insert_alone h c memory state key value (tree_represents h memory state is e) small_key small)
    says
  where
    says : (reply : ℕ) (after : Memory) → InsertDone h memory state key value reply after
        → (reply ≡ 0 → HasNoRoom h memory state key) × (HasNoRoom h memory state key → reply ≡ 0)
    says reply after (inl d) = (
      λ none. record {
        absent = d.1;
        full = cc (leaf_is h memory d.3.0 key d.3.1 d.3.2 d.3.3, d.3.4);
        no_node = d.4;
      },
      λ room. d.0,
    )
    says reply after (inr (inl d)) = (
      λ none. absurd (let one = d.0 in omega (arith, none, one)),
      λ room. absurd
          (with_room d.3.4
          (cc (leaf_is h memory d.3.0 key d.3.1 d.3.2 d.3.3, room.full)) room.no_node),
    )
      where
        with_room : (count_at memory d.3.1 < 4) ⊎ (last_in h.size memory + 1 < h.size)
            → count_at memory d.3.1 ≡ 4
            → h.size ≤ last_in h.size memory + 1 → ⊥
        with_room (inl less) full none = omega (arith, less, full)
        with_room (inr room) full none = omega (arith, room, none)
    says reply after (inr (inr d)) = grind arith
