-- Laws of the events that are held by their numbers.
use Rattle.std.proofs.Common.{◌≡◌, ℕ, zero, suc, ◌+◌, ◌-◌, ◌<◌, ◌≤◌, List, [], ◌∷◌, ◌++◌, length}
use Rattle.std.proofs.Common.{take, drop, replicate, false, Option, None, refl, sym, ◌∙◌, arith}
use Rattle.std.proofs.Common.{eq-eqb, ne_eqb}
use Rattle.std.specs.Prelude.{◌==◌, slice_index_or, slice_set, is_some, if◌then◌else◌}
use Rattle.std.proofs.lemmas.List.{take_all, get_or-set_same, get_or-set_other}
use mathlib.Core.Logic.{dite}
use native.Mathlib.Decide.{ℕ_discrete}
use Rattle.std.specs.Ordering.{nat_cmp}
use Rattle.std.specs.Map.{lookup}
use Rattle.std.specs.BTreeMap.{is_at}
use Rattle.vyrd_base.specs.declared.history.Stamped.{Stamped}
use Rattle.vyrd_relay.specs.Numbers.{ReorderKept, or_else, held, has, AreNumbered, AreToCome}

-- an empty place at the end of a list is no other than a place past the end
pub more_places : (near : List (Option Stamped)) (n i : ℕ)
    → slice_index_or (near ++ replicate n None) i None ≡ slice_index_or near i None
more_places [] zero i = refl
more_places [] (suc n) zero = refl
more_places [] (suc n) (suc i) = more_places [] n i
more_places (x ∷ xs) n zero = refl
more_places (x ∷ xs) n (suc i) = more_places xs n i

-- and so it is if the list is made that long
pub places_kept : (near after : List (Option Stamped)) (n more : ℕ) → length near ≤ n
    → after ≡ take n near ++ replicate more None
    → (i : ℕ) → slice_index_or after i None ≡ slice_index_or near i None
places_kept near after n more short is i = search (take_all, more_places, arith)

-- one place is filled, and the others are as they were
pub place_set : (before near : List (Option Stamped)) (place : ℕ) (x : Option Stamped)
    → place < length near
    → ((i : ℕ) → slice_index_or near i None ≡ slice_index_or before i None)
    → (i : ℕ) → slice_index_or (slice_set near place x) i None
    ≡ (if i == place then x else slice_index_or before i None)
place_set before near place x room same i = dite (ℕ_discrete i place)
    (λ is. cc (get_or-set_same near place x None room, eq-eqb i place is))
    (λ apart. get_or-set_other near place i x None apart ∙ same i ∙ sym (cc (ne_eqb i place apart)))

-- those before the next number were handed out, and aren't held
pub none_before : (k : ReorderKept) (n : ℕ) → n < k.next → held k n ≡ None
none_before k n l = grind arith

-- the event from the next number on
pub found_from : (k : ReorderKept) (n : ℕ) → k.next ≤ n
    → held k n ≡ or_else (slice_index_or k.near (n - k.next) None)
    (lookup (is_at (nat_cmp n)) k.far)
found_from k n l = grind arith

-- the next number has gone by, and the events after it are as they were
pub held_after : (k after : ReorderKept) → after.next ≡ k.next + 1 → after.near ≡ drop 1 k.near
    → ((n : ℕ) → k.next < n → lookup (is_at (nat_cmp n)) after.far
    ≡ lookup (is_at (nat_cmp n)) k.far)
    → (n : ℕ) → k.next < n → held after n ≡ held k n
held_after k after next near far n l = search (found_from, or_else, is_at, arith)

-- and so each event still has its own number
pub numbered_after : (k after : ReorderKept) → after.next ≡ k.next + 1
    → ((n : ℕ) → k.next < n → held after n ≡ held k n) → AreNumbered k → AreNumbered after
numbered_after k after next same all = search (none_before, arith)

-- a number that isn't held and wasn't handed out isn't among the far ones
pub far_free : (k : ReorderKept) (n : ℕ) → has k n ≡ false → lookup (is_at (nat_cmp n)) k.far ≡ None
far_free k n free = search (is_at, is_some, or_else, arith)

-- the next number has gone by, and isn't among the far ones
pub come_after : (k after : ReorderKept) → after.next ≡ k.next + 1
    → lookup (is_at (nat_cmp k.next)) after.far ≡ None
    → ((n : ℕ) → n < k.next → lookup (is_at (nat_cmp n)) after.far
    ≡ lookup (is_at (nat_cmp n)) k.far) → AreToCome k → AreToCome after
come_after k after next own same all n low = search (is_at, arith)
