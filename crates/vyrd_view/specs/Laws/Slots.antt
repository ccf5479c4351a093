-- What slots give.
use Rattle.std.proofs.Common.{◌≡◌, ℕ, ◌+◌, ◌*◌, ◌/◌, ◌%◌, ◌^◌, ◌<◌, ◌≤◌, Bool, true, false, cond}
use Rattle.std.proofs.Common.{List, []}
use Rattle.std.proofs.Common.{◌∷◌, length, map, get_or, refl, ap, ◌∙◌, arith}
use Rattle.std.specs.Prelude.{◌==◌, slice_index}
use Rattle.vyrd_base.specs.declared.subject.Subject.TheVariants.{Multiset}
use Rattle.vyrd_base.specs.Places.{numbers_below}
use Rattle.vyrd_base.specs.Multiset.{slot_parts}
use Rattle.vyrd_base.specs.Amounts.{given, collected}
use Rattle.vyrd_base.proofs.SumLaws.{nothing_given}
use Rattle.vyrd_view.specs.Decoded.{AreGiven, words_of, pairs_by}
use Rattle.vyrd_view.specs.Known.{of_subject, view_by}
use Rattle.vyrd_view.specs.Pairs.{slot_gives}
use Rattle.vyrd_view.specs.Laws.Sums.{each_bounds, own_word, places_show}

-- a slot has 2 words and one place
pub slots_narrow : (1 ≤ 2) × (2 ≤ 64) × (1 ≤ 1) × (1 ≤ 4)
slots_narrow = (omega arith, omega arith, omega arith, omega arith)

pub slots_bounded : 1 ≤ 1
slots_bounded = omega arith

pub slots_few : (size : ℕ) → size ≤ 1024 → 4 * size ≤ 2 ^ 20
slots_few size small = omega (arith, small)

slot_at_most : (i j : ℕ) (own : List ℕ) → (slot_gives i own j).1 ≤ 1
slot_at_most i j own = by_state (slice_index own 0 == 2)
  where
    by_state : (b : Bool) → (cond {A = ℕ × ℕ} b (slice_index own 1, 1) (0, 0)).1 ≤ 1
    by_state true = omega arith
    by_state false = omega arith

-- each slot gives 1 at most
pub slots_fit : (size : ℕ) → size ≤ 1024 → (pairs : List (ℕ × ℕ)) (q : ℕ)
    → AreGiven 1 (4 * size) slot_gives pairs → given q pairs < 2 ^ 64
slots_fit size small pairs q are =
    let each : (i : ℕ) → i < length pairs → (get_or pairs i (0, 0)).1 ≤ 1 = λ i low.
    let one = are.each i low in
    omega (arith, ap (λ (p : ℕ × ℕ). p.1) one.is, slot_at_most (i / 1) (i % 1) one.own) in
    omega (arith, each_bounds 1 q pairs each, are.count, small)

slot_own : (q i : ℕ) (words : List ℕ)
    → given q (map (slot_gives i (words_of 2 i words)) (numbers_below 1))
    ≡ given q (slot_parts words i)
slot_own q i words =
    let zeroth : i * 2 + 0 ≡ 2 * i = omega arith in
    let first : i * 2 + 1 ≡ 2 * i + 1 = omega arith in
    let state : slice_index (words_of 2 i words) 0 ≡ slice_index words (2 * i) =
    own_word 2 i words 0 (omega arith) ∙ ap (slice_index words) zeroth in
    let value : slice_index (words_of 2 i words) 1 ≡ slice_index words (2 * i + 1) =
    own_word 2 i words 1 (omega arith) ∙ ap (slice_index words) first in
    ap (λ (s : ℕ). given q (cond {A = ℕ × ℕ} (s == 2) (slice_index (words_of 2 i words) 1, 1) (0, 0)
    ∷ [])) state
    ∙ ap (λ (v : ℕ). given q (cond {A = ℕ × ℕ} (slice_index words (2 * i) == 2) (v, 1) (0, 0) ∷ []))
    value
    ∙ by_state (slice_index words (2 * i) == 2)
  where
    by_state : (b : Bool)
        → given q (cond {A = ℕ × ℕ} b (slice_index words (2 * i + 1), 1) (0, 0) ∷ [])
        ≡ given q (cond {A = List (ℕ × ℕ)} b ((slice_index words (2 * i + 1), 1) ∷ []) [])
    by_state true = refl
    by_state false = omega (arith, nothing_given q 0)

-- the slots show what the multiset's parts give
pub slots_show : (size : ℕ) (words : List ℕ)
    → collected (pairs_by 2 1 (4 * size) slot_gives words)
    ≡ view_by (of_subject Multiset size) words
slots_show size words =
    places_show 2 1 slot_gives words (slot_parts words) (λ q i. slot_own q i words) (4 * size)
