-- What pairs in places give to a key, and what all parts give together.
use Rattle.std.proofs.Common.{◌≡◌, ℕ, zero, suc, ◌+◌, ◌-◌, ◌*◌, ◌/◌, ◌%◌, ◌<◌, ◌≤◌, Bool, true}
use Rattle.std.proofs.Common.{false}
use Rattle.std.proofs.Common.{List, [], ◌∷◌, ◌++◌, length, map, get_or, drop, take, refl, ap, ◌∙◌}
use Rattle.std.proofs.Common.{sym}
use Rattle.std.proofs.Common.{arith}
use Rattle.std.specs.Prelude.{◌==◌, ◌≢◌, flat_map, slice_index}
use Rattle.std.proofs.lemmas.List.{map-append, get_or-take, get_or-drop}
use Rattle.std.proofs.lemmas.Nat.{div-mul-add, mod-mul-add}
use Rattle.vyrd_base.specs.Places.{numbers_below}
use Rattle.vyrd_base.specs.Amounts.{given, part_given, collected}
use Rattle.vyrd_base.proofs.AddedLaws.{parts-push}
use Rattle.vyrd_base.proofs.AmountLaws.{same_amounts}
use Rattle.vyrd_base.proofs.PlaceLaws.{numbers_below-push, map_alike}
use Rattle.vyrd_base.proofs.SumLaws.{given-append, other_part, part_at_most}
use Rattle.vyrd_base.proofs.SumLaws.{amount_of-collected, IsAmounts-collected}
use Rattle.vyrd_base.proofs.TestLaws.{same_of, apart_of}
use Rattle.vyrd_view.specs.Decoded.{Gives, words_of, pair_at, pairs_by}

-- pairs that give this much each at most
pub each_bounds : (most q : ℕ) (pairs : List (ℕ × ℕ))
    → ((i : ℕ) → i < length pairs → (get_or pairs i (0, 0)).1 ≤ most)
    → given q pairs ≤ length pairs * most
each_bounds most q [] each = omega arith
each_bounds most q (p ∷ pairs) each =
    let first : p.1 ≤ most = each 0 (omega arith) in
    let rest : given q pairs ≤ length pairs * most =
    each_bounds most q pairs (λ i low. each (suc i) (omega (arith, low))) in
    omega (arith, first, part_at_most q p.0 p.1, rest)

-- pairs none of which has the key
pub given_none : (q : ℕ) (pairs : List (ℕ × ℕ))
    → ((i : ℕ) → i < length pairs → (get_or pairs i (0, 0)).0 ≢ q) → given q pairs ≡ 0
given_none q [] apart = refl
given_none q (p ∷ pairs) apart =
    let elsewhere : q ≢ p.0 = λ same. apart 0 (omega arith) (sym same) in
    omega (
      arith,
      other_part q p.0 p.1 elsewhere,
      given_none q pairs (λ i low. apart (suc i) (omega (arith, low))),
    )

-- pairs no two of which have one key
pub apart_bounds : (most q : ℕ) (pairs : List (ℕ × ℕ))
    → ((i j : ℕ) → i < length pairs → j < length pairs → i ≢ j
    → (get_or pairs i (0, 0)).0 ≢ (get_or pairs j (0, 0)).0)
    → ((i : ℕ) → i < length pairs → (get_or pairs i (0, 0)).1 ≤ most) → given q pairs ≤ most
apart_bounds most q [] apart each = omega arith
apart_bounds most q (p ∷ pairs) apart each = by_test (q == p.0) refl
    (apart_bounds most q pairs
    (λ i j low lower other. apart (suc i) (suc j) (omega (arith, low)) (omega (arith, lower))
    (λ same. other (omega (arith, same))))
    (λ i low. each (suc i) (omega (arith, low))))
  where
    first : p.1 ≤ most
    first = each 0 (omega arith)

    rest : (i : ℕ) → i < length pairs → (get_or pairs i (0, 0)).0 ≢ p.0
    rest i low same = apart (suc i) 0 (omega (arith, low)) (omega arith)
        (λ none. absurd (omega (arith, none))) same

    by_test : (b : Bool) → (q == p.0) ≡ b → given q pairs ≤ most → given q (p ∷ pairs) ≤ most
    by_test true e others =
        let none : given q pairs ≡ 0 = given_none q pairs
        (λ i low same. rest i low (same ∙ same_of q p.0 e)) in
        omega (arith, first, part_at_most q p.0 p.1, none)
    by_test false e others = omega (arith, other_part q p.0 p.1 (apart_of q p.0 e), others)

-- one place more
pub mapped-push : {A : Type 0} (f : ℕ → A) (n : ℕ)
    → map f (numbers_below (n + 1)) ≡ map f (numbers_below n) ++ f n ∷ []
mapped-push f n = ap (map f) (numbers_below-push n) ∙ map-append f (numbers_below n) (n ∷ [])

pub given_map_push : (q : ℕ) (f : ℕ → ℕ × ℕ) (m : ℕ)
    → given q (map f (numbers_below (m + 1)))
    ≡ given q (map f (numbers_below m)) + part_given q (f m)
given_map_push q f m =
    let alone : given q (f m ∷ []) ≡ part_given q (f m) = omega arith in
    omega (
      arith,
      ap (given q) (mapped-push f m),
      given-append q (map f (numbers_below m)) (f m ∷ []),
      alone,
    )

-- k places more
given_map_more : (q : ℕ) (f : ℕ → ℕ × ℕ) (m k : ℕ)
    → given q (map f (numbers_below (m + k)))
    ≡ given q (map f (numbers_below m)) + given q (map (λ j. f (m + j)) (numbers_below k))
given_map_more q f m zero =
    let none : m + 0 ≡ m = omega arith in
    ap (λ n. given q (map f (numbers_below n))) none ∙ omega arith
given_map_more q f m (suc k) =
    let more : m + suc k ≡ m + k + 1 = omega arith in
    let one : suc k ≡ k + 1 = omega arith in
    ap (λ n. given q (map f (numbers_below n))) more
    ∙ omega (
      arith,
      given_map_push q f (m + k),
      given_map_more q f m k,
      ap (λ n. given q (map (λ j. f (m + j)) (numbers_below n))) one,
      given_map_push q (λ j. f (m + j)) k,
    )

-- one part more
pub given_flat_push : (q : ℕ) (g : ℕ → List (ℕ × ℕ)) (n : ℕ)
    → given q (flat_map g (numbers_below (n + 1)))
    ≡ given q (flat_map g (numbers_below n)) + given q (g n)
given_flat_push q g n =
    ap (given q) (parts-push g n) ∙ given-append q (flat_map g (numbers_below n)) (g n)

-- a word of a part
pub own_word : (width part : ℕ) (words : List ℕ) (i : ℕ) → i < width
    → slice_index (words_of width part words) i ≡ slice_index words (part * width + i)
own_word width part words i low =
    let from : ℕ = part * width in
    let all : from + width - from ≡ width = omega arith in
    ap (λ n. get_or (take n (drop from words)) i 0) all
    ∙ get_or-take width (drop from words) i 0 low ∙ get_or-drop from words i 0

module _ (width places : ℕ) (gives : Gives) (words : List ℕ) where
  -- a place of a part
  pub place_of : (part j : ℕ) → j < places
      → pair_at width places gives words (part * places + j)
      ≡ gives part (words_of width part words) j
  place_of part j low =
      let here : (part * places + j) / places ≡ part = div-mul-add part places j low in
      let there : (part * places + j) % places ≡ j = mod-mul-add part places j low in
      ap (λ p. gives p (words_of width p words) ((part * places + j) % places)) here
      ∙ ap (gives part (words_of width part words)) there

  -- If the places of each part give what the part gives, all places give what all parts give.
  pub places_give : (q : ℕ) (parts : ℕ → List (ℕ × ℕ))
      → ((p : ℕ) → given q (map (gives p (words_of width p words)) (numbers_below places))
      ≡ given q (parts p))
      → (n : ℕ) → given q (pairs_by width places n gives words)
      ≡ given q (flat_map parts (numbers_below n))
  places_give q parts each zero =
      let none : 0 * places ≡ 0 = omega arith in
      ap (λ k. given q (map (pair_at width places gives words) (numbers_below k))) none
  places_give q parts each (suc n) =
      let one : suc n ≡ n + 1 = omega arith in
      let more : suc n * places ≡ n * places + places = omega arith in
      let f : ℕ → ℕ × ℕ = pair_at width places gives words in
      let own : ℕ → ℕ × ℕ = gives n (words_of width n words) in
      ap (λ k. given q (map f (numbers_below k))) more
      ∙ omega (
        arith,
        given_map_more q f (n * places) places,
        places_give q parts each n,
        ap (given q) (map_alike (λ j. f (n * places + j)) own places (place_of n)),
        each n,
        given_flat_push q parts n,
      )
      ∙ sym (ap (λ k. given q (flat_map parts (numbers_below k))) one)

  -- and so they show the same
  pub places_show : (parts : ℕ → List (ℕ × ℕ))
      → ((q p : ℕ) → given q (map (gives p (words_of width p words)) (numbers_below places))
      ≡ given q (parts p))
      → (n : ℕ) → collected (pairs_by width places n gives words)
      ≡ collected (flat_map parts (numbers_below n))
  places_show parts each n =
      let shown : List (ℕ × ℕ) = pairs_by width places n gives words in
      let all : List (ℕ × ℕ) = flat_map parts (numbers_below n) in
      same_amounts (collected shown) (collected all) (IsAmounts-collected shown)
      (IsAmounts-collected all)
      (λ q. amount_of-collected shown q ∙ places_give q parts (each q) n
      ∙ sym (amount_of-collected all q))
