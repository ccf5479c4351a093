-- What the parts of a specification give is what its words show.
use Rattle.std.proofs.Common.{◌≡◌, ℕ, zero, suc, ◌+◌, ◌*◌, ◌/◌, ◌≤◌, Bool, true, false, cond}
use Rattle.std.proofs.Common.{List, [], ◌∷◌, ◌++◌, length, map, get_or, take, refl, ap, ◌∙◌, sym}
use Rattle.std.proofs.Common.{arith}
use Rattle.std.specs.Prelude.{◌==◌, nat_lt, flat_map, replicate, slice_range, slice_index_or}
use Rattle.std.specs.List.{list_all}
use Rattle.std.proofs.lemmas.Nat.{div-mul-add}
use Rattle.std.proofs.Math.Seq.{take-suc}
use Rattle.std.proofs.lemmas.List.{get_or_past, length-map}
use Rattle.vyrd_base.specs.Amounts.{given, part_given, collected}
use Rattle.vyrd_base.specs.Places.{numbers_from, numbers_below}
use Rattle.vyrd_base.proofs.SumLaws.{nothing_given, given-append}
use Rattle.vyrd_base.proofs.TestLaws.{below_of, not_below_of}
use Rattle.vyrd_own.proofs.QueueLaws.{all_taken}
use Rattle.vyrd_base.specs.Own.Programs.{Written}
use Rattle.vyrd_base.specs.Own.OwnRules.{own_view}
use Rattle.vyrd_base.specs.Own.Steps.{given_by, part_gives, part_words, view_of}
use Rattle.vyrd_view.specs.Decoded.{words_of, pairs_by}
use Rattle.vyrd_view.specs.Laws.Sums.{places_show, given_map_push}
use Rattle.vyrd_own_spec.specs.Parts.{width_of, own_gives, AreFew}

-- words that are all 0 give nothing
all_zero : (n : ℕ) → list_all (λ word. word == 0) (replicate n 0) ≡ true
all_zero zero = refl
all_zero (suc n) = all_zero n

pub own_quiet : (w : Written) (width part j : ℕ) → (own_gives w part (replicate width 0) j).1 ≡ 0
unfolding part_gives
own_quiet w width part j = by_test (w.words == 0) (list_all (λ word. word == 0) (replicate width 0))
    (all_zero width)
  where
    by_test : (b c : Bool) → c ≡ true
        → (cond {A = ℕ × ℕ} b (0, 0)
        (slice_index_or
        (cond c [] (map (given_by (w.constants ++ part ∷ replicate width 0)) w.shows)) j (0, 0))).1
        ≡ 0
    by_test true c e = refl
    by_test false true e = refl
    by_test false false e = cc

-- the first places of a list give what its first elements give
given_first : (q : ℕ) (pairs : List (ℕ × ℕ)) (n : ℕ)
    → given q (map (λ j. get_or pairs j (0, 0)) (numbers_below n)) ≡ given q (take n pairs)
given_first q pairs zero = refl
given_first q pairs (suc n) =
    let one : suc n ≡ n + 1 = omega arith in
    ap (λ m. given q (map (λ j. get_or pairs j (0, 0)) (numbers_below m))) one
    ∙ given_map_push q (λ j. get_or pairs j (0, 0)) n
    ∙ by_end (nat_lt n (length pairs)) refl (given_first q pairs n)
  where
    by_end : (b : Bool) → nat_lt n (length pairs) ≡ b
        → given q (map (λ j. get_or pairs j (0, 0)) (numbers_below n)) ≡ given q (take n pairs)
        → given q (map (λ j. get_or pairs j (0, 0)) (numbers_below n)) + part_given q
        (get_or pairs n (0, 0))
        ≡ given q (take (suc n) pairs)
    by_end true e rest =
        let alone : given q (get_or pairs n (0, 0) ∷ []) ≡ part_given q (get_or pairs n (0, 0)) =
        omega arith in
        omega (
          arith,
          rest,
          alone,
          given-append q (take n pairs) (get_or pairs n (0, 0) ∷ []),
          ap (given q) (take-suc pairs n (0, 0) (below_of n (length pairs) e)),
        )
    by_end false e rest =
        let past : length pairs ≤ n = not_below_of n (length pairs) e in
        omega (
          arith,
          rest,
          ap (part_given q) (get_or_past pairs n (0, 0) past),
          nothing_given q 0,
          ap (given q) (all_taken pairs n past),
          ap (given q) (all_taken pairs (suc n) (omega arith)),
        )

-- all of a list
pub all_given : (q : ℕ) (pairs : List (ℕ × ℕ)) (n : ℕ) → length pairs ≤ n
    → given q (map (λ j. get_or pairs j (0, 0)) (numbers_below n)) ≡ given q pairs
all_given q pairs n few = given_first q pairs n ∙ ap (given q) (all_taken pairs n few)

-- nothing is given
pub none_given : (q n : ℕ) → given q (map (λ j. let p : ℕ × ℕ = (0, 0) in p) (numbers_below n)) ≡ 0
none_given q n = all_given q [] n (omega arith)

none_shown : (k n : ℕ) → flat_map (λ i. let none : List (ℕ × ℕ) = [] in none) (numbers_from k n)
    ≡ []
none_shown k zero = refl
none_shown k (suc n) = none_shown (k + 1) n

flat_alike : (f g : ℕ → List (ℕ × ℕ)) → ((i : ℕ) → f i ≡ g i) → (ns : List ℕ) → flat_map f ns
    ≡ flat_map g ns
flat_alike f g same [] = refl
flat_alike f g same (n ∷ ns) = ap (λ xs. xs ++ flat_map f ns) (same n)
    ∙ ap (λ xs. g n ++ xs) (flat_alike f g same ns)

-- a part gives to no more keys than there are lines
pub few_gives : (w : Written) (part : ℕ) (words : List ℕ) → length (part_gives w part words)
    ≤ length w.shows
unfolding part_gives
few_gives w part words = by_test (list_all (λ word. word == 0) words)
  where
    by_test : (b : Bool) → length (cond b [] (map (given_by (w.constants ++ part ∷ words)) w.shows))
        ≤ length w.shows
    by_test true = omega arith
    by_test false = omega (arith, length-map w.shows (given_by (w.constants ++ part ∷ words)))

-- all words, as the parts have them
own_words : (w : Written) (width : ℕ) (words : List ℕ) → width ≡ w.words → (p : ℕ)
    → part_gives w p (part_words w words p) ≡ part_gives w p (words_of width p words)
own_words w width words is p =
    let turned : width * p ≡ p * width = omega arith in
    ap (λ k. part_gives w p (slice_range words (k * p) (k * p + k))) (sym is)
    ∙ ap (λ k. part_gives w p (slice_range words k (k + width))) turned

whole_view : (w : Written) (width parts : ℕ) (words : List ℕ) → width ≡ w.words → 1 ≤ width
    → length words ≡ parts * width
    → view_of w words
    ≡ collected (flat_map (λ p. part_gives w p (words_of width p words)) (numbers_below parts))
unfolding view_of
whole_view w width parts words is wide count =
    let even : length words ≡ parts * width + 0 = omega (arith, count) in
    let quotient : length words / w.words ≡ parts =
    ap (λ k. length words / k) (sym is) ∙ ap (λ n. n / width) even ∙ div-mul-add parts width 0
    (omega arith) in
    ap (λ n. collected (flat_map (λ i. part_gives w i (part_words w words i)) (numbers_below n)))
    quotient
    ∙ ap collected
    (flat_alike (λ i. part_gives w i (part_words w words i))
    (λ p. part_gives w p (words_of width p words))
    (own_words w width words is) (numbers_below parts))

pub own_shown : (w : Written) {width places parts : ℕ} (words : List ℕ) → width ≡ width_of w
    → AreFew w width places parts
    → length words ≡ parts * width
    → collected (pairs_by width places parts (own_gives w) words) ≡ own_view w words
own_shown w {width} {places} {parts} words wide few count = by_test (w.words == 0) wide
  where
    by_test : (b : Bool) → width ≡ cond b 1 w.words
        → collected (pairs_by width places parts
        (λ part own j. cond {A = ℕ × ℕ} b (0, 0) (slice_index_or (part_gives w part own) j (0, 0)))
        words)
        ≡ cond b [] (view_of w words)
    by_test true is =
        places_show width places (λ part own j. let p : ℕ × ℕ = (0, 0) in p) words (λ i. [])
        (λ q p. none_given q places) parts
        ∙ ap collected (none_shown 0 parts)
    by_test false is =
        places_show width places (λ part own j. slice_index_or (part_gives w part own) j (0, 0))
        words
        (λ p. part_gives w p (words_of width p words))
        (λ q p. all_given q (part_gives w p (words_of width p words)) places
        (omega (arith, few_gives w p (words_of width p words), few.shows))) parts
        ∙ sym (whole_view w width parts words is few.wide count)

pub own_narrow : {w : Written} {width places parts : ℕ} → AreFew w width places parts
    → (1 ≤ width) × (width ≤ 64) × (1 ≤ places) × (places ≤ 4)
own_narrow few = (few.wide, omega (arith, few.narrow), few.some, few.few)
