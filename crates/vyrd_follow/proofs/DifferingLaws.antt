-- Two lists of amounts, key by key from the least on.
use Rattle.vyrd_follow.proofs.Prelude
use Prelude.{◌≡◌, ℕ, zero, suc, ◌+◌, ◌<◌, ◌≤◌, Bool, true, false, cond, not, ◌||◌, T, List, [], ◌∷◌}
use Prelude.{◌++◌, map, length, drop, Some, None, refl, ap, ◌∙◌, sym, subst, arith, append_assoc}
use Prelude.{append-nil, ◌==◌, ◌≢◌, slice_get, nat_cmp, is_lt, below_all, or_right, same_Some}
use Prelude.{Amounts, IsAmounts, amount_of, first_of_and, second_of_and, is_in, same_of, is_same}
use Prelude.{isnt_same, same_number, flipped, differ_at, differences, turned_to, turns}
use Rattle.vyrd_base.proofs.AmountLaws.{apart_from}
use Rattle.vyrd_base.proofs.TestLaws.{lower_isnt, at_most_of, above_of}
use Rattle.vyrd_follow.proofs.DifferenceLaws.{AllAbove, amount_of-cons, differences_are}
use Rattle.vyrd_follow.proofs.DifferenceLaws.{differences_rise, among_differences, true_false}
use Rattle.vyrd_follow.proofs.DifferenceLaws.{first_among}

-- ---- amounts without their least key

absent_below : (xs : Amounts) (k q : ℕ) → q ≤ k → T (below_all nat_cmp k xs) → amount_of xs q ≡ 0
absent_below [] k q le below = refl
absent_below (x ∷ xs) k q le below =
    amount_of-cons x xs q
    ∙ ap (λ b. cond b x.1 (amount_of xs q)) (apart_from k q x.0 le (first_of_and _ _ below))
    ∙ absent_below xs k q le (second_of_and (is_lt (nat_cmp k x.0)) _ below)

-- the rest of amounts of which no other key is at or below this one
pub record Without (k : ℕ) (a rest : Amounts) : Type 0 where
  pub others : (q : ℕ) → (q == k) ≡ false → amount_of a q ≡ amount_of rest q
  pub above : (q : ℕ) → q ≤ k → amount_of rest q ≡ 0

pub without_first : (x : ℕ × ℕ) (rest : Amounts) → IsAmounts (x ∷ rest)
    → Without x.0 (x ∷ rest) rest
without_first x rest is = search (amount_of-cons, absent_below, first_of_and, arith)

pub without_none : (k : ℕ) → Without k [] []
without_none k = record { others = λ q other. refl; above = λ q low. refl }

pub without_greater : (k : ℕ) (x : ℕ × ℕ) (rest : Amounts) → IsAmounts (x ∷ rest) → k < x.0
    → Without k (x ∷ rest) (x ∷ rest)
without_greater k x rest is low = search
    (amount_of-cons, lower_isnt, absent_below, first_of_and, arith)

pub at_first : (x : ℕ × ℕ) (rest : Amounts) → amount_of (x ∷ rest) x.0 ≡ x.1
at_first x rest = cc (amount_of-cons x rest x.0, same_number x.0)

-- ---- the least key first

all_above : (k : ℕ) (ks : List ℕ) → ((q : ℕ) → is_in q ks ≡ true → k < q) → AllAbove k ks
all_above k [] each = tt
all_above k (x ∷ ks) each = (
  each x (first_among x ks),
  all_above k ks (λ q among. each q (or_right (x == q) (is_in q ks) among)),
)

map_same : {A : Type 0} (f g : ℕ → A) (ks : List ℕ) → ((q : ℕ) → is_in q ks ≡ true → f q ≡ g q)
    → map f ks ≡ map g ks
map_same f g [] same = refl
map_same f g (k ∷ ks) same = ap (λ x. x ∷ map f ks) (same k (first_among k _))
    ∙ ap (λ xs. g k ∷ xs)
    (map_same f g ks (λ q among. same q (or_right (k == q) (is_in q _) among)))

module _ (k : ℕ) (a b c d : Amounts) (ours : Without k a c) (theirs : Without k b d) where
  agree_below : (q : ℕ) → q ≤ k → differ_at c d q ≡ false
  agree_below q low = ap not (is_same (amount_of c q) (amount_of d q)
      (ours.above q low ∙ sym (theirs.above q low)))

  differ_elsewhere : (q : ℕ) → (q == k) ≡ false → differ_at c d q ≡ differ_at a b q
  differ_elsewhere q other = cc (ours.others q other, theirs.others q other)

  above_k : (q : ℕ) → is_in q (differences c d) ≡ true → k < q
  above_k q among = search
      (true_false, differ_at, among_differences, agree_below, at_most_of, above_of, arith)

  first_differs : differ_at a b k ≡ true → k ∷ differences c d ≡ differences a b
  first_differs differ = differences_are a b (k ∷ differences c d)
      (all_above k (differences c d) above_k, differences_rise c d) (λ q. by_test q (k == q) refl)
    where
      by_test : (q : ℕ) (t : Bool) → (k == q) ≡ t
          → (k == q || is_in q (differences c d)) ≡ differ_at a b q
      by_test q t here = search
          (differ_at, same_of, among_differences, differ_elsewhere, flipped, arith)

  first_agrees : differ_at a b k ≡ false → differences c d ≡ differences a b
  first_agrees agree = differences_are a b _ (differences_rise c d) (λ q. by_test q (k == q) refl)
    where
      by_test : (q : ℕ) (t : Bool) → (k == q) ≡ t → is_in q (differences c d) ≡ differ_at a b q
      by_test q true here = search (same_of, among_differences, agree_below, differ_at, arith)
      by_test q false other = search (among_differences, differ_elsewhere, flipped, arith)

  rest_turns : map (turned_to d) (differences c d) ≡ map (turned_to b) (differences c d)
  rest_turns = search (map_same, isnt_same, above_k, arith)

  -- the least key turns first, if it does
  pub turns_first : amount_of a k ≢ amount_of b k → (k, amount_of b k) ∷ turns c d ≡ turns a b
  turns_first apart = search (rest_turns, first_differs, isnt_same, arith)

  pub turns_later : amount_of a k ≡ amount_of b k → turns c d ≡ turns a b
  turns_later same = search (rest_turns, first_agrees, is_same, arith)

-- ---- what stands behind places

rest_is_formed : (x : ℕ × ℕ) (rest : Amounts) → IsAmounts (x ∷ rest) → IsAmounts rest
rest_is_formed x rest is = search (second_of_and, below_all, arith)

pub formed_behind : (s : Amounts) (i : ℕ) → IsAmounts s → IsAmounts (drop i s)
formed_behind s zero is = is
formed_behind [] (suc i) is = is
formed_behind (x ∷ s) (suc i) is = formed_behind s i (rest_is_formed x s is)

pub behind_is : (s : Amounts) (i : ℕ) (x : ℕ × ℕ) → slice_get s i ≡ Some x
    → drop i s ≡ x ∷ drop (i + 1) s
behind_is [] i x is = cc
behind_is (y ∷ s) zero x is = ap (λ z. z ∷ s) (same_Some y x is)
behind_is (y ∷ s) (suc i) x is =
    let next : suc i + 1 ≡ suc (i + 1) = omega arith in
    behind_is s i x is ∙ ap (λ n. x ∷ drop n (y ∷ s)) (sym next)

pub none_behind : (s : Amounts) (i : ℕ) → slice_get s i ≡ None → drop i s ≡ []
none_behind [] zero is = refl
none_behind [] (suc i) is = refl
none_behind (y ∷ s) zero is = cc
none_behind (y ∷ s) (suc i) is = none_behind s i is

pub none_here : (s : Amounts) (i k : ℕ) → slice_get s i ≡ None → Without k (drop i s) (drop i s)
none_here s i k is = subst (λ d. Without k d d) (sym (none_behind s i is)) (without_none k)

pub greater_here : (s : Amounts) (i k : ℕ) (x : ℕ × ℕ) → IsAmounts s → slice_get s i ≡ Some x
    → k < x.0 → Without k (drop i s) (drop i s)
greater_here s i k x formed is low =
    let here = behind_is s i x is in
    rw here (without_greater k x _ (subst IsAmounts here (formed_behind s i formed)) low)

-- ---- one key is passed

module _ (before after : Amounts) (i j : ℕ) (x : ℕ × ℕ) (found pushed : List (ℕ × ℕ))
    (formed : IsAmounts before) (formed_after : IsAmounts after) where
  first_here : slice_get before i ≡ Some x → IsAmounts (x ∷ drop (i + 1) before)
  first_here is = subst IsAmounts (behind_is before i x is) (formed_behind before i formed)

  -- it is there before alone
  pub gone : slice_get before i ≡ Some x → Without x.0 (drop j after) (drop j after)
      → pushed ≡ found ++ (x.0, 0) ∷ []
      → pushed ++ turns (drop (i + 1) before) (drop j after)
      ≡ found ++ turns (drop i before) (drop j after)
  gone is theirs push =
      let rest = drop (i + 1) before in
      let b = drop j after in
      let none : amount_of (drop j after) x.0 ≡ 0 = theirs.above x.0 (omega arith) in
      let apart : amount_of (x ∷ drop (i + 1) before) x.0 ≢ amount_of (drop j after) x.0 =
      λ e. (first_here is).some.0 (sym (at_first x (drop (i + 1) before)) ∙ e ∙ none) in
      ap (λ f. f ++ turns rest b) push ∙ append_assoc found ((x.0, 0) ∷ []) (turns rest b)
      ∙ ap (λ n. found ++ (x.0, n) ∷ turns rest b) (sym none)
      ∙ ap (λ ps. found ++ ps) (turns_first x.0 (x ∷ drop (i + 1) before) (drop j after)
      (drop (i + 1) before) (drop j after) (without_first x (drop (i + 1) before) (first_here is))
      theirs apart)
      ∙ ap (λ a. found ++ turns a b) (sym (behind_is before i x is))

  module _ (y : ℕ × ℕ) (there : slice_get after j ≡ Some y) where
    first_there : IsAmounts (y ∷ drop (j + 1) after)
    first_there = subst IsAmounts (behind_is after j y there) (formed_behind after j formed_after)

    -- it is there after alone
    pub come : Without y.0 (drop i before) (drop i before) → pushed ≡ found ++ y ∷ []
        → pushed ++ turns (drop i before) (drop (j + 1) after)
        ≡ found ++ turns (drop i before) (drop j after)
    come ours push =
        let a = drop i before in
        let rest = drop (j + 1) after in
        let none : amount_of (drop i before) y.0 ≡ 0 = ours.above y.0 (omega arith) in
        let apart : amount_of (drop i before) y.0 ≢ amount_of (y ∷ drop (j + 1) after) y.0 =
        λ e. first_there.some.0 (sym (at_first y (drop (j + 1) after)) ∙ sym e ∙ none) in
        ap (λ f. f ++ turns a rest) push ∙ append_assoc found (y ∷ []) (turns a rest)
        ∙ ap (λ n. found ++ (y.0, n) ∷ turns a rest) (sym (at_first y (drop (j + 1) after)))
        ∙ ap (λ ps. found ++ ps) (turns_first y.0 (drop i before) (y ∷ drop (j + 1) after)
        (drop i before) (drop (j + 1) after) ours
        (without_first y (drop (j + 1) after) first_there) apart)
        ∙ ap (λ b. found ++ turns a b) (sym (behind_is after j y there))

    module _ (is : slice_get before i ≡ Some x) (key : x.0 ≡ y.0) where
      ours_first : Without y.0 (x ∷ drop (i + 1) before) (drop (i + 1) before)
      ours_first = subst (λ k. Without k (x ∷ drop (i + 1) before) (drop (i + 1) before)) key
          (without_first x (drop (i + 1) before) (first_here is))

      has_first : amount_of (x ∷ drop (i + 1) before) y.0 ≡ x.1
      has_first = ap (amount_of (x ∷ drop (i + 1) before)) (sym key)
          ∙ at_first x (drop (i + 1) before)

      -- it has another amount
      pub turns_here : x.1 ≢ y.1 → pushed ≡ found ++ y ∷ []
          → pushed ++ turns (drop (i + 1) before) (drop (j + 1) after)
          ≡ found ++ turns (drop i before) (drop j after)
      turns_here apart push =
          let c = drop (i + 1) before in
          let d = drop (j + 1) after in
          let differ : amount_of (x ∷ drop (i + 1) before) y.0
          ≢ amount_of (y ∷ drop (j + 1) after) y.0 =
          λ e. apart (sym has_first ∙ e ∙ at_first y (drop (j + 1) after)) in
          ap (λ f. f ++ turns c d) push ∙ append_assoc found (y ∷ []) (turns c d)
          ∙ ap (λ n. found ++ (y.0, n) ∷ turns c d) (sym (at_first y (drop (j + 1) after)))
          ∙ ap (λ ps. found ++ ps) (turns_first y.0 (x ∷ drop (i + 1) before)
          (y ∷ drop (j + 1) after) (drop (i + 1) before) (drop (j + 1) after) ours_first
          (without_first y (drop (j + 1) after) first_there) differ)
          ∙ ap (λ a. found ++ turns a (y ∷ d)) (sym (behind_is before i x is))
          ∙ ap (λ b. found ++ turns (drop i before) b) (sym (behind_is after j y there))

      -- it has the same
      pub stays_here : x.1 ≡ y.1 → pushed ≡ found
          → pushed ++ turns (drop (i + 1) before) (drop (j + 1) after)
          ≡ found ++ turns (drop i before) (drop j after)
      stays_here same push =
          let c = drop (i + 1) before in
          let d = drop (j + 1) after in
          ap (λ f. f ++ turns c d) push
          ∙ ap (λ ps. found ++ ps) (turns_later y.0 (x ∷ drop (i + 1) before)
          (y ∷ drop (j + 1) after) (drop (i + 1) before) (drop (j + 1) after) ours_first
          (without_first y (drop (j + 1) after) first_there)
          (has_first ∙ same ∙ sym (at_first y (drop (j + 1) after))))
          ∙ ap (λ a. found ++ turns a (y ∷ d)) (sym (behind_is before i x is))
          ∙ ap (λ b. found ++ turns (drop i before) b) (sym (behind_is after j y there))

-- ---- all keys are passed

pub all_passed : (a b : Amounts) (found all : List (ℕ × ℕ)) → found ++ turns a b ≡ all
    → length a + length b ≤ 0 → found ≡ all
all_passed [] [] found all is none = sym (append-nil found) ∙ is
all_passed (x ∷ a) b found all is none = absurd (omega (arith, none))
all_passed [] (y ∷ b) found all is none = absurd (omega (arith, none))
