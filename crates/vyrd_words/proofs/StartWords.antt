-- What starting words that a log may begin with tell: their words and values are in range, and they
-- are few. So all plain words
-- at the start are small, and those that aren't among them are 0.
use Rattle.vyrd_words.proofs.Prelude
use Prelude.{◌≡◌, ℕ, zero, suc, ◌+◌, ◌<◌, ◌≤◌, ◌^◌, Bool, true, false, cond, not, ◌||◌, List, []}
use Prelude.{◌∷◌, length, map, get_or, refl, ap, ◌∙◌, arith, option_or, list_any, Header, StartWord}
use Prelude.{plain_words, numbers_from, first_answer, given_to, value_after, do_follow}
use Prelude.{words_at_start, above_of, first_true, second_true, neither_true, AgreeElsewhere}
use Rattle.std.specs.Prelude.{nat_le, ◌==◌, replicate, All, Option, Some, None, unwrap_or}
use Rattle.std.proofs.lemmas.Bool.{not-true}
use Rattle.std.proofs.lemmas.List.Elements.{All-nil, All-cons}
use Rattle.vyrd_base.specs.Words.{value_at_start}
use Rattle.vyrd_base.specs.Starts.{is_out_of_range, is_out_of_order, may_start}
use Rattle.vyrd_base.proofs.PlaceLaws.{length-mapped}
use Rattle.vyrd_base.proofs.ListLaws.{zeros}

-- a starting word in the ranges, and more than one
pub record StartFits (h : Header) (s : StartWord) : Type 0 where
  pub word : s.word < plain_words h
  pub value : s.value < 2 ^ 63

abbrev pub StartsFit : Header → List StartWord → Type 0
StartsFit h [] = Unit {0}
StartsFit h (s ∷ starting) = StartFits h s × StartsFit h starting

in_range : (h : Header) (s : StartWord) → is_out_of_range h s ≡ false → StartFits h s
in_range h s e = grind (arith, neither_true, above_of)

starts_fit : (h : Header) (last : Option StartWord) (starting : List StartWord)
    → do_follow h last starting ≡ true → StartsFit h starting
starts_fit h last [] e = tt
starts_fit h last (s ∷ starting) e =
    let fits = not-true (is_out_of_range h s || is_out_of_order last s)
    (first_true _ (do_follow h (Some s) starting) e) in (
      in_range h s (neither_true (is_out_of_range h s) (is_out_of_order last s) fits).0,
      starts_fit h (Some s) starting
          (second_true (not (is_out_of_range h s || is_out_of_order last s)) _ e),
    )

pub starts_of : (h : Header) (starting : List StartWord) → do_follow h None starting ≡ true
    → StartsFit h starting
starts_of h starting follows = starts_fit h None starting follows

-- those that a log of version 2 may begin with keep both rules
pub may_follow : (h : Header) (starting : List StartWord) → may_start h starting ≡ true
    → do_follow h None starting ≡ true
may_follow h starting may = search (second_true, arith)

-- all words that have a starting value are the header's
pub start_within : (h : Header) (starting : List StartWord) → do_follow h None starting ≡ true
    → All (λ w. w < plain_words h) (map (λ s. s.word) starting)
start_within h starting follows = within starting (starts_of h starting follows)
  where
    within : (starting : List StartWord) → StartsFit h starting → All (λ w. w < plain_words h)
        (map (λ s. s.word) starting)
    within [] fit = All-nil (λ w. w < plain_words h)
    within (s ∷ starting) fit = All-cons (λ w. w < plain_words h) s.word
        (map (λ s. s.word) starting) fit.0.word (within starting fit.1)

-- they rise, so that they are no more than the plain words
rising : (h : Header) (last : StartWord) (starting : List StartWord) → last.word < plain_words h
    → do_follow h (Some last) starting ≡ true → length starting + last.word < plain_words h
rising h last [] low e = omega (arith, low)
rising h last (s ∷ starting) low e =
    let fits = not-true (is_out_of_range h s || nat_le _ _) (first_true _ _ e) in
    let both = neither_true (is_out_of_range h s) (nat_le _ _) fits in
    let above : last.word < s.word = above_of _ _ both.1 in
    let rest = rising h s starting (in_range h s both.0).word (second_true _ _ e) in
    omega (arith, above, rest)

pub start_few : (h : Header) (starting : List StartWord) → do_follow h None starting ≡ true
    → length starting ≤ plain_words h
start_few h [] follows = omega arith
start_few h (s ∷ starting) follows = search (starts_of, starting, rising, second_true, arith)

-- all plain words at the start
pub length-words_at_start : (h : Header) (starting : List StartWord)
    → length (words_at_start h starting) ≡ plain_words h
length-words_at_start h starting = length-mapped (value_after starting []) 0 (plain_words h)

small : (h : Header) (starting : List StartWord) (w : ℕ) → StartsFit h starting
    → value_at_start starting w < 2 ^ 63
small h [] w fit = omega arith
small h (s ∷ starting) w fit = by_same (s.word == w) (small h starting w fit.1)
  where
    by_same : (b : Bool) → value_at_start starting w < 2 ^ 63
        → unwrap_or (option_or (cond b (Some s.value) None)
        (first_answer (λ t. given_to w (t.word, t.value)) starting)) 0 < 2 ^ 63
    by_same b rest = search arith

all_below : (f : ℕ → ℕ) (k n : ℕ) → ((w : ℕ) → f w < 2 ^ 63) → All (λ value. value < 2 ^ 63)
    (map f (numbers_from k n))
all_below f k zero low = All-nil (λ value. value < 2 ^ 63)
all_below f k (suc n) low = All-cons (λ value. value < 2 ^ 63) (f k)
    (map f (numbers_from (k + 1) n)) (low k) (all_below f (k + 1) n low)

pub small_at_start : (h : Header) (starting : List StartWord) → do_follow h None starting ≡ true
    → All (λ value. value < 2 ^ 63) (words_at_start h starting)
small_at_start h starting follows = search (starting, all_below, small, starts_of, arith)

-- a word that isn't among them is 0
elsewhere_zero : (starting : List StartWord) (w : ℕ)
    → list_any (λ x. x == w) (map (λ s. s.word) starting) ≡ false
    → value_at_start starting w ≡ 0
elsewhere_zero [] w other = refl
elsewhere_zero (s ∷ starting) w other =
    let both = neither_true _ (list_any _ (map _ starting)) other in
    cc (both.0, elsewhere_zero starting w both.1)

zero_at : (f : ℕ → ℕ) (k n i : ℕ) → f (k + i) ≡ 0 → get_or (map f (numbers_from k n)) i 0 ≡ 0
zero_at f k zero i is = refl
zero_at f k (suc n) zero is = ap f (omega arith) ∙ is
zero_at f k (suc n) (suc i) is = zero_at f (k + 1) n i (ap f (omega arith) ∙ is)

pub zero_elsewhere : (h : Header) (starting : List StartWord)
    → AgreeElsewhere (replicate (plain_words h) 0) (words_at_start h starting)
    (map (λ s. s.word) starting)
zero_elsewhere h starting = grind (arith, starting, zero_at, elsewhere_zero, zeros)
