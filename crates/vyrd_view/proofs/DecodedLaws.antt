-- Words that are decoded part by part: what is in which place, and what a changed word leaves.
use Rattle.vyrd_view.proofs.Prelude
use Prelude.{◌≡◌, ℕ, zero, suc, ◌+◌, ◌-◌, ◌*◌, ◌/◌, ◌%◌, ◌<◌, ◌≤◌, Bool, true, false, List, [], ◌∷◌}
use Prelude.{length, map, get_or, set, refl, ap, ◌∙◌, sym, arith, get_or-set_same, get_or-set_other}
use Prelude.{◌==◌, ◌≢◌, list_any, length-take, get_or_default, div-mul-add, numbers_below, Amounts}
use Prelude.{collected, given, part_given, same_amounts, length_below, element_below, own_part}
use Prelude.{nothing_given, amount_of-collected, IsAmounts-collected, same_of, apart_of, isnt_same}
use Prelude.{neither_true, AgreeElsewhere, is_touched, mapped-push, given_map_push, own_word}
use Rattle.std.proofs.lemmas.List.{same_lists, length-drop}
use Rattle.std.proofs.Math.Nat.{div-add-mod}
use Rattle.vyrd_base.specs.Amounts.{plus_amount}
use Rattle.vyrd_base.proofs.AddedLaws.{collected-append}
use Rattle.vyrd_view.specs.Decoded.{AreGiven, Gives, words_of, pair_at, pairs_by}

-- a part ends within all parts
pub part_within : (part parts width : ℕ) → part < parts → part * width + width ≤ parts * width
part_within part parts width low = grind (arith, parts)

-- so does a place of it
pub place_within : (part parts places j : ℕ) → part < parts → j < places
    → part * places + j < parts * places
place_within part parts places j low inside = search (part_within, parts, arith)

-- the words of a part are as many as a part has
pub own_length : (width part parts : ℕ) (words : List ℕ) → part < parts
    → length words ≡ parts * width → length (words_of width part words) ≡ width
own_length width part parts words low count =
    grind (arith, parts, count, part_within, length-take, length-drop)

-- the part of a word, and of a place
pub part_of_within : (n parts width : ℕ) → n < parts * width → n / width < parts
part_of_within n parts width low = search arith

pub is_place : (places m : ℕ) → (m / places) * places + m % places ≡ m
is_place places m = grind (arith, div-add-mod m places)

module _ (width places parts : ℕ) (gives : Gives) where
  -- all pairs are given by some words
  pub pairs_given : (words : List ℕ)
      → AreGiven places parts gives (pairs_by width places parts gives words)
  pairs_given words = search (length_below, words_of, element_below, arith)

  -- if all fits, so do the first of them
  given_grows : (q : ℕ) (f : ℕ → ℕ × ℕ) (m k : ℕ)
      → given q (map f (numbers_below m)) ≤ given q (map f (numbers_below (m + k)))
  given_grows q f m zero = grind arith
  given_grows q f m (suc k) =
      let more : m + suc k ≡ m + k + 1 = omega arith in
      omega (
        arith,
        ap (λ n. given q (map f (numbers_below n))) more,
        given_map_push q f (m + k),
        given_grows q f m k,
      )

  pub place_fits : (words : List ℕ) (m bound : ℕ) → m < parts * places
      → given (pair_at width places gives words m).0 (pairs_by width places parts gives words)
      < bound
      → given (pair_at width places gives words m).0
      (map (pair_at width places gives words) (numbers_below m))
      + (pair_at width places gives words m).1 < bound
  place_fits words m bound low fits =
      let f : ℕ → ℕ × ℕ = pair_at width places gives words in
      let key : ℕ = (pair_at width places gives words m).0 in
      let rest : parts * places ≡ m + 1 + (parts * places - (m + 1)) = omega (arith, low) in
      omega (
        arith,
        fits,
        ap (λ n. given key (map f (numbers_below n))) rest,
        given_grows key f (m + 1) (parts * places - (m + 1)),
        given_map_push key f m,
        own_part key (f m).1,
      )

-- ---- words that have changed

-- a word of a part that no changed word is in hasn't changed
pub word_untouched : (size part w : ℕ) (changed : List ℕ) → w / size ≡ part
    → is_touched size part changed ≡ false → list_any (λ x. x == w) changed ≡ false
word_untouched size part w [] at untouched = refl
word_untouched size part w (x ∷ changed) at untouched =
    let both = neither_true (x / size == part) (is_touched size part changed) untouched in
    let apart : x ≢ w = λ same. apart_of (x / size) part both.0 (cc) in
    cc (isnt_same x w apart, word_untouched size part w changed at both.1)

-- so its part has the words of before
pub own_untouched : (width part parts : ℕ) (before words changed : List ℕ) → part < parts
    → length before ≡ parts * width → length words ≡ parts * width
    → AgreeElsewhere before words changed → is_touched width part changed ≡ false
    → words_of width part words ≡ words_of width part before
own_untouched width part parts before words changed low old new elsewhere untouched = same_lists _ _
    (own_length _ part parts words low new ∙ sym (own_length _ part parts before low old))
    (λ i d inside.
    let within : i < width = omega (arith, inside, own_length width part parts words low new) in
    let also : i < length (words_of width part before) =
    omega (arith, within, own_length width part parts before low old) in
    get_or_default _ i d 0 inside ∙ own_word width part _ i within
    ∙ elsewhere _ (word_untouched width part (part * width + i) changed (div-mul-add _ _ i within)
    untouched) ∙ sym (own_word width part _ i within) ∙ get_or_default _ i 0 d also)

-- ---- one place more

pub sums_more : (f : ℕ → ℕ × ℕ) (m n : ℕ) (s t : Amounts) (p : ℕ × ℕ)
    → s ≡ collected (map f (numbers_below m)) → t ≡ plus_amount s p.0 p.1 → p ≡ f m → n ≡ m + 1
    → t ≡ collected (map f (numbers_below n))
sums_more f m n s t p is more here next = search (collected-append, collected, mapped-push, arith)

-- and one that gives nothing
pub sums_same : (f : ℕ → ℕ × ℕ) (m n : ℕ) (s t : Amounts) (p : ℕ × ℕ)
    → s ≡ collected (map f (numbers_below m)) → t ≡ s → p ≡ f m → p.1 ≡ 0 → n ≡ m + 1
    → t ≡ collected (map f (numbers_below n))
sums_same f m n s t p is same here none next = same ∙ is
    ∙ same_amounts _ _ (IsAmounts-collected before) (IsAmounts-collected after)
    (λ q. omega (
      arith,
      amount_of-collected before q,
      amount_of-collected after q,
      ap
          (λ k. given q (map f (numbers_below k))) next,
      given_map_push q f m,
      ap (part_given q) (sym here),
      ap (λ a. part_given q (p.0, a)) none,
      nothing_given q p.0,
    ))
  where
    before : List (ℕ × ℕ)
    before = map f (numbers_below m)

    after : List (ℕ × ℕ)
    after = map f (numbers_below n)

-- ---- the places of one part, one after another

-- the pair of the next place comes to it
pub place_inside : (f : ℕ → ℕ × ℕ) (part places place : ℕ) (pairs : List (ℕ × ℕ)) (pair : ℕ × ℕ)
    → part * places + place < length pairs → pair ≡ f (part * places + place)
    → ((j : ℕ) → j < place → get_or pairs (part * places + j) (0, 0) ≡ f (part * places + j))
    → (j : ℕ) → j < place + 1
    → get_or (set pairs (part * places + place) pair) (part * places + j) (0, 0)
    ≡ f (part * places + j)
place_inside f part places place pairs pair within is before j low = by_test (j == place) refl
  where
    by_test : (b : Bool) → (j == place) ≡ b
        → get_or (set pairs (part * places + place) pair) (part * places + j) (0, 0)
        ≡ f (part * places + j)
    by_test true e =
        cc (same_of j place e, get_or-set_same pairs (part * places + place) pair (0, 0) within)
    by_test false e =
        let other : j ≢ place = apart_of j place e in
        let apart : part * places + j ≢ part * places + place =
        λ same. other (omega (arith, same)) in
        let lower : j < place = omega (arith, low, other) in
        get_or-set_other pairs (part * places + place) (part * places + j) pair (0, 0) apart
        ∙ before j lower

-- and no place of another part changes
pub place_outside : (part places place : ℕ) (pairs : List (ℕ × ℕ)) (pair : ℕ × ℕ)
    → place < places → (m : ℕ) → m / places ≢ part
    → get_or (set pairs (part * places + place) pair) m (0, 0) ≡ get_or pairs m (0, 0)
place_outside part places place pairs pair low m other = grind (arith, get_or-set_other)

-- the places of a part are all that divide to it
pub part_places : (f : ℕ → ℕ × ℕ) (now : List (ℕ × ℕ)) (places part : ℕ)
    → ((j : ℕ) → j < places → get_or now (part * places + j) (0, 0) ≡ f (part * places + j))
    → (before : List (ℕ × ℕ)) → 1 ≤ places
    → (m : ℕ) → m < length before → m / places ≡ part → get_or now m (0, 0) ≡ f m
part_places f now places part each before some m low at = search (is_place, arith)

-- ---- what is kept of the words before

-- it is up to date where no changed word is
pub kept_others : (width places parts held : ℕ) (gives : Gives) (before : List ℕ)
    (pairs : List (ℕ × ℕ)) → pairs ≡ pairs_by width places held gives before → held ≤ parts
    → length before ≡ parts * width → (words changed : List ℕ) → length words ≡ parts * width
    → AgreeElsewhere before words changed → (m : ℕ) → m < length pairs
    → is_touched width (m / places) changed ≡ false
    → get_or pairs m (0, 0) ≡ pair_at width places gives words m
kept_others width places parts held gives before pairs kept few count words changed new elsewhere m
    low untouched =
    let f : ℕ → ℕ × ℕ = pair_at width places gives before in
    let inside : m < held * places =
    omega (arith, low, ap length kept, length_below f (held * places)) in
    let part : m / places < parts =
    omega (arith, part_of_within m held places inside, few) in
    ap (λ s. get_or s m (0, 0)) kept ∙ element_below f (held * places) m (0, 0) inside
    ∙ ap (λ own. gives (m / places) own (m % places))
    (sym (own_untouched width (m / places) parts before words changed part count new elsewhere
    untouched))
