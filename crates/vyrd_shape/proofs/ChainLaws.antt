-- How the linked words of a holder change.
use Rattle.vyrd_shape.proofs.Prelude
use Prelude.{◌≡◌, ◌≢◌, ℕ, suc, zero, ◌+◌, ◌-◌, ◌^◌, ◌<◌, ◌≤◌, Bool, true, false, cond, not, ◌&&◌}
use Prelude.{◌||◌, List, [], ◌∷◌, length, map, refl, ap, ◌∙◌, sym, subst, arith, get_or, set}
use Prelude.{get_or-set_other, get_or-set_same, length-set, ◌==◌, replicate, nat_tests, map-set}
use Prelude.{set-get_or, length-replicate, length-map, sum_by-set, sum_by, list_any, numbers_from}
use Prelude.{by_same, zeros, Holding, released, is_held_by_another, IsChain, IsLinked, AreLinked}
use Rattle.std.proofs.Math.ListN.{get_or-map}

-- a value that the list doesn't have, it doesn't have after another value is written
absent_set : (l : List ℕ) (w x q h : ℕ) → x ≢ h → get_or l q 0 ≢ h → get_or (set l w x) q 0 ≢ h
absent_set [] w x q h other free = free
absent_set (a ∷ l) zero x zero h other free = other
absent_set (a ∷ l) zero x (suc q) h other free = free
absent_set (a ∷ l) (suc w) x zero h other free = free
absent_set (a ∷ l) (suc w) x (suc q) h other free = absent_set l w x q h other free

-- two writes to different places
set-set_other : (l : List ℕ) (v w x y : ℕ) → v ≢ w → set (set l w x) v y ≡ set (set l v y) w x
set-set_other [] v w x y apart = refl
set-set_other (a ∷ l) zero zero x y apart = absurd (apart refl)
set-set_other (a ∷ l) zero (suc w) x y apart = refl
set-set_other (a ∷ l) (suc v) zero x y apart = refl
set-set_other (a ∷ l) (suc v) (suc w) x y apart = ap (λ t. a ∷ t)
    (set-set_other l v w x y (λ e. apart (ap suc e)))

set-set_same : (l : List ℕ) (w x y : ℕ) → set (set l w x) w y ≡ set l w y
set-set_same [] w x y = refl
set-set_same (a ∷ l) zero x y = refl
set-set_same (a ∷ l) (suc w) x y = ap (λ t. a ∷ t) (set-set_same l w x y)

-- a holder's words stay linked where a word changes that isn't the holder's, before and after
pub chain_other : (h : ℕ) (by_word links : List ℕ) (first : ℕ) (ws : List ℕ) (w x y : ℕ)
    → get_or by_word w 0 ≢ h → x ≢ h → IsChain h by_word links first ws
    → IsChain h (set by_word w x) (set links w y) first ws
chain_other h by_word links first [] w x y free other chain =
    (chain.0, λ q. absent_set _ w x q h other (chain.1 q))
chain_other h by_word links first (v ∷ ws) w x y free other chain =
    let apart : v ≢ w = λ e. free (cc chain.1) in
    let apart' : w ≢ v = λ e. apart (sym e) in
    let free' : get_or (set by_word v 0) w 0
    ≢ h = λ e. free (sym (get_or-set_other _ v w 0 0 apart') ∙ e) in
    let rest = chain_other h (set _ v 0) links (get_or _ v 0) ws w x y free' other chain.2 in (
      chain.0,
      get_or-set_other _ w v x 0 apart ∙ chain.1,
      rw (get_or-set_other links w v y 0 apart)
          (rw (set-set_other by_word v w x 0 apart) rest),
    )

-- the links of words that aren't the holder's don't count
chain_link : (h : ℕ) (by_word links : List ℕ) (first : ℕ) (ws : List ℕ) (w y : ℕ)
    → get_or by_word w 0 ≢ h → IsChain h by_word links first ws
    → IsChain h by_word (set links w y) first ws
chain_link h by_word links first ws w y free chain = rw (← set-get_or by_word w 0)
    (chain_other h by_word links first ws w (get_or _ w 0) y free free chain)

-- a free word is put before the holder's words
pub chain_more : (h : ℕ) (by_word links : List ℕ) (first : ℕ) (ws : List ℕ) (w : ℕ)
    → w < length by_word → w < length links → get_or by_word w 0 ≡ 0 → 0 ≢ h
    → IsChain h by_word links first ws
    → IsChain h (set by_word w h) (set links w first) (w + 1) (w ∷ ws)
chain_more h by_word links first ws w low low' free some chain =
    let back : set (set by_word w h) w 0 ≡ by_word = set-set_same _ w h 0 ∙ ap (set _ w) (sym free)
    ∙ set-get_or _ w 0 in
    let free' : get_or by_word w 0 ≢ h = λ e. some (sym free ∙ e) in
    let rest = chain_link h by_word links first ws w first free' chain in
    (refl, get_or-set_same _ w h 0 low, rw (get_or-set_same links w first 0 low') (rw back rest))

either_way : (b : Bool) (x : ℕ) → cond b x x ≡ x
either_way b x = search arith

released_zero : (g : ℕ) → released g 0 ≡ 0
released_zero g = either_way (0 == g) 0

pub released_own : (g : ℕ) → released g g ≡ 0
released_own g = let same : (g == g) ≡ true = grind (arith, nat_tests) in ap (λ b. cond b 0 g) same

pub released_other : (g h : ℕ) → h ≢ g → released g h ≡ h
released_other g h other = grind arith

-- what a released list has
pub released_at : (g : ℕ) (l : List ℕ) (w : ℕ) → get_or (map (released g) l) w 0
    ≡ released g (get_or l w 0)
released_at g l w = cc (released_zero g, get_or-map (released g) l w 0)

not_released : (g h n : ℕ) → 0 ≢ h → n ≢ h → released g n ≢ h
not_released g h n some other = grind arith

-- another holder's words stay linked when one lets go
pub chain_released : (g h : ℕ) (by_word links : List ℕ) (first : ℕ) (ws : List ℕ)
    → 0 ≢ h → h ≢ g → IsChain h by_word links first ws
    → IsChain h (map (released g) by_word) links first ws
chain_released g h by_word links first [] some other chain =
    search (not_released, released_at, arith)
chain_released g h by_word links first (w ∷ ws) some other chain =
    let moved : map (released g) (set by_word w 0) ≡ set (map (released g) by_word) w 0
    = map-set (released g) by_word w 0 ∙ ap (set (map (released g) by_word) w) (released_zero g) in (
      chain.0,
      released_at g by_word w ∙ ap (released g) chain.1 ∙ released_other g h other,
      subst (λ b. IsChain h b links (get_or links w 0) ws) moved
          (chain_released g h (set by_word w 0) links (get_or links w 0) ws some other chain.2),
    )

-- after it has let go, a holder has no word
pub chain_none : (g : ℕ) (by_word links : List ℕ) → 0 ≢ g
    → IsChain g (map (released g) by_word) links 0 []
chain_none g by_word links some = search (released_at, released, arith)

-- a list without the holder is as it was
released_absent : (g : ℕ) (l : List ℕ) → ((w : ℕ) → get_or l w 0 ≢ g) → map (released g) l ≡ l
released_absent g [] none = refl
released_absent g (x ∷ l) none = λ i. released_other g x (none 0) i ∷ released_absent g l
    (λ w. none (suc w)) i

-- where the links end, the list is released
pub chain_ends : (g : ℕ) (by_word links : List ℕ) (first : ℕ) (ws : List ℕ) → first ≡ 0
    → IsChain g by_word links first ws
    → map (released g) by_word ≡ by_word
chain_ends g by_word links first [] ends chain = released_absent g by_word chain.1
chain_ends g by_word links first (w ∷ ws) ends chain = absurd (omega (arith, chain.0))

-- one word is let go of
pub released_set : (g : ℕ) (by_word : List ℕ) (w : ℕ) → get_or by_word w 0 ≡ g
    → map (released g) (set by_word w 0) ≡ map (released g) by_word
released_set g [] w held = refl
released_set g (x ∷ l) zero held = search (released_zero, released_own, released, held, arith)
released_set g (x ∷ l) (suc w) held = ap (λ t. released g x ∷ t) (released_set g l w held)

-- what stands at the head of the links
pub record Head (holder : ℕ) (by_word links : List ℕ) (first : ℕ) : Type 0 where
  pub held : get_or by_word (first - 1) 0 ≡ holder
  pub within : first - 1 < length by_word
  pub rest : IsLinked holder (set by_word (first - 1) 0) links (get_or links (first - 1) 0)

within_list : (l : List ℕ) (w h : ℕ) → get_or l w 0 ≡ h → 0 < h → w < length l
within_list [] w h held some = absurd (omega arith)
within_list (x ∷ l) zero h held some = omega arith
within_list (x ∷ l) (suc w) h held some = let e = within_list l w h held some in omega arith

pub head_of : (holder : ℕ) (by_word links : List ℕ) (first : ℕ) → 0 < holder → 0 < first
    → IsLinked holder by_word links first
    → Head holder by_word links first
head_of holder by_word links first some more linked = by_words linked.words linked.chain
  where
    by_words : (ws : List ℕ) → IsChain holder by_word links first ws
        → Head holder by_word links first
    by_words [] chain = absurd (omega (arith, chain.0))
    by_words (w ∷ ws) chain =
        grind (arith, chain.0, chain.1, within_list by_word w holder chain.1 some, chain.2)

-- where the links end, the holder has no word
pub linked_none : (holder : ℕ) (by_word links : List ℕ) (first : ℕ) → first ≡ 0
    → IsLinked holder by_word links first → (w : ℕ) → get_or by_word w 0 ≢ holder
linked_none holder by_word links first ends linked = by_words linked.words linked.chain
  where
    by_words : (ws : List ℕ) → IsChain holder by_word links first ws → (w : ℕ)
        → get_or by_word w 0 ≢ holder
    by_words [] chain = chain.1
    by_words (v ∷ ws) chain = absurd (omega (arith, chain.0))

pub linked_ends : (holder : ℕ) (by_word links : List ℕ) (first : ℕ) → first ≡ 0
    → IsLinked holder by_word links first
    → map (released holder) by_word ≡ by_word
linked_ends holder by_word links first ends linked = search (chain_ends, ends, arith)

pub holder_falls : (by_word : List ℕ) (w h : ℕ) → get_or by_word w 0 ≡ h → 0 < h
    → w < length by_word
    → sum_by (λ x. x) (set by_word w 0) < sum_by (λ x. x) by_word
holder_falls by_word w h held some low = let e : sum_by (λ x. x) (set by_word w 0)
    + get_or by_word w 0 ≡ sum_by (λ x. x) by_word + 0 = sum_by-set _ _ w 0 0 low in omega arith

pub linked_new : (n m : ℕ) → n < 2 ^ 32 → m < 2 ^ 32 → AreLinked (replicate n 0) (replicate n 0)
    (replicate m 0)
linked_new n m few few' = record {
  few_words = omega (arith, length-replicate {A = ℕ} n 0);
  few_callers = omega (arith, length-replicate {A = ℕ} m 0);
  lengths = refl;
  holders = λ w. omega (arith, zeros n w);
  chains = λ c low. record {
    words = [];
    chain = (zeros m c, λ w e. let h : 0 ≡ c + 1 = sym (zeros n w) ∙ e in absurd (omega arith));
  };
}

pub at_most_set : (l : List ℕ) (w x m : ℕ) → ((q : ℕ) → get_or l q 0 ≤ m) → x ≤ m → (q : ℕ)
    → get_or (set l w x) q 0 ≤ m
at_most_set [] w x m all low q = all q
at_most_set (a ∷ l) zero x m all low zero = low
at_most_set (a ∷ l) zero x m all low (suc q) = all (suc q)
at_most_set (a ∷ l) (suc w) x m all low zero = all zero
at_most_set (a ∷ l) (suc w) x m all low (suc q) = at_most_set l w x m (λ p. all (suc p)) low q

some_one : (c : ℕ) → 0 ≢ c + 1
some_one c e = absurd (omega arith)

apart_one : (c d : ℕ) → (d == c) ≡ false → d + 1 ≢ c + 1
apart_one c d other e = search arith

pub differs : (c d : ℕ) → (d == c) ≡ false → d ≢ c
differs c d other = grind (arith, nat_tests)

-- a free word is held
pub linked_hold : (by_word links firsts : List ℕ) (c w : ℕ) → w < length by_word → c < length firsts
    → get_or by_word w 0 ≡ 0
    → AreLinked by_word links firsts → AreLinked (set by_word w (c + 1))
    (set links w (get_or firsts c 0)) (set firsts c (w + 1))
linked_hold by_word links firsts c w low low_c free linked = record {
  few_words = omega (arith, linked.few_words, length-set by_word w (c + 1));
  few_callers = omega (arith, linked.few_callers, length-set firsts c (w + 1));
  lengths = length-set links w (get_or firsts c 0) ∙ linked.lengths
      ∙ sym (length-set by_word w (c + 1));
  holders = λ q. let e = at_most_set by_word w (c + 1) (length firsts) linked.holders
      (omega arith) q in
      omega (arith, e, length-set firsts c (w + 1));
  chains = λ d low_d. by_same d c (λ same. own d same)
      (λ other. others d (omega (arith, low_d, length-set firsts c (w + 1))) other);
}
  where
    own : (d : ℕ) → d ≡ c → IsLinked (d + 1) (set by_word w (c + 1))
        (set links w (get_or firsts c 0)) (get_or (set firsts c (w + 1)) d 0)
    own d same =
        let was = linked.chains c low_c in
        let now : IsChain (c + 1) (set by_word w (c + 1)) (set links w (get_or firsts c 0)) (w + 1)
        (w ∷ was.words)
        = chain_more (c + 1) by_word links (get_or firsts c 0) was.words w low
        (omega (arith, linked.lengths)) free (some_one c) was.chain in
        rw same
        (rw (get_or-set_same firsts c (w + 1) 0 low_c)
        (record { words = w ∷ was.words; chain = now }))

    others : (d : ℕ) → d < length firsts → (d == c) ≡ false
        → IsLinked (d + 1) (set by_word w (c + 1)) (set links w (get_or firsts c 0))
        (get_or (set firsts c (w + 1)) d 0)
    others d low_d other =
        search (chain_other, some_one, free, apart_one, get_or-set_other, differs, arith)

pub released_le : (g n m : ℕ) → n ≤ m → released g n ≤ m
released_le g n m low = elim (n == g) as (λ b. cond b 0 n ≤ m) [ true ↦ omega arith | false ↦ low ]

-- a caller lets go of its words
pub linked_release : (by_word links firsts : List ℕ) (c : ℕ) → c < length firsts
    → AreLinked by_word links firsts → AreLinked (map (released (c + 1)) by_word) links
    (set firsts c 0)
linked_release by_word links firsts c low_c linked = record {
  few_words = omega (arith, linked.few_words, length-map by_word (released (c + 1)));
  few_callers = omega (arith, linked.few_callers, length-set firsts c 0);
  lengths = linked.lengths ∙ sym (length-map by_word (released (c + 1)));
  holders = λ q. let e = released_le (c + 1) (get_or by_word q 0) (length firsts)
      (linked.holders q) in
      omega (arith, e, released_at (c + 1) by_word q, length-set firsts c 0);
  chains = λ d low_d. by_same d c (λ same. own d same)
      (λ other. others d (omega (arith, low_d, length-set firsts c 0)) other);
}
  where
    own : (d : ℕ) → d ≡ c → IsLinked (d + 1) (map (released (c + 1)) by_word) links
        (get_or (set firsts c 0) d 0)
    own d same =
        grind (
          arith,
          get_or-set_same firsts c 0 0 low_c,
          chain_none (c + 1) by_word links (some_one
              c),
        )

    others : (d : ℕ) → d < length firsts → (d == c) ≡ false
        → IsLinked (d + 1) (map (released (c + 1)) by_word) links (get_or (set firsts c 0) d 0)
    others d low_d other =
        search (released, chain_released, some_one, apart_one, get_or-set_other, differs, arith)

-- some number below n passes the test, or none does
pub any_number : (p : ℕ → Bool) (k n d : ℕ) → p d ≡ true → k ≤ d → d < k + n
    → list_any p (numbers_from k n) ≡ true
any_number p k zero d here low high = absurd (omega arith)
any_number p k (suc n) d here low high = by_same k d (λ same. cc)
    (λ other. or_right (p k) (any_number p (k + 1) n d here (next other) (omega arith)))
  where
    or_right : (b : Bool) {c : Bool} → c ≡ true → (b || c) ≡ true
    or_right true e = refl
    or_right false e = e

    next : (k == d) ≡ false → k + 1 ≤ d
    next other = let apart : k ≢ d = grind (arith, nat_tests) in omega arith

pub no_number : (p : ℕ → Bool) (k n : ℕ) → ((d : ℕ) → d < k + n → p d ≡ false)
    → list_any p (numbers_from k n) ≡ false
no_number p k zero none = refl
no_number p k (suc n) none = ap (λ b. b || list_any p (numbers_from (k + 1) n))
    (none k (omega arith))
    ∙ no_number p (k + 1) n (λ d low. none d (omega arith))

-- nobody holds the word
pub another_none : (holding : Holding) (c w : ℕ) → get_or holding.by_word w 0 ≡ 0
    → is_held_by_another holding c w ≡ false
another_none holding c w free = search (no_number, arith)

-- a caller holds the word, perhaps this one
pub another_is : (holding : Holding) (c w e : ℕ) → get_or holding.by_word w 0 ≡ e + 1
    → e < holding.callers
    → is_held_by_another holding c w ≡ not (e == c)
another_is holding c w e held low = by_same e c
    (λ same. no_number (λ d. not _ && (get_or _ w 0 == d + 1)) 0 holding.callers
    (λ d low. by_same d c (λ is. let here : (d == c) ≡ true = grind (arith, nat_tests) in
    cc) (λ other. let elsewhere : (get_or holding.by_word w 0 == d + 1)
    ≡ false = not_here d same other in
    cc (and_false (not (d == c)))))
    ∙ (let here : (e == c) ≡ true = grind (arith, nat_tests) in ap not (sym here)))
    (λ other. any_number (λ d. not _ && (get_or _ w 0 == d + 1)) 0 holding.callers e
    (let there : (get_or holding.by_word w 0 == e + 1) ≡ true = grind (arith, nat_tests) in
    (λ i. not (other i) && there i)) (omega arith) (omega arith) ∙ ap not (sym other))
  where
    and_false : (b : Bool) → (b && false) ≡ false
    and_false true = refl
    and_false false = refl

    not_here : (d : ℕ) → e ≡ c → (d == c) ≡ false → (get_or holding.by_word w 0 == d + 1) ≡ false
    not_here d same other = let apart : d ≢ c = differs c d other in grind (arith, nat_tests)
