-- What a block keeps, with one more write, and what its writes do to the words.
use Rattle.vyrd_shadow.proofs.Prelude
use Prelude.{◌≡◌, ◌≢◌, ℕ, suc, zero, ◌^◌, ◌<◌, Bool, true, false, cond, ◌||◌, List, [], ◌∷◌, ◌++◌}
use Prelude.{length, Option, Some, None, refl, ap, ◌∙◌, arith, get_or, set, get_or-set_other}
use Prelude.{get_or-set_same, length-set, ◌==◌, unwrap_or, option_or, list_any, All, keys_of}
use Prelude.{nat_tests, list_any-append, All-nil, All-cons, first_answer, given_to, same_of}
use Prelude.{flipped, neither_true, with_writes, with_word, with_kept, first_written, AreInRange}

pub differs : (k d : ℕ) → (k == d) ≡ false → d ≢ k
differs k d e = grind (arith, nat_tests)

twice : (v u : ℕ) (rest : Option ℕ) (b : Bool)
    → option_or (cond b (Some v) None) rest ≡ option_or (cond b (Some v) None)
    (option_or (cond b (Some u) None) rest)
twice v u rest b = search arith

same_place : (w k v q u : ℕ) (rest : Option ℕ) → k ≡ q
    → option_or (given_to w (q, v)) rest ≡ option_or (given_to w (k, v))
    (option_or (given_to w (q, u)) rest)
same_place w k v q u rest e = grind (arith, twice)

swapped : (v u : ℕ) (rest : Option ℕ) (a b : Bool) → (a ≡ true → b ≡ true → ⊥)
    → option_or (cond a (Some u) None) (option_or (cond b (Some v) None) rest)
    ≡ option_or (cond b (Some v) None) (option_or (cond a (Some u) None) rest)
swapped v u rest a b apart = grind (arith, apart)

other_place : (w k v q u : ℕ) (rest : Option ℕ) → (k == q) ≡ false
    → option_or (given_to w (q, u)) (option_or (given_to w (k, v)) rest)
    ≡ option_or (given_to w (k, v)) (option_or (given_to w (q, u)) rest)
other_place w k v q u rest e = search (swapped, differs, same_of, arith)

-- an insertion, by whether the key is the first one
inserted : (k v q u : ℕ) (es : List (ℕ × ℕ)) (b : Bool) → (k == q) ≡ b
    → with_kept ((q, u) ∷ es) k v ≡ cond b ((q, v) ∷ es) ((q, u) ∷ with_kept es k v)
inserted k v q u es b e = ap (λ b. cond b ((q, v) ∷ es) ((q, u) ∷ with_kept es k v)) e

-- the value of a word among the writes of a block, with one more
pub value_kept : (w k v : ℕ) (es : List (ℕ × ℕ))
    → first_answer (given_to w) (with_kept es k v) ≡ option_or (given_to w (k, v))
    (first_answer (given_to w) es)
value_kept w k v [] = refl
value_kept w k v ((q, u) ∷ es) = by_place (k == q) refl (value_kept w k v es)
  where
    by_place : (b : Bool) → (k == q) ≡ b
        → first_answer (given_to w) (with_kept es k v) ≡ option_or (given_to w (k, v))
        (first_answer (given_to w) es)
        → first_answer (given_to w) (with_kept ((q, u) ∷ es) k v)
        ≡ option_or (given_to w (k, v))
        (option_or (given_to w (q, u)) (first_answer (given_to w) es))
    by_place true e rest = search (inserted, same_place, same_of, arith)
    by_place false e rest = search (inserted, other_place, arith)

-- the words of a block, with one more write
pub words_kept : (k v : ℕ) (es : List (ℕ × ℕ)) → keys_of (with_kept es k v)
    ≡ with_word (keys_of es) k
words_kept k v [] = refl
words_kept k v ((q, u) ∷ es) = by_place (k == q) refl (words_kept k v es)
  where
    pushed : (b : Bool) → q ∷ cond b (keys_of es) (keys_of es ++ k ∷ []) ≡ cond b (q ∷ keys_of es)
        (q ∷ keys_of es ++ k ∷ [])
    pushed true = refl
    pushed false = refl

    by_place : (b : Bool) → (k == q) ≡ b → keys_of (with_kept es k v) ≡ with_word (keys_of es) k
        → keys_of (with_kept ((q, u) ∷ es) k v) ≡ with_word (q ∷ keys_of es) k
    by_place true e rest = cc (inserted k v q u es true e)
    by_place false e rest = search (inserted, pushed, arith)

pub in_range_kept : (n k v : ℕ) (es : List (ℕ × ℕ)) → k < n → v < 2 ^ 63 → AreInRange n es
    → AreInRange n (with_kept es k v)
in_range_kept n k v [] low small all = (low, small, tt)
in_range_kept n k v ((q, u) ∷ es) low small all = by_place (k == q) refl
    (in_range_kept n k v es low small all.2)
  where
    by_place : (b : Bool) → (k == q) ≡ b → AreInRange n (with_kept es k v)
        → AreInRange n (with_kept ((q, u) ∷ es) k v)
    by_place true e rest = grind (arith, inserted k v q u es true e, all.0, all.2)
    by_place false e rest = grind (arith, inserted k v q u es false e, all.0, all.1)

-- each word stands once
pub AllOnce : List ℕ → Type 0
AllOnce [] = Unit {0}
AllOnce (w ∷ ws) = (list_any (λ other. w == other) ws ≡ false) × AllOnce ws

once_push : (ws : List ℕ) (k : ℕ) → AllOnce ws → list_any (λ other. k == other) ws ≡ false
    → AllOnce (ws ++ k ∷ [])
unfolding AllOnce
once_push [] k once new = (refl, tt)
once_push (w ∷ ws) k once new =
    let parts = neither_true (k == w) (list_any (λ other. k == other) ws) new in (
      list_any-append (λ other. w == other) ws (k ∷ [])
          ∙ (λ i. once.0 i || (flipped k w parts.0 i || false)),
      once_push ws k once.1 parts.1,
    )

once_with : (ws : List ℕ) (k : ℕ) → AllOnce ws → AllOnce (with_word ws k)
once_with ws k once = grind (arith, once_push)

pub once_written : (writes : List (ℕ × ℕ)) → AllOnce (first_written writes)
unfolding AllOnce
once_written [] = tt
once_written ((word, value) ∷ writes) = once_with (first_written writes) word (once_written writes)

-- a word that isn't among the writes has no value there
no_value : (w : ℕ) (es : List (ℕ × ℕ)) → list_any (λ other. w == other) (keys_of es) ≡ false
    → first_answer (given_to w) es ≡ None
no_value w [] e = refl
no_value w ((q, u) ∷ es) e =
    let parts = neither_true _ _ e in
    cc (flipped w q parts.0, no_value w es parts.1)

pub length-with_writes : (words : List ℕ) (es : List (ℕ × ℕ)) → length (with_writes words es)
    ≡ length words
length-with_writes words [] = refl
length-with_writes words ((q, u) ∷ es) = length-with_writes (set _ q u) es ∙ length-set _ q u

-- what a word is, once the writes have taken effect
pub value_with : (words : List ℕ) (es : List (ℕ × ℕ)) (w : ℕ) → w < length words
    → AllOnce (keys_of es)
    → get_or (with_writes words es) w 0 ≡ unwrap_or (first_answer (given_to w) es)
    (get_or words w 0)
unfolding AllOnce
value_with words [] w low once = refl
value_with words ((q, u) ∷ es) w low once = by_place (q == w) refl
    (value_with (set words q u) es w (omega (arith, length-set words q u)) once.1)
  where
    by_place : (b : Bool) → (q == w) ≡ b
        → get_or (with_writes (set words q u) es) w 0 ≡ unwrap_or (first_answer (given_to w) es)
        (get_or (set words q u) w 0)
        → get_or (with_writes (set words q u) es) w 0
        ≡ unwrap_or (option_or (given_to w (q, u)) (first_answer (given_to w) es))
        (get_or words w 0)
    by_place true e rest =
        let place : q ≡ w = same_of q w e in
        let none : first_answer (given_to w) es ≡ None = no_value w es (rw (← place) once.0) in
        cc (get_or-set_same words w u 0 low)
    by_place false e rest = cc (get_or-set_other words q w u 0 (differs q w e))

-- values below a bound
pub below_set : (l : List ℕ) (w x m : ℕ) → ((q : ℕ) → get_or l q 0 < m) → x < m → (q : ℕ)
    → get_or (set l w x) q 0 < m
below_set [] w x m all low q = all q
below_set (a ∷ l) zero x m all low zero = low
below_set (a ∷ l) zero x m all low (suc q) = all (suc q)
below_set (a ∷ l) (suc w) x m all low zero = all zero
below_set (a ∷ l) (suc w) x m all low (suc q) = below_set l w x m (λ p. all (suc p)) low q

pub below_with : (words : List ℕ) (n : ℕ) (es : List (ℕ × ℕ))
    → ((q : ℕ) → get_or words q 0 < 2 ^ 63) → AreInRange n es → (q : ℕ)
    → get_or (with_writes words es) q 0 < 2 ^ 63
below_with words n [] all in_range q = all q
below_with words n ((w, v) ∷ es) all in_range q = below_with (set words w v) n es
    (below_set words w v (2 ^ 63) all in_range.1) in_range.2 q

pub keys_below : (n : ℕ) (es : List (ℕ × ℕ)) → AreInRange n es → All (λ w. w < n) (keys_of es)
keys_below n [] in_range = All-nil (λ w. w < n)
keys_below n ((w, v) ∷ es) in_range = All-cons (λ w. w < n) w (keys_of es) in_range.0
    (keys_below n es in_range.2)
