-- One caller's part of a history, and what it says of the whole.
use Rattle.vyrd_trace.proofs.Prelude
use Prelude.{◌≡◌, ◌≢◌, ℕ, zero, suc, ◌+◌, ◌*◌, ◌<◌, ◌≤◌, List, [], ◌∷◌, ◌++◌, length, get_or, Bool}
use Prelude.{true, false, cond, eqb, Some, refl, ◌∙◌, subst, arith, append-nil, eq-eqb, ne_eqb}
use Prelude.{suc-mul, slice_get, slice_index_or, ltb, All, filter-append, All-filter, nat_tests}
use Prelude.{Did, Stamped, newest_first, Cells, may_do, is_legal, part, last_value, HoldsBy}
use mathlib.Core.Logic.{dite}
use native.Mathlib.Decide.{ℕ_discrete}
use Rattle.vyrd_base.proofs.TestLaws.{first_true, second_true, below_of, same_of}
use Rattle.vyrd_trace.proofs.HistoryGrows.{value_after, value_in-snoc, numbered, legal_induction}

pub value-snoc : (h : List Stamped) (e : Stamped) (cell : ℕ) → last_value (h ++ e ∷ []) cell
    ≡ value_after cell (last_value h cell) e.caller e.did
value-snoc h e cell = value_in-snoc h e cell

-- one event more is in its caller's part, at the end, and in no other's
pub part-mine : (c : ℕ) (h : List Stamped) (e : Stamped) → e.caller ≡ c → part c (h ++ e ∷ [])
    ≡ part c h ++ e ∷ []
part-mine c h e is = search (filter-append, eq-eqb, arith)

pub part-other : (c : ℕ) (h : List Stamped) (e : Stamped) → e.caller ≢ c → part c (h ++ e ∷ [])
    ≡ part c h
part-other c h e apart =
    grind (arith, ne_eqb e.caller c apart, append-nil (part c h), filter-append, apart)

get_there : (h : List Stamped) (i : ℕ) (d : Stamped) → i < length h → slice_get h i
    ≡ Some (get_or h i d)
get_there [] i d l = absurd (omega arith)
get_there (x ∷ xs) zero d l = refl
get_there (x ∷ xs) (suc i) d l = get_there xs i d (omega arith)

one_more : (x n : ℕ) → cond (ltb x (suc n)) 1 0 ≡ cond (ltb x n) 1 0 + cond (eqb x n) 1 0
one_more x n = grind (arith, nat_tests)

-- how many events have a caller below n
pub below : ℕ → List Stamped → ℕ
below n [] = 0
below n (e ∷ es) = cond (ltb e.caller n) 1 0 + below n es

length-part : (n : ℕ) (e : Stamped) (es : List Stamped) (b : Bool) → eqb e.caller n ≡ b
    → length (part n (e ∷ es)) ≡ cond b 1 0 + length (part n es)
length-part n e es b is = search arith

pub below_more : (n : ℕ) (h : List Stamped) → below (suc n) h ≡ below n h + length (part n h)
unfolding below
below_more n [] = omega arith
below_more n (e ∷ es) =
    let r = below_more n es in
    let a = one_more e.caller n in
    let l = length-part n e es (eqb e.caller n) refl in
    let x : ℕ = cond (ltb e.caller (suc n)) 1 0 in
    let y : ℕ = cond (ltb e.caller n) 1 0 in
    let w : ℕ = cond (eqb e.caller n) 1 0 in
    let a' : x ≡ y + w = a in let l' : length (part n (e ∷ es)) ≡ w + length (part n es) = l in
    let goal : x + below (suc n) es ≡ (y + below n es) + length (part n (e ∷ es)) = omega arith in
    goal

pub below_none : (h : List Stamped) → below 0 h ≡ 0
unfolding below
below_none [] = refl
below_none (e ∷ es) =
    let r = below_none es in
    let x : ℕ = cond (ltb e.caller 0) 1 0 in
    let a : x ≡ 0 = grind (arith, nat_tests) in
    let goal : x + below 0 es ≡ 0 = omega arith in goal

below_bounded : (n limit : ℕ) (h : List Stamped) → ((c : ℕ) → length (part c h) ≤ limit) → below n h
    ≤ n * limit
below_bounded zero limit h short = let r = below_none h in omega arith
below_bounded (suc n) limit h short =
    let r = below_bounded n limit h short in
    let m = below_more n h in
    let s = short n in omega (arith, suc-mul n limit)

pub below_all : (n : ℕ) (h : List Stamped)
    → ((i : ℕ) (e : Stamped) → slice_get h i ≡ Some e → e.caller < n) → below n h ≡ length h
unfolding below
below_all n [] inside = refl
below_all n (e ∷ es) inside =
    let r = below_all n es (λ i x p. inside (suc i) x p) in
    let l = inside 0 e refl in
    let x : ℕ = cond (ltb e.caller n) 1 0 in
    let a : x ≡ 1 = grind (arith, nat_tests) in
    let goal : x + below n es ≡ suc (length es) = omega arith in goal

-- a legal history is no longer than its callers' parts together
pub legal_bounded : (z : Cells) (limit : ℕ) (h : List Stamped) → is_legal z h ≡ true
    → ((c : ℕ) → length (part c h) ≤ limit)
    → length h ≤ z.callers * limit
legal_bounded z limit h legal short =
    let a = below_all z.callers h (λ i e p. (numbered z h legal i e p).1) in
    let b = below_bounded z.callers limit h short in omega arith

-- who holds a lock by its own events has its number there in the history
abbrev HoldsToo : ℕ → ℕ → List Stamped → Type 0
HoldsToo k c h = HoldsBy (part c h) c k → last_value h k ≡ c + 1

-- after one event more, be it this caller's or another's
held_step : (z : Cells) (k c : ℕ) (h : List Stamped) (by : ℕ) (d : Did) → z.plain ≤ k
    → HoldsToo k c h → may_do z (newest_first h) by d ≡ true
    → (by ≡ c → value_after k (last_value (part c h) k) by d ≡ c + 1
    → value_after k (last_value h k) by d ≡ c + 1)
    × (by ≢ c → HoldsBy (part c h) c k → value_after k (last_value h k) by d ≡ c + 1)
held_step z k c h by d lock holds may = search (below_of, first_true, same_of, second_true, arith)

pub held_value : (z : Cells) (k c : ℕ) (h : List Stamped) → z.plain ≤ k → is_legal z h ≡ true
    → HoldsBy (part c h) c k → last_value h k ≡ c + 1
held_value z k c h lock legal = legal_induction z (HoldsToo k c) (λ t. absurd (omega arith))
    (λ l e so_far may. let s = held_step z k c l e.caller e.did lock so_far may in
    dite (ℕ_discrete e.caller c)
    (λ is. λ t. value-snoc l e k ∙ s.0 is (cc (value-snoc (part c l) e k, part-mine c l e is)))
    (λ no. λ t. value-snoc l e k ∙ s.1 no (cc (part-other c l e no)))) h legal

all_below : (z : Cells) (h : List Stamped) → is_legal z h ≡ true
    → All (λ (e : Stamped). e.number < length h) h
all_below z h legal k d l = search (numbered, get_there, arith)

-- the numbers of a caller's events are below the history's length
pub part_below : (z : Cells) (c : ℕ) (h : List Stamped) → is_legal z h ≡ true
    → All (λ (e : Stamped). e.number < length h) (part c h)
part_below z c h legal = All-filter _ (λ (e : Stamped). e.number < length h) h (all_below z h legal)

-- an event of a part stands in the history, and the other way round
pub part_in : (c : ℕ) (h : List Stamped) (k : ℕ) (d : Stamped) → k < length (part c h)
    → (i : ℕ) × (slice_get h i ≡ Some (slice_index_or (part c h) k d))
part_in c [] k d l = absurd (omega arith)
part_in c (x ∷ xs) k d l = at (eqb x.caller c) refl (λ j l'. part_in c xs j d l')
  where
    here : (j : ℕ)
        → ((j : ℕ) → j < length (part c xs) → (i : ℕ)
        × (slice_get xs i ≡ Some (slice_index_or (part c xs) j d)))
        → j < length (x ∷ part c xs) → (i : ℕ)
        × (slice_get (x ∷ xs) i ≡ Some (slice_index_or (x ∷ part c xs) j d))
    here zero more l' = (0, refl)
    here (suc j) more l' = let f = more j (omega arith) in (suc f.0, f.1)

    at : (b : Bool) → eqb x.caller c ≡ b
        → ((j : ℕ) → j < length (part c xs) → (i : ℕ)
        × (slice_get xs i ≡ Some (slice_index_or (part c xs) j d)))
        → (i : ℕ) × (slice_get (x ∷ xs) i ≡ Some (slice_index_or (part c (x ∷ xs)) k d))
    at false is more =
        let same : part c (x ∷ xs) ≡ part c xs = cc in
        let f = more k (rw (← same) l) in
        (suc f.0, cc f.1)
    at true is more =
        let same : part c (x ∷ xs) ≡ x ∷ part c xs = cc in
        let f = here k more (subst (λ (q : List Stamped). k < length q) same l) in
        (f.0, cc f.1)

pub in_part : (c : ℕ) (h : List Stamped) (i : ℕ) (e : Stamped) → slice_get h i ≡ Some e → e.caller
    ≡ c
    → (k : ℕ) × (k < length (part c h)) × ((d : Stamped) → slice_index_or (part c h) k d ≡ e)
in_part c [] i e q is = absurd (cc)
in_part c (x ∷ xs) zero e q is = search (eq-eqb, arith)
in_part c (x ∷ xs) (suc i) e q is = let f = in_part c xs i e q is in at (eqb x.caller c) refl f
  where
    at : (b : Bool) → eqb x.caller c ≡ b → (k : ℕ) × (k < length (part c xs))
        × ((d : Stamped) → slice_index_or (part c xs) k d ≡ e)
        → (k : ℕ) × (k < length (part c (x ∷ xs)))
        × ((d : Stamped) → slice_index_or (part c (x ∷ xs)) k d ≡ e)
    at false is' f = grind (arith, f.0, f.1)
    at true is' f =
        let p : part c (x ∷ xs) ≡ x ∷ part c xs = cc in
        let l = f.1 in (suc f.0, rw p (omega arith), λ d. cc (f.2 d))
