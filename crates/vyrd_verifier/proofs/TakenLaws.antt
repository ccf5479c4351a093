-- One event more that is taken in, and one more that is handed out.
use Rattle.std.proofs.Common.{◌≡◌, ◌≢◌, ℕ, zero, suc, ◌+◌, ◌<◌, ◌≤◌, List, [], ◌∷◌, ◌++◌, Bool}
use Rattle.std.proofs.Common.{false, cond, Some, None, refl, sym, ap, ◌∙◌, arith, eq-eqb, ne_eqb}
use Rattle.std.specs.Prelude.{◌==◌, is_some, if◌then◌else◌}
use Rattle.std.specs.Option.{option_to_list}
use mathlib.Core.Logic.{dite}
use native.Mathlib.Decide.{ℕ_discrete}
use Rattle.vyrd_base.specs.declared.history.Stamped.{Stamped}
use Rattle.vyrd_relay.specs.Numbers.{ReorderKept, held, has}
use Rattle.vyrd_verifier.specs.Taken.{numbered, in_order_below, SequencerView, has_failed}
use Rattle.vyrd_verifier.specs.Taken.{has_number, AreKept, IsTaking, HasTakenIn}

-- an event more at the end is found where none with its number was there
pub numbered_new : (n : ℕ) (taken : List Stamped) (e : Stamped) → numbered n taken ≡ None → e.number
    ≡ n → numbered n (taken ++ e ∷ []) ≡ Some e
numbered_new n [] e none is = ap (λ (b : Bool). cond b (Some e) None) (eq-eqb e.number n is)
numbered_new n (x ∷ xs) e none is = at (x.number == n) none (λ q. numbered_new n xs e q is)
  where
    at : (b : Bool) → (cond b (Some x) (numbered n xs)) ≡ None
        → (numbered n xs ≡ None → numbered n (xs ++ e ∷ []) ≡ Some e)
        → cond b (Some x) (numbered n (xs ++ e ∷ [])) ≡ Some e
    at b q more = search (more, arith)

-- and what is found with another number is as it was
pub numbered_old : (n : ℕ) (taken : List Stamped) (e : Stamped) → e.number ≢ n
    → numbered n (taken ++ e ∷ []) ≡ numbered n taken
numbered_old n [] e apart = ap (λ (b : Bool). cond b (Some e) None) (ne_eqb e.number n apart)
numbered_old n (x ∷ xs) e apart = cc (numbered_old n xs e apart)

pub in_order_same : (n : ℕ) (taken : List Stamped) (e : Stamped) → n ≤ e.number
    → in_order_below n (taken ++ e ∷ []) ≡ in_order_below n taken
in_order_same zero taken e l = refl
in_order_same (suc n) taken e l = let a = in_order_same n taken e (omega arith) in let b =
    numbered_old n taken e (λ q. omega arith) in
    λ i. a i ++ option_to_list (b i)

-- the events in their order when the one with the next number is there too
pub in_order_more : (n : ℕ) (taken : List Stamped) (e : Stamped) → numbered n taken ≡ Some e
    → in_order_below (n + 1) taken ≡ in_order_below n taken ++ e ∷ []
in_order_more n taken e found = grind (arith, taken, found)

-- the event with the next number was handed out
pub kept_after : (k after : ReorderKept) (taken : List Stamped) (e : Stamped) → held k k.next
    ≡ Some e
    → after.next ≡ k.next + 1
    → ((n : ℕ) → k.next < n → held after n ≡ held k n) → AreKept k taken → AreKept after taken
kept_after k after taken e found next same kept = grind arith

-- if a number wasn't had, it is from the next one on, and no event has it
pub new_number : (k : ReorderKept) (taken : List Stamped) (number : ℕ) → has k number ≡ false
    → AreKept k taken
    → (k.next ≤ number) × (numbered number taken ≡ None)
new_number k taken number not_had kept = search (taken, kept, is_some, held, numbered, arith)

-- an event with a new number is put in
pub kept_with : (k after : ReorderKept) (taken : List Stamped) (e : Stamped) → has k e.number
    ≡ false
    → after.next ≡ k.next
    → ((n : ℕ) → held after n ≡ (if n == e.number then Some e else held k n)) → AreKept k taken
    → AreKept after (taken ++ e ∷ [])
kept_with k after taken e not_had next put kept =
    let new = new_number k taken e.number not_had kept in record {
      gone = λ n l. ap is_some (numbered_old n taken e (λ q. let a = new.0 in omega arith))
          ∙ kept.gone n (omega arith);
      later = λ n l. dite (ℕ_discrete n e.number)
          (λ is. put n ∙ ap (λ (b : Bool). cond b (Some e) (held k n)) (eq-eqb n e.number is)
          ∙ sym (numbered_new n taken e (ap (λ (m : ℕ). numbered m taken) is ∙ new.1) (sym is)))
          (λ apart. put n ∙ ap (λ (b : Bool). cond b (Some e) (held k n)) (ne_eqb n e.number apart)
          ∙ kept.later n (omega arith) ∙ sym (numbered_old n taken e (λ q. apart (sym q))));
    }

pub taking_after : {S : Type 0} (has_taken : S → List Stamped → Type 0) (sink sink' : S)
    (k after : ReorderKept) (taken : List Stamped) (e : Stamped)
    → held k k.next ≡ Some e → after.next ≡ k.next + 1
    → ((n : ℕ) → k.next < n → held after n ≡ held k n)
    → ((history : List Stamped) → has_taken sink history → has_taken sink' (history ++ e ∷ []))
    → IsTaking has_taken sink k taken → IsTaking has_taken sink' after taken
taking_after has_taken sink sink' k after taken e found next same shown t = grind arith

pub taking_with : {S : Type 0} (has_taken : S → List Stamped → Type 0) (sink : S)
    (k after : ReorderKept)
    (taken : List Stamped) (e : Stamped)
    → has k e.number ≡ false → after.next ≡ k.next
    → ((n : ℕ) → held after n ≡ (if n == e.number then Some e else held k n))
    → IsTaking has_taken sink k taken → IsTaking has_taken sink after (taken ++ e ∷ [])
taking_with has_taken sink k after taken e not_had next put t =
    search (new_number, kept_with, in_order_same, arith)

-- nothing was taken in
pub taking_none : {S : Type 0} (has_taken : S → List Stamped → Type 0) (sink : S) (k : ReorderKept)
    → k.next ≡ 0 → ((n : ℕ) → held k n ≡ None)
    → has_taken sink [] → IsTaking has_taken sink k []
taking_none has_taken sink k next none shown = grind arith

-- a new sequencer
pub taken_first : {S : Type 0} (has_taken : S → List Stamped → Type 0) (q : SequencerView S)
    → q.refused ≡ None
    → IsTaking has_taken q.sink q.kept [] → HasTakenIn has_taken q []
taken_first has_taken q none t = grind arith

-- one event more was taken in
pub taken_more : {S : Type 0} (has_taken : S → List Stamped → Type 0) (old new : SequencerView S)
    (taken : List Stamped) (e : Stamped)
    → has_failed old ≡ false → new.refused ≡ None
    → ((xs : List Stamped) → IsTaking has_taken old.sink old.kept xs
    → IsTaking has_taken new.sink new.kept (xs ++ e ∷ []))
    → held new.kept new.kept.next ≡ None → HasTakenIn has_taken old taken → HasTakenIn has_taken new
    (taken ++ e ∷ [])
taken_more has_taken old new taken e going none step gone t = grind arith

-- an event was refused
pub taken_same : {S : Type 0} (has_taken : S → List Stamped → Type 0) (old new : SequencerView S)
    (taken : List Stamped) (number : ℕ) → old.refused ≡ None → new.refused ≡ Some number
    → has_number old number ≡ false → ((n : ℕ) → n ≢ number → has new.kept n ≡ has old.kept n)
    → HasTakenIn has_taken old taken → HasTakenIn has_taken new taken
taken_same has_taken old new taken number none some not_had same t = grind arith

-- what is had changes at the number of the event that is put in alone
pub has_with : (k after : ReorderKept) (e : Stamped) → after.next ≡ k.next
    → ((n : ℕ) → held after n ≡ (if n == e.number then Some e else held k n))
    → (n : ℕ) → n ≢ e.number → has after n ≡ has k n
has_with k after e next put n apart = grind (arith, after, apart, is_some, held, ne_eqb)

-- an event whose turn it is was shown at once
pub taking_turn : {S : Type 0} (has_taken : S → List Stamped → Type 0) (sink sink' : S)
    (k after : ReorderKept) (taken : List Stamped) (e : Stamped)
    → has k e.number ≡ false → e.number ≡ k.next → after.next ≡ k.next + 1
    → ((n : ℕ) → k.next < n → held after n ≡ held k n)
    → has_taken sink' (in_order_below k.next taken ++ e ∷ [])
    → IsTaking has_taken sink k taken → IsTaking has_taken sink' after (taken ++ e ∷ [])
taking_turn has_taken sink sink' k after taken e not_had turn next same shown t = search
    (new_number, numbered, numbered_new, in_order_more, in_order_same, is_some, numbered_old, arith)

-- and what is had changes at its number alone
pub has_passed : (k after : ReorderKept) (number : ℕ) → number ≡ k.next → after.next ≡ k.next + 1
    → ((n : ℕ) → k.next < n → held after n ≡ held k n)
    → (n : ℕ) → n ≢ number → has after n ≡ has k n
has_passed k after number turn next same n apart = search (is_some, held, arith)
