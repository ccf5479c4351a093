-- A sink that was shown in order what came of a history has taken the history.
use Rattle.vyrd_live.proofs.Prelude.{◌≡◌, ◌≢◌, ℕ, zero, suc, ◌<◌, ◌≤◌, List, [], ◌∷◌, ◌++◌, length}
use Rattle.vyrd_live.proofs.Prelude.{take, Bool, true, false, cond, Option, Some, None, refl, sym}
use Rattle.vyrd_live.proofs.Prelude.{ap, ◌∙◌, subst, arith, ◌==◌, is_some, slice_get, All, take_all}
use Rattle.vyrd_live.proofs.Prelude.{Stamped, Cells, is_legal, part}
use Rattle.std.specs.Option.{option_to_list}
use Rattle.std.proofs.lemmas.Option.{slice_get_within, get_or_from_slice_get}
use Rattle.vyrd_trace.proofs.HistoryGrows.{numbered as number_at}
use Rattle.vyrd_trace.proofs.Parts.{part_in, in_part}
use Rattle.vyrd_verifier.specs.Taken.{numbered, in_order_below}
use Rattle.vyrd_live.specs.Beside.{HasShownInOrder}

-- what is found stands in the list, with its number
found_at : (n : ℕ) (taken : List Stamped) (e : Stamped) → numbered n taken ≡ Some e → (k : ℕ)
    × (slice_get taken k ≡ Some e) × (e.number ≡ n)
found_at n [] e is = absurd (cc)
found_at n (x ∷ xs) e is = at (x.number == n) refl is (λ q. found_at n xs e q)
  where
    at : (b : Bool) → (x.number == n) ≡ b → cond b (Some x) (numbered n xs) ≡ Some e
        → (numbered n xs ≡ Some e → (k : ℕ) × (slice_get xs k ≡ Some e) × (e.number ≡ n))
        → (k : ℕ) × (slice_get (x ∷ xs) k ≡ Some e) × (e.number ≡ n)
    at true b q more = grind arith
    at false b q more = let f = more q in (suc _, f.1, f.2)

-- what stands in the list is found by its number
found : (taken : List Stamped) (k : ℕ) (e : Stamped) → slice_get taken k ≡ Some e
    → is_some (numbered e.number taken) ≡ true
found [] k e is = absurd (cc)
found (x ∷ xs) zero e is = grind arith
found (x ∷ xs) (suc k) e is = at (x.number == e.number) (found xs k e is)
  where
    at : (b : Bool) → is_some (numbered e.number xs) ≡ true
        → is_some (cond b (Some x) (numbered e.number xs)) ≡ true
    at true q = refl
    at false q = q

take_get : (h : List Stamped) (n : ℕ) → take n h ++ option_to_list (slice_get h n) ≡ take (suc n) h
take_get [] zero = refl
take_get [] (suc n) = refl
take_get (x ∷ xs) zero = refl
take_get (x ∷ xs) (suc n) = ap (λ (l : List Stamped). x ∷ l) (take_get xs n)

in_order : (h taken : List Stamped) → ((n : ℕ) → numbered n taken ≡ slice_get h n) → (n : ℕ)
    → in_order_below n taken ≡ take n h
in_order h taken same zero = refl
in_order h taken same (suc n) = cc (in_order h taken same n, same n, take_get h n)

past_end : (h : List Stamped) (n : ℕ) → slice_get h n ≡ None → length h ≤ n
past_end [] n e = omega arith
past_end (x ∷ xs) zero e = absurd (cc)
past_end (x ∷ xs) (suc n) e = let r = past_end xs n e in omega (arith, r)

-- each event of the list stands in the history at its number
abbrev StandIn : List Stamped → List Stamped → Type 0
StandIn h xs = (k : ℕ) (e : Stamped) → slice_get xs k ≡ Some e → slice_get h e.number ≡ Some e

module _ (h taken : List Stamped) (inside : StandIn h taken)
    (whole : (i : ℕ) (e : Stamped) → slice_get h i ≡ Some e → is_some (numbered i taken) ≡ true)
  where
    at_number : (n : ℕ) → numbered n taken ≡ slice_get h n
    at_number n = by_case (numbered n taken) refl (slice_get h n) refl
      where
        by_case : (o : Option Stamped) → numbered n taken ≡ o → (p : Option Stamped) → slice_get h n
            ≡ p → o ≡ p
        by_case (Some e) is p here = let f = found_at n taken e is in
            sym (ap (slice_get h) (sym f.2) ∙ inside f.0 e f.1) ∙ here
        by_case None is None here = refl
        by_case None is (Some e) here = let w : is_some (numbered n taken)
            ≡ true = whole n e here in
            absurd (no (sym (ap is_some is) ∙ w))
          where
            no : false ≢ true
            no e = cc

    -- all events that were taken in, in the order of their numbers, are the history
    history_is : (m : ℕ) → numbered m taken ≡ None → in_order_below m taken ≡ h
    history_is m missing =
        let over = past_end h m (sym (at_number m) ∙ missing) in
        in_order h taken at_number m ∙ take_all m h over

-- of two lists that have the same part of a caller, each has the other's events of that caller
in_other : (c : ℕ) (xs ys : List Stamped) → part c xs ≡ part c ys → (k : ℕ) (e : Stamped)
    → slice_get xs k ≡ Some e → e.caller ≡ c
    → (i : ℕ) × (slice_get ys i ≡ Some e)
in_other c xs ys same k e at own =
    let mine = in_part c xs k e at own in
    let there = part_in c ys mine.0 e (rw (← same) mine.1) in
    (there.0, there.1 ∙ ap Some (cc (mine.2 e)))

module _ (z : Cells) (had h : List Stamped) (legal : is_legal z h ≡ true)
    (parts : (c : ℕ) → c < z.callers → part c had ≡ part c h) where
  -- each event that was had stands in the history at its number
  had_stands : All (λ (e : Stamped). e.caller < z.callers) had → StandIn h had
  had_stands senders k e at =
      let low : e.caller < z.callers = rw (← get_or_from_slice_get had k e e at)
      (senders k e (slice_get_within had k e at)) in
      let there = in_other e.caller had h (parts e.caller low) k e at refl in
      ap (slice_get h) (number_at z h legal there.0 e there.1).0 ∙ there.1

  -- each event of the history was had
  all_had : (i : ℕ) (e : Stamped) → slice_get h i ≡ Some e → is_some (numbered i had) ≡ true
  all_had i e at =
      let is = number_at z h legal i e at in
      let there = in_other e.caller h had (sym (parts e.caller is.1)) i e at refl in
      subst (λ (n : ℕ). is_some (numbered n had) ≡ true) is.0 (found had there.0 e there.1)

-- a sink that was shown in order what came has taken the history, if of each caller the events came
-- that are its part
pub all_shown : {S : Type 0} (has_taken : S → List Stamped → Type 0) (z : Cells) (sink : S)
    (had h : List Stamped) → is_legal z h ≡ true
    → ((c : ℕ) → c < z.callers → part c had ≡ part c h)
    → All (λ (e : Stamped). e.caller < z.callers) had
    → HasShownInOrder has_taken sink had → has_taken sink h
all_shown has_taken z sink had h legal parts senders shown =
    subst (has_taken sink)
    (history_is h had (had_stands z had h legal parts senders) (all_had z had h legal parts)
    shown.next shown.missing) shown.shown
