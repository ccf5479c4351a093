-- A verdict names the line of a starting word, an entry or `end` that was read, and so does each
-- that is told by the lines of the text.
use Rattle.vyrd_own_check.proofs.Prelude
use Prelude.{◌≡◌, ℕ, suc, ◌+◌, ◌-◌, ◌<◌, ◌≤◌, Bool, true, false, List, [], ◌∷◌, ◌++◌, length}
use Prelude.{Option, Some, None, refl, ap, ◌∙◌, sym, subst, arith, is_none, option_or, then_some}
use Prelude.{Header, Entry, StartWord, Rule, StartState, Verdict, Malformed, State, front}
use Prelude.{state_at_start, Rules, verdict_so_far, end_verdict, told_in_text}
use Rattle.std.specs.Option.{option_map}
use Rattle.std.proofs.lemmas.List.{get_or_append_left}
use Rattle.vyrd_base.specs.declared.verdict.Why.{Why}
use Rattle.vyrd_base.specs.declared.verdict.Verdict.TheVariants.{Accepted, Violation}
use Rattle.vyrd_base.specs.Places.{places_after, first_answer}
use Rattle.vyrd_base.specs.Shape.{broken_rule}
use Rattle.vyrd_base.specs.Front.{front_after, first_break}
use Rattle.vyrd_base.specs.Faults.{fault_at}
use Rattle.vyrd_base.specs.Verdicts.{violation_at, states_along, first_fault, shape_verdict}
use Rattle.vyrd_base.proofs.Fronts.{break_after}

-- the verdict names no line or one of the first n behind the header
abbrev pub IsWithin : ℕ → Verdict → Type 0
IsWithin n (Accepted entries commits observers) = Unit {0}
IsWithin n (Violation line why) = line - 2 < n
IsWithin n (Malformed line rule) = line - 2 < n

pub within_more : (m n : ℕ) (v : Verdict) → m ≤ n → IsWithin m v → IsWithin n v
within_more m n v low is = grind arith

-- it is told the same by more lines
pub told_stays : (numbers more : List ℕ) (v : Verdict) → IsWithin (length numbers) v
    → told_in_text (numbers ++ more) v ≡ told_in_text numbers v
told_stays numbers more (Accepted entries commits observers) is = refl
told_stays numbers more (Violation line why) is = ap (λ n. Violation n why)
    (get_or_append_left numbers more line (line - 2) is)
told_stays numbers more (Malformed line rule) is = ap (λ n. Malformed n rule)
    (get_or_append_left numbers more line (line - 2) is)

-- what was found is this verdict
found_within : (n : ℕ) (v w : Verdict) → Some v ≡ Some w → IsWithin n v → IsWithin n w
found_within n v w e is = let same : v ≡ w = cc in subst (IsWithin n) same is

fault_within : (r : Rules) (starting : List StartWord) (states : List State)
    (earlier xs : List Entry) (v : Verdict)
    → first_answer (violation_at r starting states) (places_after earlier xs) ≡ Some v
    → IsWithin (length starting + length earlier + length xs) v
fault_within r starting states earlier [] v found = cc
fault_within r starting states earlier (e ∷ later) v found =
    by_fault (λ f. fault_within r starting states (e ∷ earlier) later v f) (fault_at r _ _ _) found
  where
    n : ℕ
    n = length starting + length earlier + suc (length later)

    rest : Option Verdict
    rest = first_answer (violation_at r starting states) (places_after (e ∷ earlier) later)

    by_fault : (rest ≡ Some v → IsWithin (length starting + suc (length earlier) + length later) v)
        → (o : Option Why)
        → option_or (option_map (Violation (length starting + length earlier + 2)) o) rest ≡ Some v
        → IsWithin n v
    by_fault on (Some why) f = search (found_within, starting, arith)
    by_fault on None f = search (within_more, starting, arith)

-- a front is no longer than its log, and shorter where the log breaks a rule
front_short : (h : Header) (earlier xs : List Entry) → length (front_after h earlier xs) ≤ length xs
front_short h earlier [] = omega arith
front_short h earlier (e ∷ later) = by_rule (broken_rule h _ e) (front_short h (e ∷ earlier) later)
  where
    by_rule : (o : Option Rule) → length (front_after h (e ∷ earlier) later) ≤ length later
        → length (elim o as (λ _. List Entry) [
          | None ↦ e ∷ front_after h (e ∷ earlier) later
          | Some
              rule ↦ []
        ]) ≤ suc (length later)
    by_rule None short = omega (arith, short)
    by_rule (Some rule) short = omega arith

break_short : (h : Header) (earlier xs : List Entry) (rule : Rule) → break_after h earlier xs
    ≡ Some rule
    → length (front_after h earlier xs) < length xs
break_short h earlier [] rule found = cc
break_short h earlier (e ∷ later) rule found = by_rule (broken_rule h earlier e)
    (break_short h (e ∷ earlier) later rule) found
  where
    by_rule : (o : Option Rule)
        → (break_after h (e ∷ earlier) later ≡ Some rule
        → length (front_after h (e ∷ earlier) later) < length later)
        → option_or o (break_after h (e ∷ earlier) later) ≡ Some rule
        → length (elim o as (λ _. List Entry) [
          | None ↦ e ∷ front_after h (e ∷ earlier) later
          | Some
              rule ↦ []
        ]) < suc (length later)
    by_rule None on f = omega (arith, on f)
    by_rule (Some x) on f = omega arith

front_few : (h : Header) (es : List Entry) → length (front h es) ≤ length es
unfolding front
front_few h es = front_short h [] es

break_few : (h : Header) (es : List Entry) (rule : Rule) → first_break h es ≡ Some rule
    → length (front h es) < length es
unfolding front first_break
break_few h es rule found = break_short h [] es rule found

first_within : (r : Rules) (starting : List StartWord) (xs : List Entry) (v : Verdict)
    → first_fault r starting xs ≡ Some v
    → IsWithin (length starting + length xs) v
unfolding first_fault
first_within r starting xs v found = within_more (length _ + 0 + length xs) (length _ + length _) v
    (omega arith) (fault_within r starting (states_along r _ _) [] _ v found)

shape_within : (h : Header) (starting : List StartWord) (es : List Entry) (v : Verdict)
    → shape_verdict h starting es ≡ Some v
    → IsWithin (length starting + length es) v
unfolding shape_verdict
shape_within h starting es v found = search (front, break_few, found_within, arith)

-- no verdict stands before the first entry
pub nothing_so_far : (r : Rules) (starting : List StartWord) → verdict_so_far r starting [] ≡ None
unfolding verdict_so_far first_fault shape_verdict front first_break
nothing_so_far r starting = refl

pub so_far_within : (r : Rules) (starting : List StartWord) (es : List Entry) (v : Verdict)
    → verdict_so_far r starting es ≡ Some v
    → IsWithin (length starting + length es) v
unfolding verdict_so_far
so_far_within r starting [] v found = absurd (never (sym (nothing_so_far r starting) ∙ found))
  where
    never : None ≡ Some v → ⊥
    never e = cc
so_far_within r starting (e ∷ es) v found = by_start (is_none (state_at_start r starting)) found
  where
    all : List Entry
    all = e ∷ es

    n : ℕ
    n = length starting + suc (length es)

    by_fault : (o : Option Verdict) → first_fault r starting (front r.header all) ≡ o
        → option_or o (shape_verdict r.header starting all) ≡ Some v
        → IsWithin n v
    by_fault None is f = shape_within r.header starting all v f
    by_fault (Some w) is f =
        let few = front_few r.header all in
        found_within n w v f (within_more (length starting + length (front r.header all)) n w
        (omega (arith, few))
        (first_within r starting (front r.header all) w is))

    by_start : (b : Bool)
        → option_or (then_some b (Malformed 2 StartState))
        (option_or (first_fault r starting (front r.header all))
        (shape_verdict r.header starting all)) ≡ Some v
        → IsWithin n v
    by_start true f = found_within n (Malformed 2 StartState) v f (omega arith)
    by_start false f = by_fault (first_fault r starting (front r.header all)) refl f

pub end_within : (r : Rules) (starting : List StartWord) (es : List Entry) (v : Verdict)
    → end_verdict r starting es ≡ Some v
    → IsWithin (length starting + length es + 1) v
unfolding end_verdict
end_within r starting es v found = search (is_none, found_within, arith)
