-- A verdict that stands before the end is never acceptance.
use Rattle.vyrd_log_check.proofs.Prelude.{◌≡◌, ℕ, Bool, true, false, cond, List, [], ◌∷◌, Option}
use Rattle.vyrd_log_check.proofs.Prelude.{Some, None, subst, then_some, Header, Entry, StartWord}
use Rattle.vyrd_log_check.proofs.Prelude.{Rule, Verdict, Reading, reading, text_verdict_so_far}
use Rattle.vyrd_log_check.proofs.Prelude.{own_text_verdict_so_far, is_own_text, log_verdict_so_far}
use Rattle.std.specs.Prelude.{is_none, option_map, option_and_then}
use Rattle.std.specs.Option.{option_or}
use Rattle.vyrd_base.specs.declared.verdict.Rule.TheVariants.{StartState, CallOpen}
use Rattle.vyrd_base.specs.declared.verdict.Why.{Why}
use Rattle.vyrd_base.specs.declared.verdict.Verdict.TheVariants.{Accepted, Violation, Malformed}
use Rattle.vyrd_base.specs.Places.{places, first_answer}
use Rattle.vyrd_base.specs.Rules.{Rules, own, rules_by}
use Rattle.vyrd_base.specs.Starts.{state_at_start}
use Rattle.vyrd_base.specs.Reading.{TextFault}
use Rattle.vyrd_base.specs.Verdicts.{violation_at, first_fault, shape_verdict, begun_verdict}
use Rattle.vyrd_base.specs.Verdicts.{start_verdict, verdict_so_far, end_verdict}
use Rattle.vyrd_base.specs.TextVerdicts.{entries_verdict, known_verdict}
use Rattle.vyrd_base.specs.Own.Log.{OwnReading, own_reading}
use Rattle.vyrd_base.specs.Own.LogVerdicts.{told_in_text, own_entries_verdict, known_own_verdict}

-- no acceptance
abbrev pub IsBad : Option Verdict → Type 0
IsBad None = Unit {0}
IsBad (Some (Accepted entries commits observers)) = ⊥
IsBad (Some (Violation line why)) = Unit {0}
IsBad (Some (Malformed line rule)) = Unit {0}

or_bad : (a b : Option Verdict) → IsBad a → IsBad b → IsBad (option_or a b)
or_bad None b x y = y
or_bad (Some v) b x y = x

first_bad : {A : Type 0} (f : A → Option Verdict) → ((x : A) → IsBad (f x)) → (xs : List A)
    → IsBad (first_answer f xs)
first_bad f each [] = tt
first_bad f each (x ∷ xs) = or_bad (f x) (first_answer f xs) (each x) (first_bad f each xs)

violation_bad : (line : ℕ) (o : Option Why) → IsBad (option_map (Violation line) o)
violation_bad line None = tt
violation_bad line (Some why) = tt

malformed_bad : (line : ℕ) (o : Option Rule) → IsBad (option_map (Malformed line) o)
malformed_bad line None = tt
malformed_bad line (Some rule) = tt

start_bad : (b : Bool) → IsBad (then_some b (Malformed 2 StartState))
start_bad true = tt
start_bad false = tt

open_bad : (line : ℕ) (b : Bool) → IsBad (then_some b (Malformed line CallOpen))
open_bad line true = tt
open_bad line false = tt

fault_bad : (o : Option TextFault) → IsBad (option_map (λ fault. Malformed fault.line fault.rule) o)
fault_bad None = tt
fault_bad (Some fault) = tt

-- by any rules
module _ (r : Rules) (starting : List StartWord) where
  front_bad : (well_formed : List Entry) → IsBad (first_fault r starting well_formed)
  unfolding first_fault
  front_bad well_formed = first_bad (violation_at r _ _) (λ place. violation_bad _ _) (places _)

  begun_bad : (entries : List Entry) → IsBad (begun_verdict r starting entries)
  begun_bad [] = tt
  begun_bad (e ∷ entries) = start_bad (is_none (state_at_start r starting))

  log_bad : (entries : List Entry) → IsBad (verdict_so_far r starting entries)
  unfolding verdict_so_far shape_verdict
  log_bad entries = or_bad (begun_verdict r starting entries) _ (begun_bad entries)
      (or_bad (first_fault r _ _) _ (front_bad _) (malformed_bad _ _))

  end_bad : (entries : List Entry) → IsBad (end_verdict r starting entries)
  unfolding end_verdict
  end_bad entries = or_bad (start_verdict r _) _ (start_bad _) (open_bad _ _)

  parts_bad : (entries : List Entry) (ended : Bool)
      → IsBad (option_or (verdict_so_far r starting entries)
      (cond ended (end_verdict r starting entries) None))
  parts_bad entries true = or_bad (verdict_so_far r _ _) _ (log_bad _) (end_bad _)
  parts_bad entries false = or_bad (verdict_so_far r _ _) _ (log_bad _) tt

-- about a log without a specification in front
known_bad : (read : Reading) → IsBad (known_verdict read)
known_bad read = or_bad (option_and_then (entries_verdict read) read.header) _
    (by_header read.header) (fault_bad read.fault)
  where
    by_header : (o : Option Header) → IsBad (option_and_then (entries_verdict read) o)
    by_header None = tt
    by_header (Some h) = parts_bad _ _ _ _

text_bad : (max : ℕ) (bytes : List ℕ) → IsBad (text_verdict_so_far max bytes)
unfolding text_verdict_so_far
text_bad max bytes = known_bad (reading (record { max_lines = max; is_whole = false }) bytes)

-- about one with it
told_bad : (numbers : List ℕ) (o : Option Verdict) → IsBad o
    → IsBad (option_map (told_in_text numbers) o)
told_bad numbers None bad = tt
told_bad numbers (Some (Accepted entries commits observers)) bad = bad
told_bad numbers (Some (Violation line why)) bad = tt
told_bad numbers (Some (Malformed line rule)) bad = tt

known_own_bad : (read : OwnReading) → IsBad (known_own_verdict read)
known_own_bad read = or_bad (option_and_then (own_entries_verdict read) read.header) _
    (by_header read.header) (fault_bad read.fault)
  where
    by_header : (o : Option Header) → IsBad (option_and_then (own_entries_verdict read) o)
    by_header None = tt
    by_header (Some h) = let r = rules_by (own h read.lines) in
        told_bad _ _ (parts_bad r _ _ _)

own_bad : (max : ℕ) (bytes : List ℕ) → IsBad (own_text_verdict_so_far max bytes)
unfolding own_text_verdict_so_far
own_bad max bytes = known_own_bad (own_reading (record { max_lines = max; is_whole = false }) bytes)

-- about any
pub so_far_bad : (max : ℕ) (bytes : List ℕ) → IsBad (log_verdict_so_far max bytes)
unfolding log_verdict_so_far
so_far_bad max bytes = by_kind (is_own_text bytes)
  where
    by_kind : (b : Bool)
        → IsBad (cond b (own_text_verdict_so_far max bytes) (text_verdict_so_far max bytes))
    by_kind true = own_bad max bytes
    by_kind false = text_bad max bytes

pub never_accepted : (max : ℕ) (bytes : List ℕ) (entries commits observers : ℕ)
    → log_verdict_so_far max bytes ≡ Some (Accepted entries commits observers) → ⊥
never_accepted max bytes entries commits observers there = subst IsBad there (so_far_bad max bytes)
