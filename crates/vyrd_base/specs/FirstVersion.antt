-- The verdict as it was while version 1 was the only one: no log began with words, no commit stood
-- inside a block, and a block's writes took effect at its end (`BlockEnds`). That logs of version 1
-- keep it is the law `first_version_keeps_its_verdicts`. What the rules share is cited; what stands
-- here is what has changed since.
use Rattle.std.specs.Prelude.{ℕ, ◌+◌, List, [], ◌∷◌, length, Option, Some, None, option_map}
use Rattle.std.specs.Prelude.{option_and_then, unwrap_or, slice_get, is_none, nat_le, ◌^◌}
use Rattle.std.specs.Bool.{then_some}
use Rattle.std.specs.Option.{option_or}
use Rattle.vyrd_base.specs.declared.header.Header.{Header}
use Rattle.vyrd_base.specs.declared.log.Kind.{Kind}
use Rattle.vyrd_base.specs.declared.log.Kind.TheVariants.{Return, Write, Commit, BlockCommit}
use Rattle.vyrd_base.specs.declared.log.Entry.{Entry}
use Rattle.vyrd_base.specs.declared.verdict.Rule.{Rule}
use Rattle.vyrd_base.specs.declared.verdict.Rule.TheVariants.{NoCall, WordRange, ValueRange}
use Rattle.vyrd_base.specs.declared.verdict.Rule.TheVariants.{BlockRaced, ObserverCommit}
use Rattle.vyrd_base.specs.declared.verdict.Rule.TheVariants.{SecondCommit, CommitInBlock}
use Rattle.vyrd_base.specs.declared.verdict.Rule.TheVariants.{CallerRange, CallOpen}
use Rattle.vyrd_base.specs.declared.verdict.Why.{Why}
use Rattle.vyrd_base.specs.declared.verdict.Verdict.{Verdict}
use Rattle.vyrd_base.specs.declared.verdict.Verdict.TheVariants.{Violation, Malformed}
use Rattle.vyrd_base.specs.Places.{Place, places, position_of, newest_first, first_answer}
use Rattle.vyrd_base.specs.Callers.{open_call, has_block, has_committed}
use Rattle.vyrd_base.specs.Layout.{plain_words}
use Rattle.vyrd_base.specs.BlockEnds.{ended_words}
use Rattle.vyrd_base.specs.Shape.{◌breaks◌, Check, first_broken, checks_of, is_observing}
use Rattle.vyrd_base.specs.Shape.{is_held_by_other}
use Rattle.vyrd_base.specs.States.{State}
use Rattle.vyrd_base.specs.Specification.{start}
use Rattle.vyrd_base.specs.Commits.{commits, states_from, committed_at, commit_count}
use Rattle.vyrd_base.specs.Views.{view_of_words}
use Rattle.vyrd_base.specs.Faults.{commit_fault, return_fault}
use Rattle.vyrd_base.specs.Verdicts.{is_call_open, accepted}
use Rattle.vyrd_base.specs.Rules.{rules_of}

-- the rules for an entry of the caller, in their order
abbrev pub old_checks_of : Header → List Entry → ℕ → Kind → List Check
old_checks_of h earlier c (Write word value) =
    (is_none (open_call c earlier) breaks NoCall)
    ∷ (nat_le (plain_words h) word breaks WordRange)
    ∷ (nat_le (2 ^ 63) value breaks ValueRange)
    ∷ (is_held_by_other h c word earlier breaks BlockRaced) ∷ []
old_checks_of h earlier c Commit =
    (is_none (open_call c earlier) breaks NoCall)
    ∷ (is_observing c earlier breaks ObserverCommit)
    ∷ (has_committed c earlier breaks SecondCommit)
    ∷ (has_block c earlier breaks CommitInBlock) ∷ []
old_checks_of h earlier c kind = checks_of h earlier c kind

abbrev pub old_broken_rule : Header → List Entry → Entry → Option Rule
old_broken_rule h earlier e =
    first_broken ((nat_le h.callers e.caller breaks CallerRange)
    ∷ old_checks_of h earlier e.caller e.kind)

-- the longest beginning of the later entries in which each entry keeps the rules
abbrev pub old_front_after : Header → List Entry → List Entry → List Entry
old_front_after h earlier [] = []
old_front_after h earlier (e ∷ later) = elim (old_broken_rule h earlier e) [
  | None ↦ e ∷ old_front_after h (e ∷ earlier) later
  | Some rule ↦ []
]

abbrev pub old_front : Header → List Entry → List Entry
old_front h entries = old_front_after h [] entries

abbrev pub old_first_break : Header → List Entry → Option Rule
old_first_break h entries =
    first_answer (λ place. old_broken_rule h place.earlier place.here) (places entries)

-- the fault of the commit at a place
abbrev pub old_fault_of_commit : Header → List State → Place Entry → Option Why
old_fault_of_commit h states place = option_and_then
    (commit_fault (rules_of h) (view_of_words h (ended_words h (place.here ∷ place.earlier)))
    (committed_at place))
    (slice_get states (commit_count place.earlier))

abbrev pub old_fault_of_kind : Header → List State → Place Entry → Kind → Option Why
old_fault_of_kind h states place Commit = old_fault_of_commit h states place
old_fault_of_kind h states place BlockCommit = old_fault_of_commit h states place
old_fault_of_kind h states place (Return reply) =
    return_fault (rules_of h) states place.here.caller place.earlier reply
old_fault_of_kind h states place _ = None

-- the first fault of a front, with its line
abbrev pub old_first_fault : Header → List Entry → Option Verdict
old_first_fault h well_formed = first_answer
    (λ place. option_map (Violation (position_of place + 2))
    (old_fault_of_kind h
    (states_from (rules_of h) start (commits well_formed)) place place.here.kind))
    (places well_formed)

-- the verdict that stands already: the first fault in the front, or otherwise the break after it
abbrev pub old_verdict_so_far : Header → List Entry → Option Verdict
old_verdict_so_far h entries = option_or (old_first_fault h (old_front h entries))
    (option_map (Malformed (length (old_front h entries) + 2)) (old_first_break h entries))

-- the verdict if `end` stands after the entries while a call is open
abbrev pub old_end_verdict : Header → List Entry → Option Verdict
old_end_verdict h entries =
    then_some (is_call_open h (newest_first entries)) (Malformed (length entries + 2) CallOpen)

-- the verdict about a whole log
unfoldable pub old_verdict : Header → List Entry → Verdict
old_verdict h entries =
    unwrap_or (option_or (old_verdict_so_far h entries) (old_end_verdict h entries))
    (accepted entries)
