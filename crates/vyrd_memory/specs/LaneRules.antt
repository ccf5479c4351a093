-- What the part of one caller keeps that plays a sound script, whatever the others do beside it.
use Rattle.std.specs.Prelude.{◌≡◌, ℕ, ◌<◌, ◌^◌, true, false, List, [], ◌∷◌, Some, None}
use Rattle.vyrd_base.specs.declared.header.Header.{Header}
use Rattle.vyrd_base.specs.declared.log.Entry.{Entry}
use Rattle.vyrd_base.specs.declared.history.Did.{Did}
use Rattle.vyrd_base.specs.declared.history.Did.TheVariants.{Read}
use Rattle.vyrd_base.specs.declared.history.Stamped.{Stamped}
use Rattle.vyrd_base.specs.declared.verdict.Rule.{Rule}
use Rattle.vyrd_base.specs.declared.verdict.Rule.TheVariants.{BlockRaced}
use Rattle.vyrd_base.specs.Places.{newest_first}
use Rattle.vyrd_base.specs.Callers.{open_call}
use Rattle.vyrd_base.specs.Shape.{broken_rule}
use Rattle.vyrd_base.specs.Front.{first_break}
use Rattle.vyrd_base.specs.Verdicts.{is_call_open}
use Rattle.vyrd_base.specs.Histories.{cells_of, is_legal, log_of}
use Rattle.vyrd_memory.specs.Scripts.{Script, Plays, PlaysToTheEnd}
use Rattle.vyrd_memory.specs.Soundness.{IsSound, at_rest}
use Rattle.vyrd_memory.specs.Turns.{part_of}
use Rattle.vyrd_memory.specs.Runs.{AreSoundScripts, PlayToTheEnd}

-- each value that was read is below 2^63
abbrev pub AreSmallReads : List Did → Type 0
AreSmallReads [] = Unit {0}
AreSmallReads (Read cell value ∷ earlier) = (value < 2 ^ 63) × AreSmallReads earlier
AreSmallReads (did ∷ earlier) = AreSmallReads earlier

-- each entry of the caller breaks no rule after the entries before it, except that it may race; the
-- newest entry stands first
abbrev pub KeepsTheRules : Header → ℕ → List Entry → Type 0
KeepsTheRules h c [] = Unit {0}
KeepsTheRules h c (e ∷ earlier) =
    (e.caller ≡ c → (rule : Rule) → broken_rule h earlier e ≡ Some rule → rule ≡ BlockRaced)
    × KeepsTheRules h c earlier

-- Whatever else is in a history: if the caller's part plays a sound script, however far, and reads
-- values below 2^63 alone, the caller's entries in the log keep all rules of shape, except that
-- they may race.
abbrev pub LanesKeepTheRules : Type 0
LanesKeepTheRules = (h : Header) (c : ℕ) (script : Script) (history : List Stamped) → c < h.callers
    → IsSound h at_rest script → Plays script (part_of c (newest_first history))
    → AreSmallReads (part_of c (newest_first history))
    → KeepsTheRules h c (newest_first (log_of history))

-- If it plays the script to its end, the caller has no open execution.
abbrev pub EndedLanesAreClosed : Type 0
EndedLanesAreClosed =
    (h : Header) (c : ℕ) (script : Script) (history : List Stamped) → c < h.callers
    → IsSound h at_rest script → PlaysToTheEnd script (part_of c (newest_first history))
    → AreSmallReads (part_of c (newest_first history))
    → open_call c (newest_first (log_of history)) ≡ None

-- So the log of a legal history in which all scripts are played to their end breaks no rule first
-- but that of raced blocks, ..
abbrev pub OnlyRacesBreakRules : Type 0
OnlyRacesBreakRules =
    (h : Header) (scripts : List Script) (history : List Stamped) → AreSoundScripts h scripts
    → is_legal (cells_of h) history ≡ true → PlayToTheEnd scripts history → (rule : Rule)
    → first_break h (log_of history) ≡ Some rule → rule ≡ BlockRaced

-- .. and no execution is open at its end.
abbrev pub NoneIsOpenAtTheEnd : Type 0
NoneIsOpenAtTheEnd =
    (h : Header) (scripts : List Script) (history : List Stamped) → AreSoundScripts h scripts
    → is_legal (cells_of h) history ≡ true → PlayToTheEnd scripts history
    → is_call_open h (newest_first (log_of history)) ≡ false
