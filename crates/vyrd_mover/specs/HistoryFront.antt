-- What stands at the front of a history's text, for the scan that reads whole events where they
-- lie.
use Rattle.std.specs.Prelude.{◌≡◌, ℕ, true, List, ◌∷◌, ◌++◌}
use Rattle.vyrd_base.specs.declared.subject.Subject.{Subject}
use Rattle.vyrd_base.specs.declared.history.Did.{Did}
use Rattle.vyrd_base.specs.declared.history.Did.TheVariants.{Read, Wrote, Took, Gave, Marked}
use Rattle.vyrd_base.specs.declared.history.Stamped.{Stamped}
use Rattle.vyrd_text.specs.Spelled.{kind_text}
use Rattle.vyrd_mover.specs.HistoryText.{event_line}
use Rattle.vyrd_mover.specs.HistoryLines.{is_did_of, is_event_of}
use Rattle.vyrd_mover.specs.HistorySpelled.{act_text}

-- the text after the caller and a space
abbrev pub did_text : Did → List ℕ
did_text (Read cell value) = act_text (Read cell value)
did_text (Wrote cell value) = act_text (Wrote cell value)
did_text (Took lock) = act_text (Took lock)
did_text (Gave lock) = act_text (Gave lock)
did_text (Marked kind) = kind_text kind

-- what a line can say was done stands at the front of the text, and after its line feed the rest
abbrev pub IsDidAtFront : Subject → List ℕ → Did → List ℕ → Type 0
IsDidAtFront subject text did rest =
    (is_did_of subject did ≡ true) × (text ≡ did_text did ++ 10 ∷ rest)

-- the line of the event with this number stands at the front of the text, and after its line feed
-- the rest
abbrev pub IsEventAtFront : Subject → ℕ → List ℕ → Stamped → List ℕ → Type 0
IsEventAtFront subject number text e rest = (e.number ≡ number)
    × (is_event_of subject e ≡ true) × (text ≡ event_line e ++ 10 ∷ rest)
