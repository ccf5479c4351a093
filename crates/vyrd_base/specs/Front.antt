-- The well-formed front of a log, and where it ends: the front is the longest beginning of the log
-- in which each entry keeps the rules of shape, each judged by the entries before it.
use Rattle.std.specs.Prelude.{◌≡◌, List, [], ◌∷◌, Option, Some, None}
use Rattle.vyrd_base.specs.declared.header.Header.{Header}
use Rattle.vyrd_base.specs.declared.log.Entry.{Entry}
use Rattle.vyrd_base.specs.declared.verdict.Rule.{Rule}
use Rattle.vyrd_base.specs.Places.{places, first_answer}
use Rattle.vyrd_base.specs.Shape.{broken_rule}

-- the longest beginning of the later entries in which each entry keeps the rules
abbrev pub front_after : Header → List Entry → List Entry → List Entry
front_after h earlier [] = []
front_after h earlier (e ∷ later) = elim (broken_rule h earlier e) [
  | None ↦ e ∷ front_after h (e ∷ earlier) later
  | Some rule ↦ []
]

-- the longest beginning of the log in which each entry keeps the rules
unfoldable pub front : Header → List Entry → List Entry
front h entries = front_after h [] entries

-- the rule that the entry after the front breaks, if there is one
unfoldable pub first_break : Header → List Entry → Option Rule
first_break h entries =
    first_answer (λ place. broken_rule h place.earlier place.here) (places entries)

-- what comes after a part of a log, if no rule is broken in that part
abbrev pub unless_broken : Option Rule → List Entry → List Entry
unless_broken None more = more
unless_broken (Some rule) more = []

-- the log is well formed, said of its entries the other way round: each keeps the rules after the
-- entries before it, the newest entry first
abbrev pub WellFormed : Header → List Entry → Type 0
WellFormed h [] = Unit {0}
WellFormed h (e ∷ earlier) = (broken_rule h earlier e ≡ None) × WellFormed h earlier
