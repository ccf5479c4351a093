-- The keys whose amount a step of string buffers can change. A buffer has at most 7 characters, so
-- that a cut to 7 or more leaves all.
use Rattle.std.specs.Prelude.{ℕ, nat_lt, List, [], ◌∷◌, if◌then◌else◌}
use Rattle.vyrd_base.specs.declared.buffers.BuffersMethod.{BuffersMethod}
use Rattle.vyrd_base.specs.declared.buffers.BuffersMethod.TheVariants.{Append, AppendFrom, Cut}
use Rattle.vyrd_base.specs.declared.buffers.BuffersMethod.TheVariants.{Length, Read}
use Rattle.vyrd_base.specs.declared.subject.Args.{Args}

abbrev pub touches : BuffersMethod → Args → List ℕ
touches Append args = args.a ∷ []
touches AppendFrom args = args.a ∷ []
touches Cut args = if nat_lt args.b 7 then args.a ∷ [] else []
touches Length args = []
touches Read args = []
