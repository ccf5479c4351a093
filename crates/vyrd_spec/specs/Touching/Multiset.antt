-- The keys whose amount a step of the multiset can change.
use Rattle.std.specs.Prelude.{ℕ, List, [], ◌∷◌}
use Rattle.vyrd_base.specs.declared.multiset.MultisetMethod.{MultisetMethod}
use Rattle.vyrd_base.specs.declared.multiset.MultisetMethod.TheVariants.{Insert, InsertPair, Delete}
use Rattle.vyrd_base.specs.declared.multiset.MultisetMethod.TheVariants.{Lookup}
use Rattle.vyrd_base.specs.declared.subject.Args.{Args}

abbrev pub touches : MultisetMethod → Args → List ℕ
touches Insert args = args.a ∷ []
touches InsertPair args = args.a ∷ args.b ∷ []
touches Delete args = args.a ∷ []
touches Lookup args = []
