-- The keys whose amount a step of the tree can change.
use Rattle.std.specs.Prelude.{ℕ, List, [], ◌∷◌}
use Rattle.vyrd_base.specs.declared.tree.TreeMethod.{TreeMethod}
use Rattle.vyrd_base.specs.declared.tree.TreeMethod.TheVariants.{Insert, Delete, Lookup}
use Rattle.vyrd_base.specs.declared.subject.Args.{Args}

abbrev pub touches : TreeMethod → Args → List ℕ
touches Insert args = args.a ∷ []
touches Delete args = args.a ∷ []
touches Lookup args = []
