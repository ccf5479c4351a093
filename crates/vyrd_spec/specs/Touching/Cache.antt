-- The keys whose amount a step of the cache can change.
use Rattle.std.specs.Prelude.{ℕ, List, [], ◌∷◌}
use Rattle.vyrd_base.specs.declared.cache.CacheMethod.{CacheMethod}
use Rattle.vyrd_base.specs.declared.cache.CacheMethod.TheVariants.{Write, Flush, Evict, Read}
use Rattle.vyrd_base.specs.declared.subject.Args.{Args}

abbrev pub touches : CacheMethod → Args → List ℕ
touches Write args = args.a ∷ []
touches Flush args = []
touches Evict args = []
touches Read args = []
