-- Which keys of the state a call looks at: those that decide which replies it may have, or what it
-- answers.
use Rattle.std.specs.Prelude.{ℕ, ◌==◌, List, [], ◌∷◌, if◌then◌else◌}
use Rattle.vyrd_base.specs.declared.subject.Method.{Method}
use Rattle.vyrd_base.specs.declared.subject.Method.TheVariants.{Multiset as OfMultiset}
use Rattle.vyrd_base.specs.declared.subject.Method.TheVariants.{Cache as OfCache, Tree as OfTree}
use Rattle.vyrd_base.specs.declared.subject.Method.TheVariants.{Buffers as OfBuffers}
use Rattle.vyrd_base.specs.declared.subject.Method.TheVariants.{OwnNever, OwnAtMostOnce, OwnOnce}
use Rattle.vyrd_base.specs.declared.subject.Args.{Args}
use Rattle.vyrd_base.specs.declared.multiset.MultisetMethod.{MultisetMethod}
use Rattle.vyrd_base.specs.declared.multiset.MultisetMethod.TheVariants.{Insert, InsertPair, Delete}
use Rattle.vyrd_base.specs.declared.multiset.MultisetMethod.TheVariants.{Lookup}
use Rattle.vyrd_base.specs.declared.buffers.BuffersMethod.{BuffersMethod}
use Rattle.vyrd_base.specs.declared.buffers.BuffersMethod.TheVariants.{Append, AppendFrom, Cut}
use Rattle.vyrd_base.specs.declared.buffers.BuffersMethod.TheVariants.{Length, Read}

-- two keys, each of them once
abbrev pub pair_keys : ℕ → ℕ → List ℕ
pair_keys a b = if a == b then a ∷ [] else a ∷ b ∷ []

-- the elements that are named
abbrev pub multiset_keys : MultisetMethod → Args → List ℕ
multiset_keys Insert args = args.a ∷ []
multiset_keys InsertPair args = pair_keys args.a args.b
multiset_keys Delete args = args.a ∷ []
multiset_keys Lookup args = args.a ∷ []

-- the buffer, and the one whose text is appended
abbrev pub buffers_keys : BuffersMethod → Args → List ℕ
buffers_keys Append args = args.a ∷ []
buffers_keys AppendFrom args = pair_keys args.a args.b
buffers_keys Cut args = args.a ∷ []
buffers_keys Length args = args.a ∷ []
buffers_keys Read args = args.a ∷ []

-- Each call of a cache names one chunk, and each of a tree one key, by its first argument. Which
-- keys a call of the user's own looks at isn't known without its specification.
abbrev pub keys_looked_at : Method → Args → List ℕ
keys_looked_at (OfMultiset method) args = multiset_keys method args
keys_looked_at (OfCache method) args = args.a ∷ []
keys_looked_at (OfTree method) args = args.a ∷ []
keys_looked_at (OfBuffers method) args = buffers_keys method args
keys_looked_at (OwnNever i) args = []
keys_looked_at (OwnAtMostOnce i) args = []
keys_looked_at (OwnOnce i) args = []
