-- The scripts of a workload that keeps its limits are sound.
use Rattle.vyrd_work.proofs.Prelude.{Header, Subject, is_built_in, Variant, Workload, KeepsLimits}
use Rattle.std.proofs.Common.{◌≡◌, ℕ, true, zero, suc, ◌+◌, ◌<◌, map, length, refl, ap, arith}
use Rattle.std.specs.Prelude.{slice_index_or}
use Rattle.vyrd_base.specs.Places.{numbers_from}
use Rattle.vyrd_memory.specs.Scripts.{Script, stop}
use Rattle.vyrd_memory.specs.Laws.Player.{AreSound, operations-sound, callable_method}
use Rattle.vyrd_memory.specs.Laws.Player.{callable_args, callable_small}
use Rattle.vyrd_memory.specs.Runs.{AreSoundScripts}
use Rattle.vyrd_multiset.specs.Laws.{multiset_is_sound}
use Rattle.vyrd_cache.specs.Laws.{cache_is_sound}
use Rattle.vyrd_tree.specs.Laws.{tree_is_sound}
use Rattle.vyrd_buffers.specs.Laws.{buffers_are_sound}
use Rattle.vyrd_work.specs.WorkScripts.{procedure_in, work_scripts}
use Rattle.vyrd_work.proofs.BuiltIn.{work_built_in}
use Rattle.vyrd_work.proofs.ScriptLaws.{ops_are_callable}

pub script_at : (f : ℕ → Script) (k n i : ℕ) → i < n
    → slice_index_or (map f (numbers_from k n)) i stop ≡ f (k + i)
script_at f k zero i low = absurd (omega (arith, low))
script_at f k (suc n) zero low = let e : k ≡ k + 0 = omega arith in ap f e
script_at f k (suc n) (suc i) low = grind (arith, script_at f (k + 1) n i (omega arith))

how_many : (f : ℕ → Script) (k n : ℕ) → length (map f (numbers_from k n)) ≡ n
how_many f k zero = refl
how_many f k (suc n) = ap suc (how_many f (k + 1) n)

-- each structure's procedures are sound
procedures_sound : (subject : Subject) (h : Header) (variant : Variant) → is_built_in subject ≡ true
    → h.subject ≡ subject → AreSound h (procedure_in subject h variant)
procedures_sound subject h variant built is = search (
  multiset_is_sound,
  callable_method,
  callable_args,
  callable_small,
  cache_is_sound,
  tree_is_sound,
  buffers_are_sound,
  arith,
)

pub scripts_sound : (w : Workload) → KeepsLimits w → AreSoundScripts w.header (work_scripts w)
scripts_sound w limits = search (
  how_many,
  script_at,
  operations-sound,
  procedures_sound,
  work_built_in,
  ops_are_callable,
  arith,
)
