-- What the proofs of a step need: what is left after it.
use Rattle.std.proofs.Common.{◌≡◌, ℕ, refl, ap, ◌∙◌, sym}
use Rattle.std.specs.Prelude.{◌≢◌}
use Rattle.vyrd_base.specs.declared.header.Header.{Header}
use Rattle.vyrd_base.specs.declared.subject.Method.TheVariants.{Cache as OfCache}
use Rattle.vyrd_base.specs.declared.cache.CacheMethod.{CacheMethod}
use Rattle.vyrd_base.specs.declared.cache.CacheMethod.TheVariants.{Write as CaWrite}
use Rattle.vyrd_base.specs.declared.cache.CacheMethod.TheVariants.{Flush as CaFlush}
use Rattle.vyrd_base.specs.declared.cache.CacheMethod.TheVariants.{Evict as CaEvict, Read as CaRead}
use Rattle.vyrd_base.specs.declared.subject.Args.{Args}
use Rattle.vyrd_base.proofs.TestLaws.{isnt_same}
use Rattle.vyrd_memory.specs.declared.op.Variant.{Variant}
use Rattle.vyrd_memory.specs.declared.op.Variant.TheVariants.{Correct, Broken}
use Rattle.vyrd_memory.specs.Scripts.{Script, after_answer}
use Rattle.vyrd_cache.specs.declared.task.Action.{Action}
use Rattle.vyrd_cache.specs.declared.task.Action.TheVariants.{Write, LookAndWrite, BareWrite, Flush}
use Rattle.vyrd_cache.specs.declared.task.Action.TheVariants.{Evict, Forget, Read, Fetch}
use Rattle.vyrd_cache.specs.declared.place.Place.{Place}
use Rattle.vyrd_cache.specs.declared.place.Place.TheVariants.{Lock, LoadState, LoadLow, LoadHigh}
use Rattle.vyrd_cache.specs.declared.place.Place.TheVariants.{Open, StoreHigh, Commit, Unlock}
use Rattle.vyrd_cache.specs.declared.task.Task.{Task}
use Rattle.vyrd_cache.specs.Procedures.{in_order, procedure_of}
use Rattle.vyrd_cache.specs.Rests.Actions.{action_of, place_after}
use Rattle.vyrd_cache.specs.Rests.{rest_at, after_loads, after_state}

-- an action that is known
with_action : (h : Header) (t : Task) (action : Action) (state : ℕ) → t.action ≡ action
    → after_state h t action state ≡ after_state h t t.action state
with_action h t action state is = ap (λ a. after_state h t a state) (sym is)

-- after the load of the state, by the action and by what was loaded
pub looked_dirty : (h : Header) (t d : Task) (state : ℕ) → t.action ≡ LookAndWrite → state ≡ 2
    → d ≡ record t { action = BareWrite }
    → rest_at h d Unlock ≡ after_state h t t.action state
looked_dirty h t d state action found is = cc (with_action h t LookAndWrite state action)

pub looked_other : (h : Header) (t d : Task) (state : ℕ) → t.action ≡ LookAndWrite → state ≢ 2
    → d ≡ record t { action = Write }
    → rest_at h d Open ≡ after_state h t t.action state
looked_other h t d state action found is =
    cc (isnt_same state 2 found, with_action h t LookAndWrite state action)

pub flushed_dirty : (h : Header) (t : Task) (state : ℕ) → t.action ≡ Flush → state ≡ 2
    → rest_at h t LoadLow ≡ after_state h t t.action state
flushed_dirty h t state action found = cc (with_action h t Flush state action)

pub flushed_other : (h : Header) (t : Task) (state : ℕ) → t.action ≡ Flush → state ≢ 2
    → rest_at h t Commit ≡ after_state h t t.action state
flushed_other h t state action found =
    cc (isnt_same state 2 found, with_action h t Flush state action)

pub evicted_dirty : (h : Header) (t : Task) (state : ℕ) → t.action ≡ Evict → state ≡ 2
    → rest_at h t LoadLow ≡ after_state h t t.action state
evicted_dirty h t state action found = cc (with_action h t Evict state action)

pub evicted_absent : (h : Header) (t : Task) (state : ℕ) → t.action ≡ Evict → state ≡ 0
    → rest_at h t Commit ≡ after_state h t t.action state
evicted_absent h t state action found = cc (with_action h t Evict state action)

pub evicted_other : (h : Header) (t d : Task) (state : ℕ) → t.action ≡ Evict → state ≢ 2 → state ≢ 0
    → d ≡ record t { action = Forget }
    → rest_at h d Open ≡ after_state h t t.action state
evicted_other h t d state action two none is =
    cc (isnt_same state 2 two, isnt_same state 0 none, with_action h t Evict state action)

pub read_absent : (h : Header) (t d : Task) (state : ℕ) → t.action ≡ Read → state ≡ 0
    → d ≡ record t { action = Fetch }
    → rest_at h d LoadLow ≡ after_state h t t.action state
read_absent h t d state action found is = cc (with_action h t Read state action)

pub read_other : (h : Header) (t : Task) (state : ℕ) → t.action ≡ Read → state ≢ 0
    → rest_at h t LoadLow ≡ after_state h t t.action state
read_other h t state action found = cc (isnt_same state 0 found, with_action h t Read state action)

pub decided : (h : Header) (t : Task) (state : ℕ) → t.action ≢ LookAndWrite → t.action ≢ Flush
    → t.action ≢ Evict → t.action ≢ Read
    → rest_at h t Open ≡ after_state h t t.action state
decided h t state look flush evict read = by_action t.action look flush evict read
  where
    by_action : (action : Action) → action ≢ LookAndWrite → action ≢ Flush → action ≢ Evict
        → action ≢ Read
        → rest_at h t Open ≡ after_state h t action state
    by_action LookAndWrite look flush evict read = absurd (look refl)
    by_action Flush look flush evict read = absurd (flush refl)
    by_action Evict look flush evict read = absurd (evict refl)
    by_action Read look flush evict read = absurd (read refl)
    by_action _ look flush evict read = refl

-- after the load of the upper half
pub loaded_read : (h : Header) (t : Task) (high : ℕ) → t.action ≡ Read
    → rest_at h (record t { high = high }) Unlock
    ≡ in_order (after_loads h (record t { high = high }) t.action)
loaded_read h t high action = cc

pub loaded_other : (h : Header) (t : Task) (high : ℕ) → t.action ≢ Read
    → rest_at h (record t { high = high }) Open
    ≡ in_order (after_loads h (record t { high = high }) t.action)
loaded_other h t high other = by_action t.action other
  where
    by_action : (action : Action) → action ≢ Read
        → rest_at h (record t { high = high }) Open
        ≡ in_order (after_loads h (record t { high = high }) action)
    by_action Read other = absurd (other refl)
    by_action _ other = refl

-- a step at a place that is known
pub at_place : (h : Header) (t : Task) (place known : Place) (answer : ℕ) (next : Script)
    → place ≡ known
    → next ≡ after_answer (rest_at h t known) answer
    → next ≡ after_answer (rest_at h t place) answer
at_place h t place known answer next is e = cc

-- any other step
pub after_other : (h : Header) (t : Task) (place next : Place) (answer : ℕ) → place ≢ LoadState
    → place ≢ LoadLow → place ≢ LoadHigh
    → next ≡ place_after t.action place → rest_at h t next ≡ after_answer (rest_at h t place) answer
after_other h t place next answer state low high is = cc (by_action t.action place state low high)
  where
    by_action : (action : Action) (place : Place) → place ≢ LoadState → place ≢ LoadLow
        → place ≢ LoadHigh
        → rest_at h (record t { action = action }) (place_after action place)
        ≡ after_answer (rest_at h (record t { action = action }) place) answer
    by_action _ LoadState state low high = absurd (state refl)
    by_action _ LoadLow state low high = absurd (low refl)
    by_action _ LoadHigh state low high = absurd (high refl)
    by_action Write Lock state low high = refl
    by_action Forget Open state low high = refl
    by_action BareWrite StoreHigh state low high = refl
    by_action BareWrite Commit state low high = refl
    by_action BareWrite Unlock state low high = refl
    by_action _ _ state low high = refl

-- the beginning of an operation
pub begun : (h : Header) (variant : Variant) (method : CacheMethod) (args : Args) (low high : ℕ)
    → low ≡ args.b → high ≡ args.c
    → rest_at h (record {
      action = action_of method variant;
      chunk = args.a;
      low = low;
      high = high;
    }) Lock
    ≡ procedure_of h variant (OfCache method) args
begun h variant CaFlush args low high b c = refl
begun h variant CaEvict args low high b c = refl
begun h variant CaRead args low high b c = refl
begun h Correct CaWrite args low high b c = cc
begun h Broken CaWrite args low high b c =
    ap (λ x. rest_at h (record { action = LookAndWrite; chunk = args.a; low = x; high = high })
    Lock) b
    ∙ ap (λ x. rest_at h (record { action = LookAndWrite; chunk = args.a; low = args.b; high = x })
    Lock) c
