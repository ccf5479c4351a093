-- What the actions of a cache's operations differ in.
use Rattle.std.specs.Prelude.{ℕ}
use Rattle.vyrd_base.specs.declared.log.Kind.{Kind}
use Rattle.vyrd_base.specs.declared.log.Kind.TheVariants.{BlockClose, BlockCommit}
use Rattle.vyrd_base.specs.declared.cache.CacheMethod.{CacheMethod}
use Rattle.vyrd_base.specs.declared.cache.CacheMethod.TheVariants.{Write as CaWrite}
use Rattle.vyrd_base.specs.declared.cache.CacheMethod.TheVariants.{Flush as CaFlush}
use Rattle.vyrd_base.specs.declared.cache.CacheMethod.TheVariants.{Evict as CaEvict, Read as CaRead}
use Rattle.vyrd_memory.specs.declared.op.Variant.{Variant}
use Rattle.vyrd_memory.specs.declared.op.Variant.TheVariants.{Correct, Broken}
use Rattle.vyrd_cache.specs.declared.task.Action.{Action}
use Rattle.vyrd_cache.specs.declared.task.Action.TheVariants.{Write, LookAndWrite, BareWrite, Flush}
use Rattle.vyrd_cache.specs.declared.task.Action.TheVariants.{Evict, Forget, Read, Fetch}
use Rattle.vyrd_cache.specs.declared.place.Place.{Place}
use Rattle.vyrd_cache.specs.declared.place.Place.TheVariants.{Lock, LoadState, Open, StoreLow}
use Rattle.vyrd_cache.specs.declared.place.Place.TheVariants.{StoreHigh, StoreState, Close, Commit}
use Rattle.vyrd_cache.specs.declared.place.Place.TheVariants.{Unlock, Return, Over}
use Rattle.vyrd_cache.specs.Cells.{cached_low, cached_high, stored_low, stored_high}
use Rattle.vyrd_cache.specs.Procedures.{joined}

-- what an operation of the method does at first: the broken variant's write looks before it locks
abbrev pub action_of : CacheMethod → Variant → Action
action_of CaWrite Correct = Write
action_of CaWrite Broken = LookAndWrite
action_of CaFlush variant = Flush
action_of CaEvict variant = Evict
action_of CaRead variant = Read

-- the cell of the lower half that is loaded
abbrev pub source_low : Action → ℕ → ℕ
source_low Fetch chunk = stored_low chunk
source_low _ chunk = cached_low chunk

-- the cell of the upper half that is loaded
abbrev pub source_high : Action → ℕ → ℕ
source_high Fetch chunk = stored_high chunk
source_high _ chunk = cached_high chunk

-- the cell of the lower half that is stored
abbrev pub target_low : Action → ℕ → ℕ
target_low Flush chunk = stored_low chunk
target_low Evict chunk = stored_low chunk
target_low _ chunk = cached_low chunk

-- the cell of the upper half that is stored
abbrev pub target_high : Action → ℕ → ℕ
target_high Flush chunk = stored_high chunk
target_high Evict chunk = stored_high chunk
target_high _ chunk = cached_high chunk

-- the state that the chunk gets
abbrev pub state_left : Action → ℕ
state_left Write = 2
state_left LookAndWrite = 2
state_left BareWrite = 2
state_left Flush = 1
state_left Evict = 0
state_left Forget = 0
state_left Read = 1
state_left Fetch = 1

-- how the block is closed: a read has nothing to commit
abbrev pub close_of : Action → Kind
close_of Fetch = BlockClose
close_of Read = BlockClose
close_of _ = BlockCommit

-- the reply
abbrev pub reply_of : Action → ℕ → ℕ → ℕ
reply_of Read low high = joined low high
reply_of Fetch low high = joined low high
reply_of _ low high = 1

-- what a bare write goes on with, and what any other action does
abbrev pub if_bare : {A : Type 0} → Action → A → A → A
if_bare BareWrite bare usual = bare
if_bare _ bare usual = usual

-- what an action that has no pair to store goes on with, and what any other does
abbrev pub if_pairless : {A : Type 0} → Action → A → A → A
if_pairless Forget pairless usual = pairless
if_pairless _ pairless usual = usual

-- what follows the lock
abbrev pub place_after_lock : Action → Place
place_after_lock Write = Open
place_after_lock _ = LoadState

-- the place that follows a place whose act isn't a load
abbrev pub place_after : Action → Place → Place
place_after action Lock = place_after_lock action
place_after action Open = if_pairless action StoreState StoreLow
place_after action StoreLow = StoreHigh
place_after action StoreHigh = if_bare action Commit StoreState
place_after action StoreState = Close
place_after action Close = Unlock
place_after action Commit = if_bare action Return Unlock
place_after action Unlock = if_bare action StoreLow Return
place_after action _ = Over
