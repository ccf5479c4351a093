-- What is left of a procedure at each place: a part of the procedure, with what follows.
pub mod Actions
use Rattle.std.specs.Prelude.{ℕ, ◌==◌, List, [], ◌∷◌, if◌then◌else◌}
use Rattle.vyrd_base.specs.declared.header.Header.{Header}
use Rattle.vyrd_base.specs.declared.log.Kind.TheVariants.{Return, Commit, BlockOpen}
use Rattle.vyrd_memory.specs.declared.act.Act.{Act}
use Rattle.vyrd_memory.specs.declared.act.Act.TheVariants.{Load, Store, Give, Mark}
use Rattle.vyrd_memory.specs.Scripts.{Script, stop, step}
use Rattle.vyrd_cache.specs.declared.task.Action.{Action}
use Rattle.vyrd_cache.specs.declared.task.Action.TheVariants.{Write, LookAndWrite, BareWrite, Flush}
use Rattle.vyrd_cache.specs.declared.task.Action.TheVariants.{Evict, Forget, Read, Fetch}
use Rattle.vyrd_cache.specs.declared.task.Task.{Task}
use Rattle.vyrd_cache.specs.declared.place.Place.{Place}
use Rattle.vyrd_cache.specs.declared.place.Place.TheVariants.{Lock, LoadState, LoadLow, LoadHigh}
use Rattle.vyrd_cache.specs.declared.place.Place.TheVariants.{Open, StoreLow, StoreHigh, StoreState}
use Rattle.vyrd_cache.specs.declared.place.Place.TheVariants.{Close, Commit as LoneCommit}
use Rattle.vyrd_cache.specs.declared.place.Place.TheVariants.{Unlock, Return as Returning, Over}
use Rattle.vyrd_cache.specs.declared.progress.CacheProgress.{CacheProgress}
use Rattle.vyrd_cache.specs.Cells.{state_cell, lock_of, lock}
use Rattle.vyrd_cache.specs.Procedures.{in_order}
use Rattle.vyrd_cache.specs.Rests.Actions.{source_low, source_high, target_low, target_high}
use Rattle.vyrd_cache.specs.Rests.Actions.{state_left, close_of, reply_of, if_bare, if_pairless}

-- what is left from the return on
abbrev pub returning : Task → List Act
returning task = Mark (Return (reply_of task.action task.low task.high)) ∷ []

-- what is left of a bare write from its first store on
abbrev pub storing_bare : Task → List Act
storing_bare task = Store (target_low task.action task.chunk) task.low
    ∷ Store (target_high task.action task.chunk) task.high ∷ Mark Commit ∷ returning task

-- from the lock on, which is given back
abbrev pub unlocking : Header → Task → List Act
unlocking h task = Give (lock_of h task.chunk)
    ∷ if_bare task.action (storing_bare task) (returning task)

-- from the commit outside a block on
abbrev pub committing : Header → Task → List Act
committing h task = Mark Commit ∷ if_bare task.action (returning task) (unlocking h task)

-- from the end of the block on
abbrev pub closing : Header → Task → List Act
closing h task = Mark (close_of task.action) ∷ unlocking h task

-- from the store of the state on
abbrev pub storing_state : Header → Task → List Act
storing_state h task = Store (state_cell task.chunk) (state_left task.action) ∷ closing h task

-- from the store of the upper half on
abbrev pub storing_high : Header → Task → List Act
storing_high h task = Store (target_high task.action task.chunk) task.high
    ∷ if_bare task.action (Mark Commit ∷ returning task) (storing_state h task)

-- from the store of the lower half on
abbrev pub storing_low : Header → Task → List Act
storing_low h task = Store (target_low task.action task.chunk) task.low ∷ storing_high h task

-- from the beginning of the block on
abbrev pub opening : Header → Task → List Act
opening h task = Mark BlockOpen
    ∷ if_pairless task.action (storing_state h task) (storing_low h task)

-- what is left after both loads
abbrev pub after_loads : Header → Task → Action → List Act
after_loads h task Read = unlocking h task
after_loads h task _ = opening h task

-- from the load of the upper half on
abbrev pub loading_high : Header → Task → Script
loading_high h task =
    step (Load (source_high task.action task.chunk))
    (λ high. in_order (after_loads h (record task { high = high }) task.action))

-- from the load of the lower half on
abbrev pub loading_low : Header → Task → Script
loading_low h task = step (Load (source_low task.action task.chunk))
    (λ low. loading_high h (record task { low = low }))

-- what is left once the state is known, which may decide the action
abbrev pub after_state : Header → Task → Action → ℕ → Script
after_state h task LookAndWrite state = if state == 2
    then in_order (unlocking h (record task { action = BareWrite }))
    else in_order (opening h (record task { action = Write }))
after_state h task Flush state = if state == 2
    then loading_low h task
    else in_order (committing h task)
after_state h task Evict state = if state == 2
    then loading_low h task
    else (if state == 0
    then in_order (committing h task)
    else in_order (opening h (record task { action = Forget })))
after_state h task Read state = if state == 0
    then loading_low h (record task { action = Fetch })
    else loading_low h task
after_state h task _ state = in_order (opening h task)

-- from the load of the state on
abbrev pub loading_state : Header → Task → Script
loading_state h task = step (Load (state_cell task.chunk)) (after_state h task task.action)

-- what is left once the lock is held
abbrev pub after_lock : Header → Task → Action → Script
after_lock h task Write = in_order (opening h task)
after_lock h task _ = loading_state h task

-- what is left at a place
abbrev pub rest_at : Header → Task → Place → Script
rest_at h task Lock = lock h task.chunk (after_lock h task task.action)
rest_at h task LoadState = loading_state h task
rest_at h task LoadLow = loading_low h task
rest_at h task LoadHigh = loading_high h task
rest_at h task Open = in_order (opening h task)
rest_at h task StoreLow = in_order (storing_low h task)
rest_at h task StoreHigh = in_order (storing_high h task)
rest_at h task StoreState = in_order (storing_state h task)
rest_at h task Close = in_order (closing h task)
rest_at h task LoneCommit = in_order (committing h task)
rest_at h task Unlock = in_order (unlocking h task)
rest_at h task Returning = in_order (returning task)
rest_at h task Over = stop

-- what is left of an operation
abbrev pub rest_of : Header → CacheProgress → Script
rest_of h progress = rest_at h progress.task progress.place
