-- What is left of a procedure at each place: a part of the procedure, with what follows.
pub mod Words
pub mod Written
pub mod Stores
pub mod Errands
pub mod Visits
pub mod Unused
use Rattle.std.specs.Prelude.{ℕ, Bool, true, false, nat_lt, nat_le, if◌then◌else◌}
use Rattle.vyrd_base.specs.declared.header.Header.{Header}
use Rattle.vyrd_base.specs.declared.log.Kind.TheVariants.{BlockOpen}
use Rattle.vyrd_memory.specs.declared.act.Act.TheVariants.{Load, Mark}
use Rattle.vyrd_memory.specs.Scripts.{Script, stop, step, perform, returns, gives_up}
use Rattle.vyrd_tree.specs.declared.visit.Errand.TheVariants as errand
use Rattle.vyrd_tree.specs.declared.place.Place.TheVariants as place
use Rattle.vyrd_tree.specs.declared.place.Lock.TheVariants as lock
use Rattle.vyrd_tree.specs.declared.place.After.TheVariants as after
use Rattle.vyrd_tree.specs.declared.place.Climbing.TheVariants as climbing
use Rattle.vyrd_tree.specs.declared.visit.Ascent.{Ascent}
use Rattle.vyrd_tree.specs.declared.place.Place.{Place}
use Rattle.vyrd_tree.specs.declared.place.Ending.{Ending}
use Rattle.vyrd_tree.specs.declared.place.Lock.{Lock}
use Rattle.vyrd_tree.specs.declared.place.After.{After}
use Rattle.vyrd_tree.specs.declared.place.Climbing.{Climbing}
use Rattle.vyrd_tree.specs.declared.task.Task.{Task}
use Rattle.vyrd_tree.specs.declared.progress.TreeProgress.{TreeProgress}
use Rattle.vyrd_tree.specs.Cells.{level_cell, root_cell, unlock_node, unlock_root}
use Rattle.vyrd_tree.specs.Procedures.Ascent.{grow_root}
use Rattle.vyrd_tree.specs.Procedures.{changes_nothing}
use Rattle.vyrd_tree.specs.Rests.Errands.{round, walk_on}
use Rattle.vyrd_tree.specs.Rests.Visits.{visiting_rest}
use Rattle.vyrd_tree.specs.Rests.Unused.{getting_rest}
use Rattle.vyrd_tree.specs.Rests.Stores.{storing_rest}

-- giving back a lock
abbrev pub unlocking : Header → Lock → Script → Script
unlocking h (lock.Node node) later = unlock_node h node.number later
unlocking h lock.Root later = unlock_root h later

-- what follows the giving back of a lock
abbrev pub after_rest : Header → Task → After → Script
after_rest h task (after.Return reply) = returns reply
after_rest h task (after.Ascend a) = round h task a
after_rest h task (after.Walk a root) = walk_on h task (errand.Ascent a) h.size root.number

-- the end of a block, and what follows it
abbrev pub ending_rest : Header → Task → Ending → Script
ending_rest h task e = perform (Mark e.close) (unlocking h e.lock (after_rest h task e.after))

-- what follows when the root of a round and its level are known
abbrev pub above_root : Header → Task → Ascent → ℕ → ℕ → Script
above_root h task a root top =
    if nat_le top a.level
    then grow_root h a.level a.key a.node.number root (returns 1)
    else unlock_root h (walk_on h task (errand.Ascent a) h.size root)

-- what is left of a round
abbrev pub climbing_rest : Header → Task → Ascent → Climbing → Script
climbing_rest h task a climbing.Lock = round h task a
climbing_rest h task a climbing.LoadRoot = step (Load (root_cell h)) (λ root.
    if nat_lt root h.size
    then step (Load (level_cell root)) (λ top. above_root h task a root top)
    else unlock_root h (returns 1))
climbing_rest h task a (climbing.LoadLevel root) =
    step (Load (level_cell root.number)) (λ top. above_root h task a root.number top)

-- what is left at a place
abbrev pub rest_at : Header → Task → Place → Script
rest_at h task place.LoadRoot =
    step (Load (root_cell h)) (λ root. walk_on h task errand.Operation h.size root)
rest_at h task (place.Visit v visiting) = visiting_rest h task v visiting
rest_at h task (place.Unused need getting) = getting_rest h task need getting
rest_at h task (place.Open storing ending) =
    perform (Mark BlockOpen) (storing_rest h storing (ending_rest h task ending))
rest_at h task (place.Store storing ending) = storing_rest h storing (ending_rest h task ending)
rest_at h task (place.Close ending) = ending_rest h task ending
rest_at h task (place.Unchanged node) = changes_nothing h node.number
rest_at h task (place.Unlock lock after) = unlocking h lock (after_rest h task after)
rest_at h task (place.Climb a climbing) = climbing_rest h task a climbing
rest_at h task place.GiveUp = gives_up
rest_at h task (place.Return reply) = returns reply
rest_at h task place.Over = stop

-- whether a walk visits a node there, or a block is stored
abbrev pub is_visit_or_store : Place → Bool
is_visit_or_store (place.Visit v visiting) = true
is_visit_or_store (place.Store storing ending) = true
is_visit_or_store place.LoadRoot = false
is_visit_or_store (place.Unused need getting) = false
is_visit_or_store (place.Open storing ending) = false
is_visit_or_store (place.Close ending) = false
is_visit_or_store (place.Unchanged node) = false
is_visit_or_store (place.Unlock lock after) = false
is_visit_or_store (place.Climb a climbing) = false
is_visit_or_store place.GiveUp = false
is_visit_or_store (place.Return reply) = false
is_visit_or_store place.Over = false

-- what is left of an operation
abbrev pub rest_of : Header → TreeProgress → Script
rest_of h progress = rest_at h progress.task progress.place
