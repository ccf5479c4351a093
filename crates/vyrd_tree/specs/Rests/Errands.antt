-- What a walk is for, and what follows it.
use Rattle.std.specs.Prelude.{ℕ, ◌+◌, ◌-◌, nat_lt, length, if◌then◌else◌}
use Rattle.vyrd_base.specs.declared.header.Header.{Header}
use Rattle.vyrd_base.specs.declared.log.Kind.{Kind}
use Rattle.vyrd_base.specs.declared.log.Kind.TheVariants.{BlockClose, BlockCommit}
use Rattle.vyrd_memory.specs.Scripts.{Script, returns, gives_up}
use Rattle.vyrd_tree.specs.declared.visit.Errand.TheVariants as errand
use Rattle.vyrd_tree.specs.declared.task.Call.TheVariants as call
use Rattle.vyrd_tree.specs.declared.visit.Ascent.{Ascent}
use Rattle.vyrd_tree.specs.declared.visit.Errand.{Errand}
use Rattle.vyrd_tree.specs.declared.task.Call.{Call}
use Rattle.vyrd_tree.specs.declared.task.Task.{Task}
use Rattle.vyrd_tree.specs.Cells.{unlock_node}
use Rattle.vyrd_tree.specs.Procedures.Walk.{Arrived, walk_from}
use Rattle.vyrd_tree.specs.Procedures.Split.{with_unused, add_entry, split_entry, split_key}
use Rattle.vyrd_tree.specs.Procedures.Ascent.{add_child, ascend_once, ascend}
use Rattle.vyrd_tree.specs.Procedures.{changes_nothing, place_of, look_in, delete_in, insert_in}

-- the key of a walk
abbrev pub key_for : Task → Errand → ℕ
key_for task errand.Operation = task.key
key_for task (errand.Ascent a) = a.key

-- the level toward which it goes
abbrev pub toward : Errand → ℕ
toward errand.Operation = 0
toward (errand.Ascent a) = a.level + 1

-- what follows when an operation's walk is lost
abbrev pub lost_call : Call → Script
lost_call call.Insert = gives_up
lost_call call.Delete = gives_up
lost_call call.Lookup = returns 0

-- what follows when a walk is lost
abbrev pub lost_for : Task → Errand → Script
lost_for task errand.Operation = lost_call task.call
lost_for task (errand.Ascent a) = returns 1

-- the rounds after a round of this level, one level higher
abbrev pub next_round : Header → Task → Ascent → ℕ → ℕ → ℕ → Script
next_round h task a level key node = ascend h task.variant (15 - a.level) level key node (returns 1)

-- a round, and those after it
abbrev pub round : Header → Task → Ascent → Script
round h task a =
    ascend_once h task.variant a.level a.key a.node.number (returns 1) (next_round h task a)

-- what follows when an operation's walk has arrived
abbrev pub arrived_call : Header → Task → Call → Arrived → Script
arrived_call h task call.Insert at =
    insert_in h task.variant task.key task.value at (place_of task.key at.entries)
arrived_call h task call.Delete at = delete_in h at (place_of task.key at.entries)
arrived_call h task call.Lookup at = look_in h at (place_of task.key at.entries)

-- what follows when a walk has arrived
abbrev pub arrived_for : Header → Task → Errand → Arrived → Script
arrived_for h task errand.Operation at = arrived_call h task task.call at
arrived_for h task (errand.Ascent a) at =
    add_child h a.level a.key a.node.number at (returns 1) (next_round h task a)

-- a walk from a node on, with this many visits left
abbrev pub walk_on : Header → Task → Errand → ℕ → ℕ → Script
walk_on h task errand left node =
    walk_from h task.variant (key_for task errand) (toward errand) left node (lost_for task errand)
    (arrived_for h task errand)

-- the mark that closes a block: that of an operation's own change commits
abbrev pub close_for : Errand → Kind
close_for errand.Operation = BlockCommit
close_for (errand.Ascent a) = BlockClose

-- what follows when a full node isn't split, since no node is unused
abbrev pub unsplit : Header → Errand → ℕ → Script
unsplit h errand.Operation node = changes_nothing h node
unsplit h (errand.Ascent a) node = unlock_node h node (returns 1)

-- what follows a split
abbrev pub after_split : Header → Task → Errand → ℕ → ℕ → Script
after_split h task errand.Operation key new = ascend h task.variant 16 0 key new (returns 1)
after_split h task (errand.Ascent a) key new = next_round h task a (a.level + 1) key new

-- one more entry in the node where a walk has arrived
abbrev pub add_rest : Header → Task → Errand → Arrived → ℕ → ℕ → Script
add_rest h task e at key value =
    if nat_lt (length at.entries) 4
    then add_entry h at key value (close_for e) (returns 1)
    else with_unused h (unsplit h e at.node) (λ new. split_entry h at key value new (close_for e)
    (after_split h task e (split_key at key value) new))
