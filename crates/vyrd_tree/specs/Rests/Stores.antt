-- What is left of the stores of a block.
use Rattle.std.specs.Prelude.{ℕ, ◌+◌, take, drop, Option, Some, None}
use Rattle.vyrd_base.specs.declared.header.Header.{Header}
use Rattle.vyrd_memory.specs.declared.act.Act.TheVariants.{Store}
use Rattle.vyrd_memory.specs.Scripts.{Script, perform}
use Rattle.vyrd_tree.specs.declared.slot.Slot.{Slot}
use Rattle.vyrd_tree.specs.declared.node.Word.{Word}
use Rattle.vyrd_tree.specs.declared.node.Word.TheVariants.{Level, Count, Bound, Right, Key, Value}
use Rattle.vyrd_tree.specs.declared.written.Written.{Written}
use Rattle.vyrd_tree.specs.declared.storing.Extent.{Extent}
use Rattle.vyrd_tree.specs.declared.storing.Extent.TheVariants.{Entries, Split}
use Rattle.vyrd_tree.specs.declared.storing.Then.{Then}
use Rattle.vyrd_tree.specs.declared.storing.Then.TheVariants as then
use Rattle.vyrd_tree.specs.declared.storing.Storing.{Storing}
use Rattle.vyrd_tree.specs.declared.storing.Storing.TheVariants.{New, Old, Root}
use Rattle.vyrd_tree.specs.declared.storing.Storing.TheVariants as storing
use Rattle.vyrd_tree.specs.Cells.{level_cell, count_cell, bound_cell, right_cell, key_cell}
use Rattle.vyrd_tree.specs.Cells.{value_cell, root_cell}
use Rattle.vyrd_tree.specs.Procedures.Split.{write_entries}
use Rattle.vyrd_tree.specs.Rests.Written.{key_at, value_in}

-- the entries from a place on
abbrev pub entries_from : Written → ℕ → Script → Script
entries_from w place later =
    write_entries w.node.number place (drop place (take w.count w.entries)) later

-- from the value in a slot on
abbrev pub value_from : Written → Slot → Script → Script
value_from w slot later =
    perform (Store (value_cell w.node.number slot.place) (value_in w.entries slot.place))
    (entries_from w (slot.place + 1) later)

-- from the key in a slot on
abbrev pub key_from : Written → Slot → Script → Script
key_from w slot later =
    perform (Store (key_cell w.node.number slot.place) (key_at w.entries slot.place))
    (value_from w slot later)

-- a node that wasn't in use, from a word on
abbrev pub new_from : Written → Word → Script → Script
new_from w Level later = perform (Store (level_cell w.node.number) w.level)
    (perform (Store (count_cell w.node.number) w.count) (perform (Store (bound_cell w.node.number)
    w.bound) (perform (Store (right_cell w.node.number) w.right) (entries_from w 0 later))))
new_from w Count later = perform (Store (count_cell w.node.number) w.count)
    (perform (Store (bound_cell w.node.number) w.bound)
    (perform (Store (right_cell w.node.number) w.right) (entries_from w 0 later)))
new_from w Bound later = perform (Store (bound_cell w.node.number) w.bound)
    (perform (Store (right_cell w.node.number) w.right) (entries_from w 0 later))
new_from w Right later = perform (Store (right_cell w.node.number) w.right) (entries_from w 0 later)
new_from w (Key slot) later = key_from w slot later
new_from w (Value slot) later = value_from w slot later

-- the bound and the right link, if the node was split
abbrev pub linking : Written → Extent → Script → Script
linking w Entries later = later
linking w Split later = perform (Store (bound_cell w.node.number) w.bound)
    (perform (Store (right_cell w.node.number) w.right) later)

-- the count, and what else is stored
abbrev pub counting : Written → Extent → Script → Script
counting w extent later =
    perform (Store (count_cell w.node.number) w.count) (linking w extent later)

-- a node that is in use, from a word on
abbrev pub old_from : Written → Word → Extent → Script → Script
old_from w Level extent later = perform (Store (level_cell w.node.number) w.level) later
old_from w Count extent later = counting w extent later
old_from w Bound extent later = perform (Store (bound_cell w.node.number) w.bound)
    (perform (Store (right_cell w.node.number) w.right) later)
old_from w Right extent later = perform (Store (right_cell w.node.number) w.right) later
old_from w (Key slot) extent later = key_from w slot (counting w extent later)
old_from w (Value slot) extent later = value_from w slot (counting w extent later)

-- what is stored after a node that wasn't in use
abbrev pub then_rest : Header → ℕ → Then → Script → Script
then_rest h new then.Root later = perform (Store (root_cell h) new) later
then_rest h new (then.Lower w place) later = entries_from w place (counting w Split later)

-- the same, where there may be no word any more
abbrev pub new_on : Written → Option Word → Script → Script
new_on w None later = later
new_on w (Some word) later = new_from w word later

abbrev pub old_on : Written → Option Word → Extent → Script → Script
old_on w None extent later = later
old_on w (Some word) extent later = old_from w word extent later

-- what is left from a store on
abbrev pub storing_rest : Header → Storing → Script → Script
storing_rest h (New w word then) later = new_from w word (then_rest h w.node.number then later)
storing_rest h (Old w word extent) later = old_from w word extent later
storing_rest h (storing.Value node slot value) later =
    perform (Store (value_cell node.number slot.place) value) later
storing_rest h (Root node) later = perform (Store (root_cell h) node.number) later
