-- What is left when an unused node is got, and what is done with it.
use Rattle.std.specs.Prelude.{ℕ, ◌+◌, nat_le, [], ◌∷◌, Option, Some, None, if◌then◌else◌}
use Rattle.vyrd_base.specs.declared.header.Header.{Header}
use Rattle.vyrd_base.specs.declared.log.Kind.TheVariants.{BlockOpen, BlockClose}
use Rattle.vyrd_memory.specs.declared.act.Act.TheVariants.{Load, Store, Mark}
use Rattle.vyrd_memory.specs.Scripts.{Script, step, perform, returns}
use Rattle.vyrd_tree.specs.declared.place.Need.TheVariants as need
use Rattle.vyrd_tree.specs.declared.place.Getting.TheVariants as getting
use Rattle.vyrd_tree.specs.declared.node.Node.{Node}
use Rattle.vyrd_tree.specs.declared.place.Full.{Full}
use Rattle.vyrd_tree.specs.declared.place.Need.{Need}
use Rattle.vyrd_tree.specs.declared.place.Getting.{Getting}
use Rattle.vyrd_tree.specs.declared.task.Task.{Task}
use Rattle.vyrd_tree.specs.Cells.{root_cell, used_cell, unlock_node, unlock_root, unlock_used}
use Rattle.vyrd_tree.specs.Procedures.Walk.{Arrived}
use Rattle.vyrd_tree.specs.Procedures.Split.{with_unused, write_node, split, upper_half, first_key}
use Rattle.vyrd_tree.specs.Rests.Errands.{close_for, unsplit, after_split}

-- the node that is full
abbrev pub full_at : Full → Arrived
full_at full = record {
  node = full.node.number;
  level = full.level;
  bound = full.bound;
  right = full.right;
  entries = [];
}

-- what follows when there is no unused node
abbrev pub none_for : Header → Need → Script
none_for h (need.Split full) = unsplit h full.errand full.node.number
none_for h (need.Root a root) = unlock_root h (returns 1)

-- what is done with an unused node
abbrev pub found_for : Header → Task → Need → ℕ → Script
found_for h task (need.Split full) new =
    perform (Mark BlockOpen) (split (full_at full) full.place full.five new
    (perform (Mark (close_for full.errand)) (unlock_node h full.node.number
    (after_split h task full.errand (first_key (upper_half full.five)) new))))
found_for h task (need.Root a root) new = perform (Mark BlockOpen) (write_node new (a.level + 1) 0 0
    ((0, root.number) ∷ (a.key, a.node.number) ∷ [])
    (perform (Store (root_cell h) new) (perform (Mark BlockClose) (unlock_root h (returns 1)))))

-- the same if there may be an unused node
abbrev pub got : Header → Task → Need → Option Node → Script
got h task need None = none_for h need
got h task need (Some new) = found_for h task need new.number

-- what is left of getting an unused node
abbrev pub getting_rest : Header → Task → Need → Getting → Script
getting_rest h task need getting.Lock = with_unused h (none_for h need) (found_for h task need)
getting_rest h task need getting.Load =
    step (Load (used_cell h)) (λ used. if nat_le h.size (used + 1)
    then unlock_used h (none_for h need)
    else perform (Store (used_cell h) (used + 1))
    (unlock_used h (found_for h task need (used + 1))))
getting_rest h task need (getting.Store new) =
    perform (Store (used_cell h) new.number) (unlock_used h (found_for h task need new.number))
getting_rest h task need (getting.Unlock new) = unlock_used h (got h task need new)
