-- The procedures of the tree, from after the mark of the call to the mark of the return.
pub mod Walk
pub mod Split
pub mod Ascent
use Rattle.std.specs.Prelude.{ℕ, ◌+◌, ◌==◌, nat_lt, List, length, position, remove, slice_index}
use Rattle.std.specs.Prelude.{map, Option, Some, None, if◌then◌else◌}
use Rattle.vyrd_base.specs.declared.header.Header.{Header}
use Rattle.vyrd_base.specs.declared.log.Kind.TheVariants.{Commit, BlockOpen, BlockCommit}
use Rattle.vyrd_base.specs.declared.subject.Args.{Args}
use Rattle.vyrd_base.specs.declared.subject.Method.{Method}
use Rattle.vyrd_base.specs.declared.subject.Method.TheVariants.{Tree as OfTree}
use Rattle.vyrd_base.specs.declared.tree.TreeMethod.TheVariants.{Insert, Delete, Lookup}
use Rattle.vyrd_memory.specs.declared.act.Act.TheVariants.{Load, Store, Mark}
use Rattle.vyrd_memory.specs.declared.op.Op.{Op}
use Rattle.vyrd_memory.specs.declared.op.Variant.{Variant}
use Rattle.vyrd_memory.specs.Scripts.{Script, stop, step, perform, returns, gives_up}
use Rattle.vyrd_tree.specs.Cells.{root_cell, value_cell, unlock_node}
use Rattle.vyrd_tree.specs.Procedures.Walk.{Arrived, walk_from}
use Rattle.vyrd_tree.specs.Procedures.Split.{with_unused, rewrite, add_entry, split_entry}
use Rattle.vyrd_tree.specs.Procedures.Split.{split_key}
use Rattle.vyrd_tree.specs.Procedures.Ascent.{ascend}

-- with the node's lock held: commit, unlock it, and return 0
abbrev pub changes_nothing : Header → ℕ → Script
changes_nothing h node = perform (Mark Commit) (unlock_node h node (returns 0))

-- the walk of an operation: from the root to the leaf of its key
abbrev pub walk_down : Header → Variant → ℕ → Script → (Arrived → Script) → Script
walk_down h variant key lost arrived =
    step (Load (root_cell h)) (λ root. walk_from h variant key 0 h.size root lost arrived)

-- the place of the first entry with this key
abbrev pub place_of : ℕ → List (ℕ × ℕ) → Option ℕ
place_of key entries = position (λ entry. entry.0 == key) entries

-- the value at a place
abbrev pub value_at : List (ℕ × ℕ) → ℕ → ℕ
value_at entries place = slice_index (map (λ entry. entry.1) entries) place

-- what a lookup replies: the value plus 1, or 0
abbrev pub reply_of : List (ℕ × ℕ) → Option ℕ → ℕ
reply_of entries None = 0
reply_of entries (Some place) = value_at entries place + 1

-- what a lookup does in the leaf of its key
abbrev pub look_in : Header → Arrived → Option ℕ → Script
look_in h at place = unlock_node h at.node (returns (reply_of at.entries place))

-- lookup k
abbrev pub lookup : Header → Variant → ℕ → Script
lookup h variant key =
    walk_down h variant key (returns 0) (λ at. look_in h at (place_of key at.entries))

-- what a delete does in the leaf of its key: the entries from the place on move up by one
abbrev pub delete_in : Header → Arrived → Option ℕ → Script
delete_in h at None = changes_nothing h at.node
delete_in h at (Some place) =
    rewrite h at.node place (remove at.entries place) BlockCommit (returns 1)

-- delete k
abbrev pub delete : Header → Variant → ℕ → Script
delete h variant key =
    walk_down h variant key gives_up (λ at. delete_in h at (place_of key at.entries))

-- a new value for a key that is there, in a block; then unlock the leaf and return 2
abbrev pub replace_value : Header → ℕ → ℕ → ℕ → Script
replace_value h node place value =
    perform (Mark BlockOpen) (perform (Store (value_cell node place) value)
    (perform (Mark BlockCommit) (unlock_node h node (returns 2))))

-- the ascent after a leaf was split: up to 16 rounds for the new leaf, and then it returns 1
abbrev pub ascend_from_leaf : Header → Variant → ℕ → ℕ → Script
ascend_from_leaf h variant key leaf = ascend h variant 16 0 key leaf (returns 1)

-- An entry for a key that isn't there. The leaf may be split, and then comes what is given for the
-- first key of the new leaf and its number.
abbrev pub insert_new_then : Header → ℕ → ℕ → (ℕ → ℕ → Script) → Arrived → Script
insert_new_then h key value split at =
    if nat_lt (length at.entries) 4 then add_entry h at key value BlockCommit (returns 1)
    else with_unused h (changes_nothing h at.node)
    (λ new. split_entry h at key value new BlockCommit (split (split_key at key value) new))

-- the same, and after a split the ascent
abbrev pub insert_new : Header → Variant → ℕ → ℕ → Arrived → Script
insert_new h variant key value at = insert_new_then h key value (ascend_from_leaf h variant) at

-- what an insert does in the leaf of its key, and after a split what is given
abbrev pub insert_in_then : Header → ℕ → ℕ → (ℕ → ℕ → Script) → Arrived → Option ℕ → Script
insert_in_then h key value split at None = insert_new_then h key value split at
insert_in_then h key value split at (Some place) = replace_value h at.node place value

-- the same, and after a split the ascent
abbrev pub insert_in : Header → Variant → ℕ → ℕ → Arrived → Option ℕ → Script
insert_in h variant key value at place =
    insert_in_then h key value (ascend_from_leaf h variant) at place

-- insert k v, and after a split what is given
abbrev pub insert_then : Header → Variant → ℕ → ℕ → (ℕ → ℕ → Script) → Script
insert_then h variant key value split =
    walk_down h variant key gives_up
    (λ at. insert_in_then h key value split at (place_of key at.entries))

-- insert k v
abbrev pub insert_entry : Header → Variant → ℕ → ℕ → Script
insert_entry h variant key value = insert_then h variant key value (ascend_from_leaf h variant)

-- the procedure of a method's call with these arguments; that of another subject's method is empty
abbrev pub procedure_of : Header → Variant → Method → Args → Script
procedure_of h variant (OfTree Insert) args = insert_entry h variant args.a args.b
procedure_of h variant (OfTree Delete) args = delete h variant args.a
procedure_of h variant (OfTree Lookup) args = lookup h variant args.a
procedure_of h variant _ args = stop

-- the procedure of an operation
abbrev pub tree_procedure : Header → Variant → Op → Script
tree_procedure h variant op = procedure_of h variant op.method op.args
