-- The procedures of the multiset, from after the mark of the call to the mark of the return.
use Rattle.std.specs.Prelude.{ℕ, zero, suc, ◌+◌, ◌==◌, min, max, Option, Some, None, is_some}
use Rattle.std.specs.Prelude.{if◌then◌else◌}
use Rattle.vyrd_base.specs.declared.header.Header.{Header}
use Rattle.vyrd_base.specs.declared.subject.Args.{Args}
use Rattle.vyrd_base.specs.declared.subject.Method.{Method}
use Rattle.vyrd_base.specs.declared.subject.Method.TheVariants.{Multiset as OfMultiset}
use Rattle.vyrd_base.specs.declared.multiset.MultisetMethod.TheVariants.{Insert, InsertPair, Delete}
use Rattle.vyrd_base.specs.declared.multiset.MultisetMethod.TheVariants.{Lookup}
use Rattle.vyrd_base.specs.declared.log.Kind.TheVariants.{Commit, BlockOpen, BlockCommit}
use Rattle.vyrd_memory.specs.declared.act.Act.TheVariants.{Load, Store, Mark}
use Rattle.vyrd_memory.specs.declared.op.Op.{Op}
use Rattle.vyrd_memory.specs.declared.op.Variant.{Variant}
use Rattle.vyrd_memory.specs.declared.op.Variant.TheVariants.{Correct, Broken}
use Rattle.vyrd_memory.specs.Scripts.{Script, stop, step, perform, returns, gives_up}
use Rattle.vyrd_multiset.specs.Cells.{bucket_of, first_slot, state_cell, value_cell, lock, unlock}
use Rattle.vyrd_multiset.specs.Cells.{lock_other, unlock_other}

-- store the value, and the state 1
abbrev pub reserve : ℕ → ℕ → Script → Script
reserve slot value later =
    perform (Store (value_cell slot) value) (perform (Store (state_cell slot) 1) later)

-- Look for a free slot from this one on, with this many left: load the states, and reserve the
-- first slot with the state 0.
abbrev pub find_from : ℕ → ℕ → ℕ → (Option ℕ → Script) → Script
find_from zero slot value found = found None
find_from (suc left) slot value found = step (Load (state_cell slot)) (λ state. if state == 0
    then reserve slot value (found (Some slot))
    else find_from left (slot + 1) value found)

-- The correct variant locks the bucket while it looks for a slot, and the broken one doesn't.
abbrev pub find_lock : Header → Variant → ℕ → Script → Script
find_lock h Correct bucket later = lock h bucket later
find_lock h Broken bucket later = later

-- and it unlocks the bucket when it is done
abbrev pub find_unlock : Header → Variant → ℕ → Script → Script
find_unlock h Correct bucket later = unlock h bucket later
find_unlock h Broken bucket later = later

-- find a slot for a value in its bucket
abbrev pub find : Header → Variant → ℕ → (Option ℕ → Script) → Script
find h variant value found = find_lock h variant (bucket_of h value)
    (find_from 4 (first_slot (bucket_of h value)) value
    (λ slot. find_unlock h variant (bucket_of h value) (found slot)))

-- in a block that commits give the slot its state, unlock the bucket, and return 1
abbrev pub commit_state : Header → ℕ → ℕ → ℕ → Script
commit_state h bucket slot state =
    perform (Mark BlockOpen)
    (perform (Store (state_cell slot) state)
    (perform (Mark BlockCommit) (unlock h bucket (returns 1))))

-- what an insert does with the slot that it found: it makes the slot valid
abbrev pub inserted : Header → ℕ → Option ℕ → Script
inserted h x None = gives_up
inserted h x (Some slot) = lock h (bucket_of h x) (commit_state h (bucket_of h x) slot 2)

-- insert x
abbrev pub insert : Header → Variant → ℕ → Script
insert h variant x = find h variant x (inserted h x)

-- The bucket that is locked first for a pair: the lower one, and in the broken variant that of x.
abbrev pub first_bucket : Variant → ℕ → ℕ → ℕ
first_bucket Correct of_x of_y = min of_x of_y
first_bucket Broken of_x of_y = of_x

-- The bucket that is locked second: the higher one, and in the broken variant that of y.
abbrev pub second_bucket : Variant → ℕ → ℕ → ℕ
second_bucket Correct of_x of_y = max of_x of_y
second_bucket Broken of_x of_y = of_y

-- unlock the buckets in the reverse order, and return 1
abbrev pub unlock_both : Header → ℕ → ℕ → Script
unlock_both h first second = unlock_other h first second (unlock h first (returns 1))

-- in a block that commits make both slots valid
abbrev pub validate_both : Header → ℕ → ℕ → ℕ → ℕ → Script
validate_both h first second slot_x slot_y =
    perform (Mark BlockOpen)
    (perform (Store (state_cell slot_x) 2)
    (perform (Store (state_cell slot_y) 2)
    (perform (Mark BlockCommit) (unlock_both h first second))))

-- do so under the locks of the two buckets
abbrev pub commit_both : Header → ℕ → ℕ → ℕ → ℕ → Script
commit_both h first second slot_x slot_y =
    lock h first (lock_other h first second (validate_both h first second slot_x slot_y))

-- free the slot that was reserved for x, and give up
abbrev pub undo : Header → ℕ → ℕ → Script
undo h x slot = lock h (bucket_of h x)
    (perform (Store (state_cell slot) 0) (unlock h (bucket_of h x) gives_up))

-- what an insert_pair does with the slot that it found for y, if it has one for x
abbrev pub second_found : Header → Variant → ℕ → ℕ → ℕ → Option ℕ → Script
second_found h variant x y slot_x None = undo h x slot_x
second_found h variant x y slot_x (Some slot_y) = commit_both h
    (first_bucket variant (bucket_of h x) (bucket_of h y))
    (second_bucket variant (bucket_of h x) (bucket_of h y)) slot_x slot_y

-- what an insert_pair does with the slot that it found for x
abbrev pub first_found : Header → Variant → ℕ → ℕ → Option ℕ → Script
first_found h variant x y None = gives_up
first_found h variant x y (Some slot_x) = find h variant y (second_found h variant x y slot_x)

-- insert_pair x y
abbrev pub insert_pair : Header → Variant → ℕ → ℕ → Script
insert_pair h variant x y = find h variant x (first_found h variant x y)

-- load the value of a slot, and go on by whether it is this one
abbrev pub compare : ℕ → ℕ → Script → Script → Script
compare slot value same other =
    step (Load (value_cell slot)) (λ loaded. if loaded == value then same else other)

-- Search for a value from this slot on, with this many left: load the states, and the value if the
-- state is 2. The search ends at the first slot with the state 2 and the value.
abbrev pub search_from : ℕ → ℕ → ℕ → (Option ℕ → Script) → Script
search_from zero slot value ended = ended None
search_from (suc left) slot value ended = step (Load (state_cell slot)) (λ state. if state == 2
    then compare slot value (ended (Some slot)) (search_from left (slot + 1) value ended)
    else search_from left (slot + 1) value ended)

-- search for a value in its bucket, under the bucket's lock
abbrev pub search_in : Header → ℕ → (Option ℕ → Script) → Script
search_in h x ended = lock h (bucket_of h x) (search_from 4 (first_slot (bucket_of h x)) x ended)

-- what a delete does with the slot that its search ended at: it frees the slot
abbrev pub deleted : Header → ℕ → Option ℕ → Script
deleted h x None = perform (Mark Commit) (unlock h (bucket_of h x) (returns 0))
deleted h x (Some slot) = commit_state h (bucket_of h x) slot 0

-- delete x
abbrev pub delete : Header → ℕ → Script
delete h x = search_in h x (deleted h x)

-- what a lookup does with the slot that its search ended at, if any: it returns whether there is
-- one
abbrev pub looked_up : Header → ℕ → Option ℕ → Script
looked_up h x slot = unlock h (bucket_of h x) (returns (if is_some slot then 1 else 0))

-- lookup x
abbrev pub lookup : Header → ℕ → Script
lookup h x = search_in h x (looked_up h x)

-- the procedure of a method's call with these arguments; that of another subject's method is empty
abbrev pub procedure_of : Header → Variant → Method → Args → Script
procedure_of h variant (OfMultiset Insert) args = insert h variant args.a
procedure_of h variant (OfMultiset InsertPair) args = insert_pair h variant args.a args.b
procedure_of h variant (OfMultiset Delete) args = delete h args.a
procedure_of h variant (OfMultiset Lookup) args = lookup h args.a
procedure_of h variant _ args = stop

-- the procedure of an operation
abbrev pub multiset_procedure : Header → Variant → Op → Script
multiset_procedure h variant op = procedure_of h variant op.method op.args
