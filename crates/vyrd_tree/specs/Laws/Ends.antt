-- Proofs of laws that an impl in src/ names: no contract says what is defined here.
-- Each procedure comes to its return in time.
pub mod Walk
use Rattle.std.proofs.Common.{◌≡◌, ℕ, zero, suc, ◌+◌, ◌-◌, ◌*◌, ◌≤◌, Bool, true, false, cond, List}
use Rattle.std.proofs.Common.{[], ◌∷◌, length, drop, refl, sym, subst, arith}
use Rattle.std.specs.Prelude.{nat_lt, nat_le, Option, Some, None, remove}
use Rattle.std.proofs.lemmas.Bool.Decides.{nat_tests}
use Rattle.std.proofs.lemmas.List.{length-drop}
use Rattle.vyrd_base.specs.declared.header.Header.{Header}
use Rattle.vyrd_base.specs.declared.subject.Subject.TheVariants.{Tree}
use Rattle.vyrd_base.specs.declared.subject.Method.{Method}
use Rattle.vyrd_base.specs.declared.subject.Method.TheVariants.{Multiset as OfMultiset}
use Rattle.vyrd_base.specs.declared.subject.Method.TheVariants.{Cache as OfCache, Tree as OfTree}
use Rattle.vyrd_base.specs.declared.subject.Method.TheVariants.{Buffers as OfBuffers}
use Rattle.vyrd_base.specs.declared.subject.Method.TheVariants.{OwnNever, OwnAtMostOnce, OwnOnce}
use Rattle.vyrd_base.specs.declared.tree.TreeMethod.TheVariants.{Insert, Delete, Lookup}
use Rattle.vyrd_base.specs.declared.log.Kind.{Kind}
use Rattle.vyrd_base.specs.declared.log.Kind.TheVariants.{Commit, BlockOpen, BlockClose}
use Rattle.vyrd_base.specs.declared.log.Kind.TheVariants.{BlockCommit}
use Rattle.vyrd_base.specs.declared.subject.Args.{Args}
use Rattle.vyrd_base.specs.Subjects.{subject_of}
use Rattle.vyrd_memory.specs.declared.act.Act.TheVariants.{Load, Store, Take, Give, Mark}
use Rattle.vyrd_memory.specs.declared.op.Variant.{Variant}
use Rattle.vyrd_memory.specs.Scripts.{Script, step, perform, returns, gives_up}
use Rattle.vyrd_memory.specs.Bounds.{is_return, tree_bound, bound_in, bound_of, EndsByReturn}
use Rattle.vyrd_memory.proofs.TimedActs.{in_more, loads_in, acts_in, either_in, returns_in}
use Rattle.vyrd_memory.proofs.TimedActs.{gives_up_in}
use Rattle.vyrd_tree.specs.Cells.{level_cell, count_cell, bound_cell, right_cell, key_cell}
use Rattle.vyrd_tree.specs.Cells.{value_cell, root_cell, used_cell, lock_of, root_lock, used_lock}
use Rattle.vyrd_tree.specs.Cells.{unlock_node, unlock_root, unlock_used}
use Rattle.vyrd_tree.specs.Procedures.Walk.{Arrived, walk_from}
use Rattle.vyrd_tree.specs.Procedures.Split.{with_unused, write_entries, write_node, place_below}
use Rattle.vyrd_tree.specs.Procedures.Split.{with_entry, rewrite, add_entry, lower_half, upper_half}
use Rattle.vyrd_tree.specs.Procedures.Split.{first_key, split}
use Rattle.vyrd_tree.specs.Procedures.Split.{split_entry, split_key}
use Rattle.vyrd_tree.specs.Procedures.Ascent.{grow_root, add_child, ascend_once, ascend}
use Rattle.vyrd_tree.specs.Procedures.{changes_nothing, walk_down, place_of, reply_of, look_in}
use Rattle.vyrd_tree.specs.Procedures.{lookup, delete_in, delete}
use Rattle.vyrd_tree.specs.Procedures.{insert_in, insert_entry, procedure_of}
use Rattle.vyrd_tree.specs.Laws.Sound.Fits.{length_insert, length_remove, two_above, three_below}
use Rattle.vyrd_tree.specs.Laws.Ends.Walk.{walk_in}

-- a load and a store at most between two acts of the lock
unused_in : (n : ℕ) (h : Header) (none : Script) (found : ℕ → Script) → EndsByReturn n none
    → ((new : ℕ) → EndsByReturn n (found new))
    → EndsByReturn (n + 4) (with_unused h none found)
unused_in n h none found none_ends found_ends =
    let got : ℕ → Script = λ used. cond (nat_le h.size (used + 1)) (unlock_used h none)
    (perform (Store (used_cell h) (used + 1)) (unlock_used h (found (used + 1)))) in
    in_more (n + 2 + 1 + 1) (n + 4) (with_unused h none found) (omega arith) (acts_in (n + 2 + 1)
    (Take (used_lock h)) (step (Load (used_cell h)) got) refl
    (loads_in (n + 2) (used_cell h) got (λ used. either_in (n + 2) (nat_le h.size (used + 1))
    (unlock_used h none)
    (perform (Store (used_cell h) (used + 1)) (unlock_used h (found (used + 1))))
    (in_more (n + 1) (n + 2) (unlock_used h none) (omega arith)
    (acts_in n (Give (used_lock h)) none refl none_ends))
    (in_more (n + 1 + 1) (n + 2)
    (perform (Store (used_cell h) (used + 1)) (unlock_used h (found (used + 1)))) (omega arith)
    (acts_in (n + 1) (Store (used_cell h) (used + 1)) (unlock_used h (found (used + 1))) refl
    (acts_in n (Give (used_lock h)) (found (used + 1)) refl (found_ends (used + 1))))))))

-- two stores for each entry
entries_in : (n node place : ℕ) (entries : List (ℕ × ℕ)) (later : Script) → EndsByReturn n later
    → EndsByReturn (n + 2 * length entries) (write_entries node place entries later)
entries_in n node place [] later ends = in_more n (n + 2 * 0) later (omega arith) ends
entries_in n node place (entry ∷ entries) later ends =
    in_more (n + 2 * length entries + 1 + 1) (n + 2 * suc (length entries))
    (write_entries node place (entry ∷ entries) later) (omega arith)
    (acts_in (n + 2 * length entries + 1) (Store (key_cell node place) entry.0)
    (perform (Store (value_cell node place) entry.1) (write_entries node (place + 1) entries later))
    refl
    (acts_in (n + 2 * length entries) (Store (value_cell node place) entry.1) (write_entries node
    (place + 1) entries later) refl (entries_in n node (place + 1) entries later ends)))

node_in : (n node level bound right : ℕ) (entries : List (ℕ × ℕ)) (later : Script)
    → length entries ≤ 2 → EndsByReturn n later
    → EndsByReturn (n + 8) (write_node node level bound right entries later)
node_in n node level bound right entries later few ends =
    let from_right : Script =
    perform (Store (right_cell node) right) (write_entries node 0 entries later) in
    let from_bound : Script = perform (Store (bound_cell node) bound) from_right in
    let from_count : Script = perform (Store (count_cell node) 2) from_bound in
    in_more (n + 2 * length entries + 1 + 1 + 1 + 1) (n + 8)
    (write_node node level bound right entries later) (omega (arith, few))
    (acts_in (n + 2 * length entries + 1 + 1 + 1) (Store (level_cell node) level) from_count refl
    (acts_in (n + 2 * length entries + 1 + 1) (Store (count_cell node) 2) from_bound refl
    (acts_in (n + 2 * length entries + 1) (Store (bound_cell node) bound) from_right refl
    (acts_in (n + 2 * length entries) (Store (right_cell node) right)
    (write_entries node 0 entries later) refl (entries_in n node 0 entries later ends)))))

rewrite_in : (n : ℕ) (h : Header) (node place : ℕ) (entries : List (ℕ × ℕ)) (close : Kind)
    (later : Script)
    → length entries ≤ 4 → is_return (Mark close) ≡ false → EndsByReturn n later
    → EndsByReturn (n + 12) (rewrite h node place entries close later)
rewrite_in n h node place entries close later few closes ends =
    let ending : Script = perform (Mark close) (unlock_node h node later) in
    let left : length (drop place entries) ≤ 4 = omega (arith, length-drop place entries, few) in
    in_more (n + 1 + 1 + 1 + 2 * length (drop place entries) + 1) (n + 12)
    (rewrite h node place entries close later) (omega (arith, left))
    (acts_in (n + 1 + 1 + 1 + 2 * length (drop place entries)) (Mark BlockOpen)
    (write_entries node place (drop place entries)
    (perform (Store (count_cell node) (length entries)) ending)) refl
    (entries_in (n + 1 + 1 + 1) node place (drop place entries)
    (perform (Store (count_cell node) (length entries)) ending)
    (acts_in (n + 1 + 1) (Store (count_cell node) (length entries)) ending refl (acts_in (n + 1)
    (Mark close) (unlock_node h node later) closes
    (acts_in n (Give (lock_of h node)) later refl ends)))))

add_in : (n : ℕ) (h : Header) (at : Arrived) (key value : ℕ) (close : Kind) (later : Script)
    → length at.entries ≤ 3 → is_return (Mark close) ≡ false → EndsByReturn n later
    → EndsByReturn (n + 12) (add_entry h at key value close later)
add_in n h at key value close later few closes ends =
    let count : length (with_entry at.entries key value)
    ≡ suc (length at.entries) = length_insert at.entries (place_below key at.entries)
    (key, value) in
    rewrite_in n h at.node (place_below key at.entries) (with_entry at.entries key value) close
    later (omega (arith, count, few)) closes ends

split_in : (n : ℕ) (h : Header) (at : Arrived) (key value new : ℕ) (close : Kind) (later : Script)
    → length at.entries ≤ 4 → is_return (Mark close) ≡ false → EndsByReturn n later
    → EndsByReturn (n + 20) (split_entry h at key value new close later)
split_in n h at key value new close later few closes ends =
    let place : ℕ = place_below key at.entries in
    let five : List (ℕ × ℕ) = with_entry at.entries key value in
    let ending : Script = perform (Mark close) (unlock_node h at.node later) in
    let from_right : Script = perform (Store (right_cell at.node) new) ending in
    let from_bound : Script =
    perform (Store (bound_cell at.node) (first_key (upper_half five))) from_right in
    let from_count : Script = perform (Store (count_cell at.node) 3) from_bound in
    let few_five : length five ≤ 5 =
    omega (arith, length_insert at.entries place (key, value), few) in
    let left : length (drop place (lower_half five)) ≤ 3 =
    omega (arith, length-drop place (lower_half five), three_below five) in
    in_more (n + 1 + 1 + 1 + 1 + 1 + 2 * length (drop place (lower_half five)) + 8 + 1) (n + 20)
    (split_entry h at key value new close later) (omega (arith, left))
    (acts_in (n + 1 + 1 + 1 + 1 + 1 + 2 * length (drop place (lower_half five)) + 8)
    (Mark BlockOpen) (split at place five new ending) refl
    (node_in (n + 1 + 1 + 1 + 1 + 1 + 2 * length (drop place (lower_half five))) new at.level
    at.bound at.right (upper_half five)
    (write_entries at.node place (drop place (lower_half five)) from_count)
    (two_above five few_five)
    (entries_in (n + 1 + 1 + 1 + 1 + 1) at.node place (drop place (lower_half five)) from_count
    (acts_in (n + 1 + 1 + 1 + 1) (Store (count_cell at.node) 3) from_bound refl (acts_in
    (n + 1 + 1 + 1) (Store (bound_cell at.node) (first_key (upper_half five))) from_right refl
    (acts_in (n + 1 + 1) (Store (right_cell at.node) new) ending refl (acts_in (n + 1) (Mark close)
    (unlock_node h at.node later) closes
    (acts_in n (Give (lock_of h at.node)) later refl ends))))))))

lower : (n m : ℕ) → nat_lt n m ≡ true → suc n ≤ m
lower n m e = grind (arith, nat_tests)

-- one more entry, of a leaf or of an inner node
one_more_in : (n : ℕ) (h : Header) (at : Arrived) (key value : ℕ) (close : Kind)
    (later none : Script) (next : ℕ → Script)
    → length at.entries ≤ 4 → is_return (Mark close) ≡ false → EndsByReturn n later
    → EndsByReturn (n + 20) none → ((new : ℕ) → EndsByReturn n (next new))
    → EndsByReturn (n + 24) (cond (nat_lt (length at.entries) 4) (add_entry h at key value close
    later) (with_unused h none (λ new. split_entry h at key value new close (next new))))
one_more_in n h at key value close later none next few closes later_ends none_ends next_ends =
    by_room (nat_lt (length at.entries) 4) refl
  where
    by_room : (b : Bool) → nat_lt (length at.entries) 4 ≡ b
        → EndsByReturn (n + 24) (cond b (add_entry h at key value close later)
        (with_unused h none (λ new. split_entry h at key value new close (next new))))
    by_room true room = in_more (n + 12) (n + 24) (add_entry h at key value close later)
        (omega arith)
        (let some : suc (length at.entries) ≤ 4 = lower (length at.entries) 4 room in
        add_in n h at key value close later (omega (arith, some)) closes later_ends)
    by_room false full = in_more (n + 20 + 4) (n + 24)
        (with_unused h none (λ new. split_entry h at key value new close (next new))) (omega arith)
        (unused_in (n + 20) h none (λ new. split_entry h at key value new close (next new))
        none_ends
        (λ new. split_in n h at key value new close (next new) few closes (next_ends new)))

child_in : (n : ℕ) (h : Header) (level key node : ℕ) (at : Arrived) (stops : Script)
    (next : ℕ → ℕ → ℕ → Script)
    → length at.entries ≤ 4 → EndsByReturn n stops
    → ((level key node : ℕ) → EndsByReturn n (next level key node))
    → EndsByReturn (n + 24) (add_child h level key node at stops next)
child_in n h level key node at stops next few stops_end next_ends =
    let unlocked : EndsByReturn (n + 1) (unlock_node h at.node stops) =
    acts_in n (Give (lock_of h at.node)) stops refl stops_end in
    let split_on : ℕ → Script = λ new. split_entry h at key node new BlockClose
    (next (level + 1) (split_key at key node) new) in
    either_in (n + 24) (nat_le at.level level) (unlock_node h at.node stops)
    (cond (nat_lt (length at.entries) 4) (add_entry h at key node BlockClose stops)
    (with_unused h (unlock_node h at.node stops) split_on))
    (in_more (n + 1) (n + 24) (unlock_node h at.node stops) (omega arith) unlocked)
    (one_more_in n h at key node BlockClose stops (unlock_node h at.node stops)
    (next (level + 1) (split_key at key node)) few refl stops_end
    (in_more (n + 1) (n + 20) (unlock_node h at.node stops) (omega arith) unlocked)
    (next_ends (level + 1) (split_key at key node)))

grow_in : (n : ℕ) (h : Header) (level key node root : ℕ) (stops : Script) → EndsByReturn n stops
    → EndsByReturn (n + 16) (grow_root h level key node root stops)
grow_in n h level key node root stops ends =
    let pair : List (ℕ × ℕ) = (0, root) ∷ (key, node) ∷ [] in
    let ending : Script = perform (Mark BlockClose) (unlock_root h stops) in
    in_more (n + 12 + 4) (n + 16) (grow_root h level key node root stops) (omega arith) (unused_in
    (n + 12) h (unlock_root h stops)
    (λ new. perform (Mark BlockOpen)
    (write_node new (level + 1) 0 0 pair (perform (Store (root_cell h) new) ending)))
    (in_more (n + 1) (n + 12) (unlock_root h stops) (omega arith)
    (acts_in n (Give (root_lock h)) stops refl ends))
    (λ new. in_more (n + 1 + 1 + 1 + 8 + 1) (n + 12)
    (perform (Mark BlockOpen)
    (write_node new (level + 1) 0 0 pair (perform (Store (root_cell h) new) ending))) (omega arith)
    (acts_in (n + 1 + 1 + 1 + 8) (Mark BlockOpen)
    (write_node new (level + 1) 0 0 pair (perform (Store (root_cell h) new) ending)) refl
    (node_in (n + 1 + 1 + 1) new (level + 1) 0 0 pair (perform (Store (root_cell h) new) ending)
    (omega arith)
    (acts_in (n + 1 + 1) (Store (root_cell h) new) ending refl (acts_in (n + 1) (Mark BlockClose)
    (unlock_root h stops) refl (acts_in n (Give (root_lock h)) stops refl ends)))))))

-- a round: two loads between two acts of the lock, a walk, and one more entry
round_in : (n : ℕ) (h : Header) (variant : Variant) (level key node : ℕ) (stops : Script)
    (next : ℕ → ℕ → ℕ → Script)
    → EndsByReturn n stops
    → ((level key node : ℕ) → EndsByReturn n (next level key node))
    → EndsByReturn (n + (13 * h.size + 28)) (ascend_once h variant level key node stops next)
round_in n h variant level key node stops next ends next_ends =
    let m : ℕ = n + 24 + 13 * h.size in
    let walk : ℕ → Script = λ root. walk_from h variant key (level + 1) h.size root stops
    (λ at. add_child h level key node at stops next) in
    let over : ℕ → ℕ → Script = λ root top. cond (nat_le top level)
    (grow_root h level key node root stops) (unlock_root h (walk root)) in
    let from : ℕ → Script = λ root. cond (nat_lt root h.size)
    (step (Load (level_cell root)) (over root)) (unlock_root h stops) in
    in_more (m + 1 + 1 + 1 + 1) (n + (13 * h.size + 28))
    (ascend_once h variant level key node stops next) (omega arith)
    (acts_in (m + 1 + 1 + 1) (Take (root_lock h)) (step (Load (root_cell h)) from) refl
    (loads_in (m + 1 + 1) (root_cell h) from (λ root. either_in (m + 1 + 1) (nat_lt root h.size)
    (step (Load (level_cell root)) (over root)) (unlock_root h stops)
    (loads_in (m + 1) (level_cell root) (over root) (λ top. either_in (m + 1) (nat_le top level)
    (grow_root h level key node root stops) (unlock_root h (walk root))
    (in_more (n + 16) (m + 1) (grow_root h level key node root stops) (omega arith)
    (grow_in n h level key node root stops ends))
    (acts_in m (Give (root_lock h)) (walk root) refl (walk_in (n + 24) h variant key (level + 1)
    h.size root stops (λ at. add_child h level key node at stops next)
    (in_more n (n + 24) stops (omega arith) ends)
    (λ at few. child_in n h level key node at stops next few ends next_ends)))))
    (in_more (n + 1) (m + 1 + 1) (unlock_root h stops) (omega arith)
    (acts_in n (Give (root_lock h)) stops refl ends)))))

-- one round more
sum_of : (n left round : ℕ) → n + left * round + round ≤ n + suc left * round
sum_of n left round = grind arith

ascend_in : (n : ℕ) (h : Header) (variant : Variant) (left level key node : ℕ) (stops : Script)
    → EndsByReturn n stops
    → EndsByReturn (n + left * (13 * h.size + 28)) (ascend h variant left level key node stops)
ascend_in n h variant zero level key node stops ends =
    in_more n (n + 0 * (13 * h.size + 28)) stops (omega arith) ends
ascend_in n h variant (suc left) level key node stops ends =
    let round : ℕ = 13 * h.size + 28 in
    let sum : n + left * round + round ≤ n + suc left * round = sum_of n left round in
    in_more (n + left * round + round) (n + suc left * round)
    (ascend h variant (suc left) level key node stops) sum
    (round_in (n + left * round) h variant level key node stops
    (λ level' key' node'. ascend h variant left level' key' node' stops)
    (in_more n (n + left * round) stops (omega arith) ends)
    (λ level' key' node'. ascend_in n h variant left level' key' node' stops ends))

unchanged_in : (h : Header) (node : ℕ) → EndsByReturn 3 (changes_nothing h node)
unchanged_in h node = acts_in 2 (Mark Commit) (unlock_node h node (returns 0)) refl
    (acts_in 1 (Give (lock_of h node)) (returns 0) refl (returns_in 0))

-- the walk of an operation
down_in : (n : ℕ) (h : Header) (variant : Variant) (key : ℕ) (lost : Script)
    (arrived : Arrived → Script)
    → EndsByReturn n lost
    → ((at : Arrived) → length at.entries ≤ 4 → EndsByReturn n (arrived at))
    → EndsByReturn (n + 13 * h.size + 1) (walk_down h variant key lost arrived)
down_in n h variant key lost arrived lost_ends ends =
    loads_in (n + 13 * h.size) (root_cell h)
    (λ root. walk_from h variant key 0 h.size root lost arrived)
    (λ root. walk_in n h variant key 0 h.size root lost arrived lost_ends ends)

-- what an insert may still do once it has arrived
abbrev after_arrival : ℕ → ℕ
after_arrival size = 1 + 16 * (13 * size + 28)

insert_in_time : (h : Header) (variant : Variant) (key value : ℕ) (at : Arrived) (place : Option ℕ)
    → length at.entries ≤ 4
    → EndsByReturn (after_arrival h.size + 24) (insert_in h variant key value at place)
insert_in_time h variant key value at None few =
    one_more_in (after_arrival h.size) h at key value BlockCommit (returns 1)
    (changes_nothing h at.node)
    (λ new. ascend h variant 16 0 (split_key at key value) new (returns 1)) few refl
    (in_more 1 (after_arrival h.size) (returns 1) (omega arith) (returns_in 1))
    (in_more 3 (after_arrival h.size + 20) (changes_nothing h at.node) (omega arith)
    (unchanged_in h at.node))
    (λ new. ascend_in 1 h variant 16 0 (split_key at key value) new (returns 1) (returns_in 1))
insert_in_time h variant key value at (Some place) few =
    let ending : Script = perform (Mark BlockCommit) (unlock_node h at.node (returns 2)) in
    in_more 5 (after_arrival h.size + 24) (insert_in h variant key value at (Some place))
    (omega arith)
    (acts_in 4 (Mark BlockOpen) (perform (Store (value_cell at.node place) value) ending) refl
    (acts_in 3 (Store (value_cell at.node place) value) ending refl (acts_in 2 (Mark BlockCommit)
    (unlock_node h at.node (returns 2)) refl
    (acts_in 1 (Give (lock_of h at.node)) (returns 2) refl (returns_in 2)))))

delete_in_time : (h : Header) (at : Arrived) (place : Option ℕ) → length at.entries ≤ 4
    → EndsByReturn 13 (delete_in h at place)
delete_in_time h at None few =
    in_more 3 13 (changes_nothing h at.node) (omega arith) (unchanged_in h at.node)
delete_in_time h at (Some place) few =
    rewrite_in 1 h at.node place (remove at.entries place) BlockCommit (returns 1) (omega (
      arith,
      length_remove at.entries place,
      few,
    )) refl (returns_in 1)

by_method_ends : (h : Header) (variant : Variant) (method : Method) (args : Args)
    → subject_of method ≡ Tree
    → EndsByReturn (tree_bound h.size method - 1) (procedure_of h variant method args)
by_method_ends h variant (OfTree Insert) args of =
    in_more (after_arrival h.size + 24 + 13 * h.size + 1) (17 * (16 * h.size + 40) - 1)
    (insert_entry h variant args.a args.b) (omega arith)
    (down_in (after_arrival h.size + 24) h variant args.a gives_up
    (λ at. insert_in h variant args.a args.b at (place_of args.a at.entries))
    (in_more 2 (after_arrival h.size + 24) gives_up (omega arith) gives_up_in)
    (λ at few. insert_in_time h variant args.a args.b at (place_of args.a at.entries) few))
by_method_ends h variant (OfTree Delete) args of =
    in_more (13 + 13 * h.size + 1) (16 * h.size + 40 - 1) (delete h variant args.a) (omega arith)
    (down_in 13 h variant args.a gives_up (λ at. delete_in h at (place_of args.a at.entries))
    (in_more 2 13 gives_up (omega arith) gives_up_in)
    (λ at few. delete_in_time h at (place_of args.a at.entries) few))
by_method_ends h variant (OfTree Lookup) args of =
    in_more (2 + 13 * h.size + 1) (16 * h.size + 40 - 1) (lookup h variant args.a) (omega arith)
    (down_in 2 h variant args.a (returns 0) (λ at. look_in h at (place_of args.a at.entries))
    (in_more 1 2 (returns 0) (omega arith) (returns_in 0))
    (λ at few. acts_in 1 (Give (lock_of h at.node))
    (returns (reply_of at.entries (place_of args.a at.entries))) refl
    (returns_in (reply_of at.entries (place_of args.a at.entries)))))
by_method_ends h variant (OfMultiset other) args of = cc
by_method_ends h variant (OfCache other) args of = cc
by_method_ends h variant (OfBuffers other) args of = cc
by_method_ends h variant (OwnNever i) args of = cc
by_method_ends h variant (OwnAtMostOnce i) args of = cc
by_method_ends h variant (OwnOnce i) args of = cc

pub procedure_ends : (h : Header) (variant : Variant) (method : Method) (args : Args)
    → h.subject ≡ Tree → subject_of method ≡ Tree
    → EndsByReturn (bound_of h method - 1) (procedure_of h variant method args)
procedure_ends h variant method args is of =
    subst (λ s. EndsByReturn (bound_in s h.size method - 1) (procedure_of h variant method args))
    (sym is) (by_method_ends h variant method args of)
