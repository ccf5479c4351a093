-- Proofs of laws that an impl in src/ names: no contract says what is defined here.
-- Each procedure is sound.
pub mod Acts
pub mod Fits
pub mod Walk
use Rattle.std.proofs.Common.{◌≡◌, ℕ, zero, suc, ◌+◌, ◌^◌, ◌<◌, ◌≤◌, Bool, true, false, cond, List}
use Rattle.std.proofs.Common.{[], ◌∷◌, length, drop, refl, arith}
use Rattle.std.specs.Prelude.{nat_lt, nat_le, ◌||◌, Option, Some, None, remove}
use Rattle.std.proofs.lemmas.Bool.Decides.{nat_tests}
use Rattle.vyrd_base.specs.declared.header.Header.{Header}
use Rattle.vyrd_base.specs.declared.subject.Subject.TheVariants.{Tree}
use Rattle.vyrd_base.specs.declared.subject.Method.{Method}
use Rattle.vyrd_base.specs.declared.subject.Method.TheVariants.{Multiset as OfMultiset}
use Rattle.vyrd_base.specs.declared.subject.Method.TheVariants.{Cache as OfCache, Tree as OfTree}
use Rattle.vyrd_base.specs.declared.subject.Method.TheVariants.{Buffers as OfBuffers}
use Rattle.vyrd_base.specs.declared.subject.Method.TheVariants.{OwnNever, OwnAtMostOnce, OwnOnce}
use Rattle.vyrd_base.specs.declared.tree.TreeMethod.TheVariants.{Insert, Delete, Lookup}
use Rattle.vyrd_base.specs.declared.subject.Args.{Args}
use Rattle.vyrd_base.specs.declared.log.Kind.{Kind}
use Rattle.vyrd_base.specs.declared.log.Kind.TheVariants.{BlockOpen, BlockClose, BlockCommit}
use Rattle.vyrd_base.specs.Subjects.{subject_of, is_observer}
use Rattle.vyrd_base.proofs.HeaderLaws.{most_size}
use Rattle.vyrd_base.proofs.TestLaws.{below_of, above_of}
use Rattle.vyrd_memory.specs.declared.act.Act.TheVariants.{Load, Store, Mark}
use Rattle.vyrd_memory.specs.declared.op.Variant.{Variant}
use Rattle.vyrd_memory.specs.Arguments.{are_small}
use Rattle.vyrd_memory.specs.Scripts.{Script, step, perform, returns, gives_up}
use Rattle.vyrd_memory.specs.Soundness.{IsSound, just_called}
use Rattle.vyrd_memory.proofs.SoundActs.{either}
use Rattle.vyrd_tree.specs.Cells.{level_cell, count_cell, bound_cell, right_cell, key_cell}
use Rattle.vyrd_tree.specs.Cells.{value_cell, root_cell, used_cell, lock_of, root_lock, used_lock}
use Rattle.vyrd_tree.specs.Cells.{unlock_node, unlock_root, unlock_used}
use Rattle.vyrd_tree.specs.Procedures.Walk.{Arrived, walk_from}
use Rattle.vyrd_tree.specs.Procedures.Split.{with_unused, write_entries, write_node, place_below}
use Rattle.vyrd_tree.specs.Procedures.Split.{with_entry, rewrite, add_entry, lower_half, upper_half}
use Rattle.vyrd_tree.specs.Procedures.Split.{first_key, split}
use Rattle.vyrd_tree.specs.Procedures.Split.{split_entry, split_key}
use Rattle.vyrd_tree.specs.Procedures.Ascent.{grow_root, add_child, ascend_once, ascend}
use Rattle.vyrd_tree.specs.Procedures.{changes_nothing, walk_down, place_of, reply_of, look_in}
use Rattle.vyrd_tree.specs.Procedures.{delete_in, insert_new, insert_in, procedure_of}
use Rattle.vyrd_tree.specs.Laws.Sound.Acts.{holding, IsLock, loads, stores, takes_first, gives_last}
use Rattle.vyrd_tree.specs.Laws.Sound.Acts.{takes_second, gives_second, returned, gave_up}
use Rattle.vyrd_tree.specs.Laws.Sound.Walk.{node_lock, AreSmallEntries, IsLoaded, walk_sound}
use Rattle.vyrd_tree.specs.Laws.Sound.Fits.{small_take, small_drop, small_insert, small_remove}
use Rattle.vyrd_tree.specs.Laws.Sound.Fits.{small_first, length_insert, length_remove, place_fits}
use Rattle.vyrd_tree.specs.Laws.Sound.Fits.{place_low}
use Rattle.vyrd_tree.specs.Laws.Sound.Fits.{ends_low, two_above, three_below}

the_used_lock : (h : Header) → IsLock h (used_lock h)
the_used_lock h = (omega arith, omega arith)

the_root_lock : (h : Header) → IsLock h (root_lock h)
the_root_lock h = (omega arith, omega arith)

-- an unused node, with a lower lock held
unused_sound : (h : Header) (method : Method) (committed : Bool) (lock : ℕ) (none : Script)
    (found : ℕ → Script)
    → h.subject ≡ Tree → lock < used_lock h
    → IsSound h (holding (lock ∷ []) method committed false) none
    → ((new : ℕ) → new < h.size
    → IsSound h (holding (lock ∷ []) method committed false) (found new))
    → IsSound h (holding (lock ∷ []) method committed false) (with_unused h none found)
unused_sound h method committed lock none found is low none_sound found_sound =
    takes_second h method committed false lock (used_lock h) (step (Load (used_cell h)) got) is
    (the_used_lock h) low
    (loads h (holding (used_lock h ∷ lock ∷ []) method committed false) (used_cell h) got is
    (omega arith)
    (λ used small. either h (holding (used_lock h ∷ lock ∷ []) method committed false)
    (nat_le h.size (used + 1)) (unlock_used h none)
    (perform (Store (used_cell h) (used + 1)) (unlock_used h (found (used + 1))))
    (λ full. gives_second h method committed false lock (used_lock h) none is (the_used_lock h) low
    none_sound)
    (λ room. stores h (used_lock h ∷ lock ∷ []) method committed false (used_cell h) (used + 1)
    (unlock_used h (found (used + 1))) is (omega arith)
    (omega (arith, above_of h.size (used + 1) room, most_size h))
    (gives_second h method committed false lock (used_lock h) (found (used + 1)) is
    (the_used_lock h) low (found_sound (used + 1) (above_of h.size (used + 1) room))))))
  where
    got : ℕ → Script
    got used = cond (nat_le h.size (used + 1)) (unlock_used h none)
        (perform (Store (used_cell h) (used + 1)) (unlock_used h (found (used + 1))))

entries_sound : (h : Header) (lock : ℕ) (method : Method) (committed : Bool) (node place : ℕ)
    (entries : List (ℕ × ℕ)) (later : Script)
    → h.subject ≡ Tree → node < h.size → place + length entries ≤ 4 → AreSmallEntries entries
    → IsSound h (holding (lock ∷ []) method committed true) later
    → IsSound h (holding (lock ∷ []) method committed true) (write_entries node place entries later)
entries_sound h lock method committed node place [] later is low fits small sound = sound
entries_sound h lock method committed node place (entry ∷ entries) later is low fits small sound =
    stores h (lock ∷ []) method committed true (key_cell node place) entry.0
    (perform (Store (value_cell node place) entry.1) (write_entries node (place + 1) entries later))
    is (omega (arith, low, fits)) small.0
    (stores h (lock ∷ []) method committed true (value_cell node place) entry.1
    (write_entries node (place + 1) entries later) is (omega (arith, low, fits)) small.1
    (entries_sound h lock method committed node (place + 1) entries later is low
    (omega (arith, fits)) small.2 sound))

node_sound : (h : Header) (lock : ℕ) (method : Method) (committed : Bool)
    (node level bound right : ℕ) (entries : List (ℕ × ℕ)) (later : Script)
    → h.subject ≡ Tree → node < h.size → level < 2 ^ 63 → bound < 2 ^ 63 → right < 2 ^ 63
    → length entries ≤ 4 → AreSmallEntries entries
    → IsSound h (holding (lock ∷ []) method committed true) later
    → IsSound h (holding (lock ∷ []) method committed true)
    (write_node node level bound right entries later)
node_sound h lock method committed node level bound right entries later is low l b r few small
    sound =
    stores h (lock ∷ []) method committed true (level_cell node) level
    (perform (Store (count_cell node) 2) (perform (Store (bound_cell node) bound)
    (perform (Store (right_cell node) right) (write_entries node 0 entries later)))) is
    (omega (arith, low)) l
    (stores h (lock ∷ []) method committed true (count_cell node) 2
    (perform (Store (bound_cell node) bound)
    (perform (Store (right_cell node) right) (write_entries node 0 entries later))) is
    (omega (arith, low)) (omega arith)
    (stores h (lock ∷ []) method committed true (bound_cell node) bound
    (perform (Store (right_cell node) right) (write_entries node 0 entries later)) is
    (omega (arith, low)) b
    (stores h (lock ∷ []) method committed true (right_cell node) right
    (write_entries node 0 entries later) is (omega (arith, low)) r
    (entries_sound h lock method committed node 0 entries later is low (omega (arith, few)) small
    sound))))

-- the mark closes a block, with the lock held
abbrev Closes : Header → ℕ → Method → Bool → Bool → Kind → Type 0
Closes h lock method before after close =
    (later : Script) → IsSound h (holding (lock ∷ []) method after false) later
    → IsSound h (holding (lock ∷ []) method before true) (perform (Mark close) later)

closes_and_commits : (h : Header) (lock : ℕ) (method : Method) → is_observer method ≡ false
    → Closes h lock method false true BlockCommit
closes_and_commits h lock method mutates = λ later sound. (rw mutates, λ _ _. sound)

closes_only : (h : Header) (lock : ℕ) (method : Method) (committed : Bool)
    → Closes h lock method committed committed BlockClose
closes_only h lock method committed = λ later sound. (refl, λ _ _. sound)

-- a block is opened
opens : (h : Header) (lock : ℕ) (method : Method) (committed : Bool) (later : Script)
    → IsSound h (holding (lock ∷ []) method committed true) later
    → IsSound h (holding (lock ∷ []) method committed false) (perform (Mark BlockOpen) later)
opens h lock method committed later sound = (refl, λ _ _. sound)

rewrite_sound : (h : Header) (method : Method) (before after : Bool) (node place : ℕ)
    (entries : List (ℕ × ℕ)) (close : Kind) (later : Script)
    → h.subject ≡ Tree → node < h.size → place ≤ 4 → length entries ≤ 4 → AreSmallEntries entries
    → Closes h (lock_of h node) method before after close
    → IsSound h (holding [] method after false) later
    → IsSound h (holding (lock_of h node ∷ []) method before false)
    (rewrite h node place entries close later)
rewrite_sound h method before after node place entries close later is low at few small closes
    sound =
    opens h (lock_of h node) method before
    (write_entries node place (drop place entries) (perform
    (Store (count_cell node) (length entries)) (perform (Mark close) (unlock_node h node later))))
    (entries_sound h (lock_of h node) method before node place (drop place entries)
    (perform (Store (count_cell node) (length entries))
    (perform (Mark close) (unlock_node h node later))) is low (ends_low entries place few at)
    (small_drop place entries small)
    (stores h (lock_of h node ∷ []) method before true (count_cell node) (length entries)
    (perform (Mark close) (unlock_node h node later)) is (omega (arith, low)) (omega (arith, few))
    (closes (unlock_node h node later)
    (gives_last h method after false (lock_of h node) later is (node_lock h node low) sound))))

add_sound : (h : Header) (method : Method) (before after : Bool) (at : Arrived) (key value : ℕ)
    (close : Kind) (later : Script)
    → h.subject ≡ Tree → IsLoaded h at → nat_lt (length at.entries) 4 ≡ true → key < 2 ^ 63
    → value < 2 ^ 63 → Closes h (lock_of h at.node) method before after close
    → IsSound h (holding [] method after false) later
    → IsSound h (holding (lock_of h at.node ∷ []) method before false)
    (add_entry h at key value close later)
add_sound h method before after at key value close later is loaded room k v closes sound =
    let some : length at.entries < 4 = below_of (length at.entries) 4 room in
    rewrite_sound h method before after at.node (place_below key at.entries)
    (with_entry at.entries key value) close later is loaded.node
    (omega (arith, place_fits key at.entries, some))
    (omega (arith, length_insert at.entries (place_below key at.entries) (key, value), some))
    (small_insert at.entries (place_below key at.entries) key value k v loaded.small) closes sound

split_sound : (h : Header) (method : Method) (before after : Bool) (at : Arrived)
    (key value new : ℕ) (close : Kind) (later : Script)
    → h.subject ≡ Tree → IsLoaded h at → key < 2 ^ 63 → value < 2 ^ 63 → new < h.size
    → Closes h (lock_of h at.node) method before after close
    → IsSound h (holding [] method after false) later
    → IsSound h (holding (lock_of h at.node ∷ []) method before false)
    (split_entry h at key value new close later)
split_sound h method before after at key value new close later is loaded k v low closes sound =
    let lock : ℕ = lock_of h at.node in
    let place : ℕ = place_below key at.entries in
    let five : List (ℕ × ℕ) = with_entry at.entries key value in
    let ending : Script = perform (Mark close) (unlock_node h at.node later) in
    let links : Script = perform (Store (bound_cell at.node) (first_key (upper_half five)))
    (perform (Store (right_cell at.node) new) ending) in
    let lowers : Script = write_entries at.node place (drop place (lower_half five))
    (perform (Store (count_cell at.node) 3) links) in
    let few : length five ≤ 5 =
    omega (arith, length_insert at.entries place (key, value), loaded.few) in
    let small : AreSmallEntries five = small_insert at.entries place key value k v loaded.small in
    opens h lock method before (split at place five new ending) (node_sound h lock method before new
    at.level at.bound at.right (upper_half five) lowers is low loaded.level loaded.bound
    loaded.right (omega (arith, two_above five few)) (small_drop 3 five small)
    (entries_sound h lock method before at.node place (drop place (lower_half five))
    (perform (Store (count_cell at.node) 3) links) is loaded.node
    (ends_low (lower_half five) place (omega (arith, three_below five))
    (omega (arith, place_fits key at.entries, loaded.few)))
    (small_drop place (lower_half five) (small_take 3 five small))
    (stores h (lock ∷ []) method before true (count_cell at.node) 3 links is
    (omega (arith, loaded.node)) (omega arith)
    (stores h (lock ∷ []) method before true (bound_cell at.node) (first_key (upper_half five))
    (perform (Store (right_cell at.node) new) ending) is (omega (arith, loaded.node))
    (small_first (upper_half five) (small_drop 3 five small))
    (stores h (lock ∷ []) method before true (right_cell at.node) new ending is
    (omega (arith, loaded.node)) (omega (arith, low, most_size h))
    (closes (unlock_node h at.node later)
    (gives_last h method after false lock later is (node_lock h at.node loaded.node) sound)))))))

-- the key of a split fits
split_key_small : (at : Arrived) (key value : ℕ) → AreSmallEntries at.entries → key < 2 ^ 63
    → value < 2 ^ 63
    → split_key at key value < 2 ^ 63
split_key_small at key value small k v =
    let five : List (ℕ × ℕ) = with_entry at.entries key value in
    small_first (upper_half five)
    (small_drop 3 five (small_insert at.entries (place_below key at.entries) key value k v small))

-- the end of an operation that has committed
ended : (h : Header) (method : Method) → IsSound h (holding [] method true false) (returns 1)
ended h method = returned h method true 1 (or_true (is_observer method))
  where
    or_true : (b : Bool) → (b || true) ≡ true
    or_true true = refl
    or_true false = refl

grow_sound : (h : Header) (method : Method) (level key node root : ℕ) (stops : Script)
    → h.subject ≡ Tree → level < 2 ^ 62 → key < 2 ^ 63 → node < h.size → root < h.size
    → IsSound h (holding [] method true false) stops
    → IsSound h (holding (root_lock h ∷ []) method true false)
    (grow_root h level key node root stops)
grow_sound h method level key node root stops is l k n r sound =
    let pair : List (ℕ × ℕ) = (0, root) ∷ (key, node) ∷ [] in
    let ending : Script = perform (Mark BlockClose) (unlock_root h stops) in
    let unlocked : IsSound h (holding (root_lock h ∷ []) method true false) (unlock_root h stops) =
    gives_last h method true false (root_lock h) stops is (the_root_lock h) sound in
    let small : AreSmallEntries pair =
    (omega arith, omega (arith, r, most_size h), (k, omega (arith, n, most_size h), tt)) in
    unused_sound h method true (root_lock h) (unlock_root h stops)
    (λ new. perform (Mark BlockOpen)
    (write_node new (level + 1) 0 0 pair (perform (Store (root_cell h) new) ending))) is
    (omega arith) unlocked
    (λ new low. opens h (root_lock h) method true
    (write_node new (level + 1) 0 0 pair (perform (Store (root_cell h) new) ending))
    (node_sound h (root_lock h) method true new (level + 1) 0 0 pair
    (perform (Store (root_cell h) new) ending) is low (omega (arith, l)) (omega arith) (omega arith)
    (omega arith) small
    (stores h (root_lock h ∷ []) method true true (root_cell h) new ending is (omega arith) (omega (
      arith,
      low,
      most_size h,
    )) (closes_only h (root_lock h) method true (unlock_root h stops) unlocked))))

-- what is said of the rounds that follow
abbrev NextIsSound : Header → Method → ℕ → (ℕ → ℕ → ℕ → Script) → Type 0
NextIsSound h method level next = (key node : ℕ) → key < 2 ^ 63 → node < h.size
    → IsSound h (holding [] method true false) (next (level + 1) key node)

child_sound : (h : Header) (method : Method) (level key node : ℕ) (at : Arrived) (stops : Script)
    (next : ℕ → ℕ → ℕ → Script)
    → h.subject ≡ Tree → key < 2 ^ 63 → node < h.size
    → IsSound h (holding [] method true false) stops → NextIsSound h method level next
    → IsLoaded h at
    → IsSound h (holding (lock_of h at.node ∷ []) method true false)
    (add_child h level key node at stops next)
child_sound h method level key node at stops next is k n stops_sound next_sound loaded =
    let value : node < 2 ^ 63 = omega (arith, n, most_size h) in
    let unlocked : IsSound h (holding (lock_of h at.node ∷ []) method true false)
    (unlock_node h at.node stops) =
    gives_last h method true false (lock_of h at.node) stops is (node_lock h at.node loaded.node)
    stops_sound in
    let full : Script = with_unused h (unlock_node h at.node stops) (λ new.
    split_entry h at key node new BlockClose (next (level + 1) (split_key at key node) new)) in
    either h (holding (lock_of h at.node ∷ []) method true false) (nat_le at.level level)
    (unlock_node h at.node stops)
    (cond (nat_lt (length at.entries) 4) (add_entry h at key node BlockClose stops) full)
    (λ low. unlocked)
    (λ high. either h (holding (lock_of h at.node ∷ []) method true false)
    (nat_lt (length at.entries) 4) (add_entry h at key node BlockClose stops) full
    (λ room. add_sound h method true true at key node BlockClose stops is loaded room k value
    (closes_only h (lock_of h at.node) method true) stops_sound)
    (λ none. unused_sound h method true (lock_of h at.node) (unlock_node h at.node stops)
    (λ new. split_entry h at key node new BlockClose (next (level + 1) (split_key at key node) new))
    is (omega (arith, loaded.node)) unlocked
    (λ new low. split_sound h method true true at key node new BlockClose
    (next (level + 1) (split_key at key node) new) is loaded k value low
    (closes_only h (lock_of h at.node) method true)
    (next_sound (split_key at key node) new (split_key_small at key node loaded.small k value)
    low))))

round_sound : (h : Header) (variant : Variant) (method : Method) (level key node : ℕ)
    (stops : Script) (next : ℕ → ℕ → ℕ → Script)
    → h.subject ≡ Tree → level < 2 ^ 62 → key < 2 ^ 63 → node < h.size
    → IsSound h (holding [] method true false) stops → NextIsSound h method level next
    → IsSound h (holding [] method true false) (ascend_once h variant level key node stops next)
round_sound h variant method level key node stops next is l k n stops_sound next_sound =
    let unlocked : (later : Script) → IsSound h (holding [] method true false) later
    → IsSound h (holding (root_lock h ∷ []) method true false) (unlock_root h later) =
    λ later sound. gives_last h method true false (root_lock h) later is (the_root_lock h) sound in
    let walk : ℕ → Script = λ root. walk_from h variant key (level + 1) h.size root stops
    (λ at. add_child h level key node at stops next) in
    let over : ℕ → ℕ → Script = λ root top. cond (nat_le top level)
    (grow_root h level key node root stops) (unlock_root h (walk root)) in
    let from : ℕ → Script = λ root. cond (nat_lt root h.size)
    (step (Load (level_cell root)) (over root)) (unlock_root h stops) in
    takes_first h method true false (root_lock h) (step (Load (root_cell h)) from) is
    (the_root_lock h)
    (loads h (holding (root_lock h ∷ []) method true false) (root_cell h) from is (omega arith)
    (λ root _.
    either h (holding (root_lock h ∷ []) method true false) (nat_lt root h.size)
    (step (Load (level_cell root)) (over root)) (unlock_root h stops)
    (λ low. let r : root < h.size = below_of root h.size low in
    loads h (holding (root_lock h ∷ []) method true false) (level_cell root) (over root) is
    (omega (arith, r)) (λ top _.
    either h (holding (root_lock h ∷ []) method true false) (nat_le top level)
    (grow_root h level key node root stops) (unlock_root h (walk root))
    (λ below. grow_sound h method level key node root stops is l k n r stops_sound)
    (λ past. unlocked (walk root)
    (walk_sound h variant method true key (level + 1) h.size root stops
    (λ at. add_child h level key node at stops next) is stops_sound
    (λ at. child_sound h method level key node at stops next is k n stops_sound next_sound)))))
    (λ high. unlocked stops stops_sound)))

ascend_sound : (h : Header) (variant : Variant) (method : Method) (left level key node : ℕ)
    (after : Script)
    → h.subject ≡ Tree → level + left ≤ 16 → key < 2 ^ 63 → node < h.size
    → IsSound h (holding [] method true false) after
    → IsSound h (holding [] method true false) (ascend h variant left level key node after)
ascend_sound h variant method zero level key node after is fits k n sound = sound
ascend_sound h variant method (suc left) level key node after is fits k n sound =
    round_sound h variant method level key node after
    (λ level' key' node'. ascend h variant left level' key' node' after) is
    (omega (arith, fits)) k n sound
    (λ key' node' k' n'. ascend_sound h variant method left (level + 1) key' node' after is
    (omega (arith, fits)) k' n' sound)

-- with a node's lock held: commit, and give up
unchanged_sound : (h : Header) (method : Method) (node : ℕ) → h.subject ≡ Tree → node < h.size
    → is_observer method ≡ false
    → IsSound h (holding (lock_of h node ∷ []) method false false) (changes_nothing h node)
unchanged_sound h method node is low mutates = (
  rw mutates,
  λ _ _. gives_last h method true false (lock_of h node) (returns 0) is (node_lock h node low)
      (returned h method true 0 (rw mutates)),
)

new_sound : (h : Header) (variant : Variant) (method : Method) (key value : ℕ) (at : Arrived)
    → h.subject ≡ Tree → is_observer method ≡ false → key < 2 ^ 63 → value < 2 ^ 63 → IsLoaded h at
    → IsSound h (holding (lock_of h at.node ∷ []) method false false)
    (insert_new h variant key value at)
new_sound h variant method key value at is mutates k v loaded =
    let climb : ℕ → Script =
    λ new. ascend h variant 16 0 (split_key at key value) new (returns 1) in
    let full : Script = with_unused h (changes_nothing h at.node)
    (λ new. split_entry h at key value new BlockCommit (climb new)) in
    either h (holding (lock_of h at.node ∷ []) method false false) (nat_lt (length at.entries) 4)
    (add_entry h at key value BlockCommit (returns 1)) full
    (λ room. add_sound h method false true at key value BlockCommit (returns 1) is loaded room k v
    (closes_and_commits h (lock_of h at.node) method mutates) (ended h method))
    (λ none. unused_sound h method false (lock_of h at.node) (changes_nothing h at.node)
    (λ new. split_entry h at key value new BlockCommit (climb new)) is (omega (arith, loaded.node))
    (unchanged_sound h method at.node is loaded.node mutates)
    (λ new low. split_sound h method false true at key value new BlockCommit (climb new) is loaded k
    v low (closes_and_commits h (lock_of h at.node) method mutates)
    (ascend_sound h variant method 16 0 (split_key at key value) new (returns 1) is (omega arith)
    (split_key_small at key value loaded.small k v) low (ended h method))))

insert_sound : (h : Header) (variant : Variant) (method : Method) (key value : ℕ) (at : Arrived)
    (place : Option ℕ)
    → h.subject ≡ Tree → is_observer method ≡ false → key < 2 ^ 63 → value < 2 ^ 63 → IsLoaded h at
    → place_of key at.entries ≡ place
    → IsSound h (holding (lock_of h at.node ∷ []) method false false)
    (insert_in h variant key value at place)
insert_sound h variant method key value at None is mutates k v loaded found =
    new_sound h variant method key value at is mutates k v loaded
insert_sound h variant method key value at (Some place) is mutates k v loaded found =
    let low : place < length at.entries = place_low key at.entries place found in
    let ending : Script = perform (Mark BlockCommit) (unlock_node h at.node (returns 2)) in
    opens h (lock_of h at.node) method false
    (perform (Store (value_cell at.node place) value) ending)
    (stores h (lock_of h at.node ∷ []) method false true (value_cell at.node place) value ending is
    (omega (arith, low, loaded.few, loaded.node)) v
    (closes_and_commits h (lock_of h at.node) method mutates (unlock_node h at.node (returns 2))
    (gives_last h method true false (lock_of h at.node) (returns 2) is
    (node_lock h at.node loaded.node) (returned h method true 2 (rw mutates)))))

delete_sound : (h : Header) (method : Method) (key : ℕ) (at : Arrived) (place : Option ℕ)
    → h.subject ≡ Tree → is_observer method ≡ false → IsLoaded h at
    → place_of key at.entries ≡ place
    → IsSound h (holding (lock_of h at.node ∷ []) method false false) (delete_in h at place)
delete_sound h method key at None is mutates loaded found =
    unchanged_sound h method at.node is loaded.node mutates
delete_sound h method key at (Some place) is mutates loaded found =
    let low : place < length at.entries = place_low key at.entries place found in
    rewrite_sound h method false true at.node place (remove at.entries place) BlockCommit
    (returns 1) is loaded.node (omega (arith, low, loaded.few))
    (omega (arith, length_remove at.entries place, loaded.few))
    (small_remove at.entries place loaded.small)
    (closes_and_commits h (lock_of h at.node) method mutates) (ended h method)

-- the walk of an operation, from the root
down_sound : (h : Header) (variant : Variant) (method : Method) (key : ℕ) (lost : Script)
    (arrived : Arrived → Script)
    → h.subject ≡ Tree
    → IsSound h (holding [] method false false) lost
    → ((at : Arrived) → IsLoaded h at
    → IsSound h (holding (lock_of h at.node ∷ []) method false false) (arrived at))
    → IsSound h (just_called method) (walk_down h variant key lost arrived)
down_sound h variant method key lost arrived is lost_sound sound =
    loads h (holding [] method false false) (root_cell h)
    (λ root. walk_from h variant key 0 h.size root lost arrived) is (omega arith)
    (λ root _. walk_sound h variant method false key 0 h.size root lost arrived is lost_sound sound)

by_method_sound : (h : Header) (variant : Variant) (method : Method) (args : Args)
    → h.subject ≡ Tree → subject_of method ≡ Tree → args.a < 2 ^ 63 → args.b < 2 ^ 63
    → IsSound h (just_called method) (procedure_of h variant method args)
by_method_sound h variant (OfTree Insert) args is of k v =
    down_sound h variant (OfTree Insert) args.a gives_up
    (λ at. insert_in h variant args.a args.b at (place_of args.a at.entries)) is
    (gave_up h (OfTree Insert) refl)
    (λ at loaded. insert_sound h variant (OfTree Insert) args.a args.b at
    (place_of args.a at.entries)
    is refl k v loaded refl)
by_method_sound h variant (OfTree Delete) args is of k v =
    down_sound h variant (OfTree Delete) args.a gives_up
    (λ at. delete_in h at (place_of args.a at.entries)) is (gave_up h (OfTree Delete) refl)
    (λ at loaded. delete_sound h (OfTree Delete) args.a at
    (place_of args.a at.entries) is refl loaded refl)
by_method_sound h variant (OfTree Lookup) args is of k v =
    down_sound h variant (OfTree Lookup) args.a (returns 0)
    (λ at. look_in h at (place_of args.a at.entries)) is (returned h (OfTree Lookup) false 0 refl)
    (λ at loaded. gives_last h (OfTree Lookup) false false (lock_of h at.node)
    (returns (reply_of at.entries (place_of args.a at.entries))) is
    (node_lock h at.node loaded.node)
    (returned h (OfTree Lookup) false (reply_of at.entries (place_of args.a at.entries)) refl))
by_method_sound h variant (OfMultiset other) args is of k v = cc
by_method_sound h variant (OfCache other) args is of k v = cc
by_method_sound h variant (OfBuffers other) args is of k v = cc
by_method_sound h variant (OwnNever i) args is of k v = cc
by_method_sound h variant (OwnAtMostOnce i) args is of k v = cc
by_method_sound h variant (OwnOnce i) args is of k v = cc

pub procedure_sound : (h : Header) (variant : Variant) (method : Method) (args : Args)
    → h.subject ≡ Tree → subject_of method ≡ Tree → are_small args ≡ true
    → IsSound h (just_called method) (procedure_of h variant method args)
procedure_sound h variant method args is of small =
    by_method_sound h variant method args is of (small_a args small) (small_b args small)
  where
    small_a : (args : Args) → are_small args ≡ true → args.a < 2 ^ 63
    small_a args small = grind (arith, nat_tests)

    small_b : (args : Args) → are_small args ≡ true → args.b < 2 ^ 63
    small_b args small = grind (arith, nat_tests)
