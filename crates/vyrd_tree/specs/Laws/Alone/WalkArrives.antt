-- Proofs of laws that an impl in src/ names: no contract says what is defined here. A walk that is
-- played alone arrives: at the node of its level that has the key in its range, with that node's
-- lock held and everything else as it was.
use Rattle.std.proofs.Common.{◌≡◌, ◌≢◌, ℕ, zero, suc, ◌+◌, ◌*◌, ◌<◌, ◌≤◌, ◌⊎◌, inl, inr, Bool, true}
use Rattle.std.proofs.Common.{false, cond, min, List, map, Option, ◌∙◌, sym, subst, arith}
use Rattle.std.specs.Prelude.{◌==◌, nat_lt}
use Rattle.std.proofs.lemmas.Bool.Decides.{nat_tests}
use Rattle.vyrd_base.specs.declared.header.Header.{Header}
use Rattle.vyrd_base.specs.Places.{numbers_from}
use Rattle.vyrd_base.proofs.TestLaws.{isnt_same, is_below, isnt_below}
use Rattle.vyrd_memory.specs.declared.act.Act.TheVariants.{Load}
use Rattle.vyrd_memory.specs.declared.op.Variant.TheVariants.{Correct}
use Rattle.vyrd_memory.specs.Scripts.{Script, step}
use Rattle.vyrd_memory.specs.Alone.{Memory, with_cell, Outcome, alone}
use Rattle.vyrd_memory.proofs.Memories.{other_cell}
use Rattle.vyrd_tree.specs.Laws.Alone.Counts.{zero_or, le_or}
use Rattle.vyrd_tree.specs.Contents.{level_at, count_at, bound_at, right_at, key_at, value_at}
use Rattle.vyrd_tree.specs.Contents.{last_in, root_in, Below, AreInner, IsChild, IsTree, entries_at}
use Rattle.vyrd_tree.specs.Contents.{Covers, Entries}
use Rattle.vyrd_tree.specs.Laws.Alone.Order.{IsAfter, after_of, after_falls, after_few, next_of}
use Rattle.vyrd_tree.specs.Laws.Alone.Tested.{length-entries}
use Rattle.vyrd_tree.specs.Laws.Alone.Changes.{SameWords, same_words_tree, covers_same}
use Rattle.vyrd_memory.proofs.AloneLaws.{take_played}
use Rattle.vyrd_tree.specs.Laws.Alone.Played.{unlocked, keys_loaded, values_loaded}
use Rattle.vyrd_tree.specs.Laws.Alone.Played.{child_is, any_from, begins_at, each_number}
use Rattle.vyrd_tree.specs.Cells.{level_cell, count_cell, bound_cell, right_cell, lock_of}
use Rattle.vyrd_tree.specs.Cells.{value_cell, unlock_node}
use Rattle.vyrd_tree.specs.Procedures.Walk.{Arrived, load_values, is_past, child_place, descend}
use Rattle.vyrd_tree.specs.Procedures.Walk.{arrive, pass_on, visit_node, walk_from}
use Rattle.vyrd_tree.specs.Procedures.{walk_down}

-- a node as it is loaded
abbrev pub loaded_at : Memory → ℕ → Arrived
loaded_at m n = record {
  node = n;
  level = level_at m n;
  bound = bound_at m n;
  right = right_at m n;
  entries = entries_at m n;
}

-- the memory with the lock of a node held
abbrev pub with_lock : Header → ℕ → Memory → ℕ → Memory
with_lock h c m n = with_cell m (lock_of h n) (c + 1)

-- all locks of nodes are free
abbrev pub FreeNodes : Header → Memory → Type 0
FreeNodes h m = (n : ℕ) → n < h.size → m (lock_of h n) ≡ 0

-- a lock changes no plain word
pub locked_words : (h : Header) (c : ℕ) (m : Memory) (n : ℕ)
    → SameWords h.size m (with_lock h c m n)
locked_words h c m n cell low = other_cell m (lock_of h n) (c + 1) cell (omega (arith, low))

-- where a walk goes on or arrives
abbrev pub ArrivesAt : Header → ℕ → Memory → (ℕ → ℕ) → ℕ → ℕ → (Arrived → Script)
    → (Option Outcome → Type 0) → Type 0
ArrivesAt h c m low key toward arrived Q =
    (n : ℕ) → n ≤ last_in h.size m → level_at m n ≡ toward → Covers m low n key
    → Q (alone c (arrived (loaded_at (with_lock h c m n) n)) (with_lock h c m n))

pub past : (bound key : ℕ) → bound ≢ 0 → bound ≤ key → is_past bound key ≡ true
past bound key some le = grind (arith, nat_tests)

pub not_past : (bound key : ℕ) → Below key bound → is_past bound key ≡ false
not_past bound key below = by_zero (zero_or bound)
  where
    none : (bound key : ℕ) → bound ≡ 0 → is_past bound key ≡ false
    none bound key e = grind (arith, nat_tests)

    some : (bound key : ℕ) → key < bound → is_past bound key ≡ false
    some bound key lt = grind (arith, nat_tests)

    by_zero : (bound ≡ 0) ⊎ (bound ≢ 0) → is_past bound key ≡ false
    by_zero (inl e) = none bound key e
    by_zero (inr e) = some bound key (below e)

least : (a : ℕ) → a ≤ 4 → min a 4 ≡ a
least a le = omega arith

-- the child of a node that the key belongs to
pub record IsNext (size : ℕ) (m : Memory) (low : ℕ → ℕ) (n key child : ℕ) : Type 0 where
  pub in_use : child ≤ last_in size m
  pub lower : level_at m child + 1 ≡ level_at m n
  pub from : low child ≤ key

child_of : (size : ℕ) (m : Memory) (low : ℕ → ℕ) (n key : ℕ) → IsTree size m low
    → n ≤ last_in size m → level_at m n ≢ 0 → low n ≤ key
    → IsNext size m low n key
    (value_at m n (child_place key (map (key_at m n) (numbers_from 0 (count_at m n)))))
child_of size m low n key t used some from =
    let i : AreInner (last_in size m) (level_at m) low (level_at m n) (low n) (entries_at m n) =
    (t.entries n used).inner some in
    let two : 2 ≤ count_at m n = subst (λ c. 2 ≤ c) (length-entries m n 0 (count_at m n)) i.two in
    let first : key_at m n 0 ≡ low n =
    begins_at (key_at m n) (value_at m n) (low n) 0 (count_at m n) i.first in
    let place : ℕ = child_place key (map (key_at m n) (numbers_from 0 (count_at m n))) in
    let found = child_is (key_at m n) key 0 (count_at m n)
    (any_from (key_at m n) key 0 (count_at m n) (omega arith) (omega arith)) in
    let at : 0 + place ≡ place = omega arith in
    let it : IsChild (last_in size m) (level_at m) low (level_at m n)
    (key_at m n place, value_at m n place) =
    subst
    (λ j. IsChild (last_in size m) (level_at m) low (level_at m n) (key_at m n j, value_at m n j))
    at
    (each_number (IsChild (last_in size m) (level_at m) low (level_at m n))
    (λ j. (key_at m n j, value_at m n j)) 0 (count_at m n) place i.child found.0) in
    record {
      in_use = it.in_use;
      lower = it.lower;
      from = (let key_is = it.key_is in
          let le : key_at m n place ≤ key = subst (λ j. key_at m n j ≤ key) at found.1 in
          omega arith);
    }

-- what is done at a node, by the two tests
abbrev pub passed : Header → ℕ → ℕ → ℕ → ℕ → ℕ → ℕ → Script → (ℕ → Script) → (Arrived → Script)
    → Bool → Bool → Script
passed h key node level many bound right lost visit arrived past above =
    cond past (unlock_node h node (visit right))
    (cond above (descend h key node many lost visit) (arrive node level many bound right arrived))

descend_played : (h : Header) (c key : ℕ) (m : Memory) (low : ℕ → ℕ) (n : ℕ) (lost : Script)
    (visit : ℕ → Script) (Q : Option Outcome → Type 0)
    → IsTree h.size m low → n ≤ last_in h.size m → level_at m n ≢ 0 → low n ≤ key
    → ((child : ℕ) → IsNext h.size m low n key child
    → Q (alone c (visit child) (with_cell m (lock_of h n) 0)))
    → Q (alone c (descend h key n (count_at m n) lost visit) m)
descend_played h c key m low n lost visit Q t used some from goes_on =
    subst Q (sym (keys_loaded c m (count_at m n) n 0 after)) (subst
    (λ b. Q (alone c (cond b (unlock_node h n lost) onward) m))
    (sym (isnt_same (count_at m n) 0 (omega (arith, two))))
    (goes_on (m (value_cell n (child_place key (map (key_at m n) (numbers_from 0 (count_at m n))))))
    (child_of h.size m low n key t used some from)))
  where
    two : 2 ≤ count_at m n
    two =
        subst (λ c. 2 ≤ c) (length-entries m n 0 (count_at m n)) ((t.entries n used).inner some).two

    onward : Script
    onward = step
        (Load (value_cell n (child_place key (map (key_at m n) (numbers_from 0 (count_at m n))))))
        (λ child. unlock_node h n (visit child))

    after : List ℕ → Script
    after keys = cond (count_at m n == 0) (unlock_node h n lost)
        (step (Load (value_cell n (child_place key keys))) (λ child. unlock_node h n (visit child)))

arrive_played : (c : ℕ) (m : Memory) (n : ℕ) (arrived : Arrived → Script)
    → alone c (arrive n (level_at m n) (count_at m n) (bound_at m n) (right_at m n) arrived) m
    ≡ alone c (arrived (loaded_at m n)) m
arrive_played c m n arrived =
    keys_loaded c m (count_at m n) n 0
    (λ keys. load_values keys n 0 (λ entries. arrived (it entries)))
    ∙ values_loaded c m (count_at m n) n 0 (λ entries. arrived (it entries))
  where
    it : Entries → Arrived
    it entries = record {
      node = n;
      level = level_at m n;
      bound = bound_at m n;
      right = right_at m n;
      entries = entries;
    }

-- at a node, with its lock held: right, down, or there
visit_played : (h : Header) (c key toward : ℕ) (m : Memory) (low : ℕ → ℕ) (n : ℕ) (lost : Script)
    (visit : ℕ → Script) (arrived : Arrived → Script) (Q : Option Outcome → Type 0)
    → IsTree h.size m low → n ≤ last_in h.size m → low n ≤ key → toward ≤ level_at m n
    → ((next : ℕ) → next ≤ last_in h.size m → low next ≤ key → toward ≤ level_at m next
    → IsAfter m low n next → Q (alone c (visit next) (with_cell m (lock_of h n) 0)))
    → (level_at m n ≡ toward → Covers m low n key → Q (alone c (arrived (loaded_at m n)) m))
    → Q (alone c (pass_on h Correct key toward n (level_at m n) (count_at m n) (bound_at m n)
    (right_at m n) lost visit arrived) m)
visit_played h c key toward m low n lost visit arrived Q t used from high goes_on there =
    subst
    (λ many. Q (alone c (passed h key n (level_at m n) many (bound_at m n) (right_at m n) lost visit
    arrived (is_past (bound_at m n) key) (nat_lt toward (level_at m n))) m))
    (sym (least (count_at m n) (t.few n used)))
    (by_bound (zero_or (bound_at m n)) (le_or (bound_at m n) key))
  where
    last : ℕ
    last = last_in h.size m

    Goal : Bool → Bool → Type 0
    Goal a b = Q (alone c (passed h key n (level_at m n) (count_at m n) (bound_at m n)
        (right_at m n) lost visit arrived a b) m)

    down : toward < level_at m n → (child : ℕ) → IsNext h.size m low n key child
        → Q (alone c (visit child) (with_cell m (lock_of h n) 0))
    down above child next =
        let lower : level_at m child + 1 ≡ level_at m n = next.lower in
        goes_on child next.in_use next.from (omega arith) (inl (omega arith))

    by_level : Below key (bound_at m n) → (level_at m n ≤ toward) ⊎ (toward < level_at m n)
        → Goal false (nat_lt toward (level_at m n))
    by_level below (inl le) =
        subst (Goal false) (sym (isnt_below toward (level_at m n) le))
        (subst Q (sym (arrive_played c m n arrived))
        (there (omega (arith, high, le)) (record { from = from; to = below })))
    by_level below (inr above) =
        subst (Goal false) (sym (is_below toward (level_at m n) above))
        (descend_played h c key m low n lost visit Q t used (omega (arith, above)) from
        (down above))

    right : bound_at m n ≢ 0 → bound_at m n ≤ key
        → Q (alone c (visit (right_at m n)) (with_cell m (lock_of h n) 0))
    right some le =
        let on = next_of h.size m low t n used some in
        let begins : low (right_at m n) ≡ bound_at m n = on.begins in
        let above : low n < bound_at m n = on.above in
        let same : level_at m (right_at m n) ≡ level_at m n = on.same_level in
        goes_on (right_at m n) on.in_use (omega arith) (omega arith) (inr (same, omega arith))

    inside : Below key (bound_at m n)
        → Goal (is_past (bound_at m n) key) (nat_lt toward (level_at m n))
    inside below =
        subst (λ a. Goal a (nat_lt toward (level_at m n))) (sym (not_past (bound_at m n) key below))
        (by_level below (le_or (level_at m n) toward))

    by_bound : (bound_at m n ≡ 0) ⊎ (bound_at m n ≢ 0) → (bound_at m n ≤ key) ⊎ (key < bound_at m n)
        → Goal (is_past (bound_at m n) key) (nat_lt toward (level_at m n))
    by_bound (inl none) place = inside (λ some. absurd (some none))
    by_bound (inr some) (inr lt) = inside (λ some. lt)
    by_bound (inr some) (inl le) = subst (λ a. Goal a (nat_lt toward (level_at m n)))
        (sym (past (bound_at m n) key some le)) (right some le)

-- what is done at a node once its lock is held
abbrev under_lock : Header → ℕ → ℕ → ℕ → Script → (ℕ → Script) → (Arrived → Script) → Script
under_lock h key toward node lost visit arrived =
    step (Load (level_cell node)) (λ level. step (Load (count_cell node))
    (λ count. step (Load (bound_cell node)) (λ bound. step (Load (right_cell node)) (λ right.
    pass_on h Correct key toward node level count bound right lost visit arrived))))

-- A walk from a node that begins at the key or below it, with more visits left than there are nodes
-- after that node.
pub walk_arrives : (h : Header) (c key toward : ℕ) (m : Memory) (low : ℕ → ℕ) (lost : Script)
    (arrived : Arrived → Script) (Q : Option Outcome → Type 0)
    → IsTree h.size m low → FreeNodes h m → ArrivesAt h c m low key toward arrived Q → (left n : ℕ)
    → n ≤ last_in h.size m → low n ≤ key → toward ≤ level_at m n
    → after_of (last_in h.size m) m low n < left
    → Q (alone c (walk_from h Correct key toward left n lost arrived) m)
walk_arrives h c key toward m low lost arrived Q t free there zero n used from high more =
    absurd (omega (arith, more))
walk_arrives h c key toward m low lost arrived Q t free there (suc left) n used from high more =
    visited (walk_arrives h c key toward m low lost arrived Q t free there left)
  where
    fits : n < h.size
    fits = (let fits = t.last_low in omega (arith, used))

    visit : ℕ → Script
    visit next = walk_from h Correct key toward left next lost arrived

    held : Memory
    held = with_lock h c m n

    same : SameWords h.size m held
    same = locked_words h c m n

    back : SameWords h.size held m
    back cell low = sym (same cell low)

    last_same : last_in h.size held ≡ last_in h.size m
    last_same = same (12 * h.size + 1) (omega arith)

    level_same : (a : ℕ) → a < h.size → level_at held a ≡ level_at m a
    level_same a low = same (12 * a + 0) (omega arith)

    goes_on : ((next : ℕ) → next ≤ last_in h.size m → low next ≤ key → toward ≤ level_at m next
        → after_of (last_in h.size m) m low next < left → Q (alone c (visit next) m))
        → Q (alone c (visit_node h Correct key toward n lost visit arrived) m)
    goes_on later =
        take_played c (lock_of h n) (under_lock h key toward n lost visit arrived) m Q (free n fits)
        (visit_played h c key toward held low n lost visit arrived Q
        (same_words_tree h.size m held low same t) (omega (arith, last_same, used)) from
        (let e = level_same n fits in omega (arith, e, high))
        (λ next used' from' high' falls.
        let in_use : next ≤ last_in h.size m = omega (arith, last_same, used') in
        let low_next : next < h.size = (let fits = t.last_low in omega (arith, in_use)) in
        unlocked c (visit next) m (lock_of h n) (c + 1) Q (free n fits)
        (later next in_use from' (let e = level_same next low_next in omega (arith, e, high'))
        (fewer next in_use falls)))
        (λ level over. there n used (sym (level_same n fits) ∙ level)
        (covers_same h.size held m low n key back fits over)))
      where
        is_after : (next : ℕ) → next < h.size → IsAfter held low n next → IsAfter m low n next
        is_after next low_next (inl lt) = inl (let e = level_same next low_next in
            let f = level_same n fits in omega (arith, lt, e, f))
        is_after next low_next (inr both) =
            inr (sym (level_same next low_next) ∙ both.0 ∙ level_same n fits, both.1)

        fewer : (next : ℕ) → next ≤ last_in h.size m → IsAfter held low n next
            → after_of (last_in h.size m) m low next < left
        fewer next in_use later =
            let falls = after_falls (last_in h.size m) m low n next in_use
            (is_after next (let fits = t.last_low in omega (arith, in_use)) later) in
            omega (arith, falls, more)

    visited : ((next : ℕ) → next ≤ last_in h.size m → low next ≤ key → toward ≤ level_at m next
        → after_of (last_in h.size m) m low next < left → Q (alone c (visit next) m))
        → Q (alone c (walk_from h Correct key toward (suc left) n lost arrived) m)
    visited later = subst
        (λ b. Q (alone c (cond b (visit_node h Correct key toward n lost visit arrived) lost) m))
        (sym (is_below n h.size fits)) (goes_on later)

-- a walk of an operation, from the root
pub walk_down_arrives : (h : Header) (c key : ℕ) (m : Memory) (low : ℕ → ℕ) (lost : Script)
    (arrived : Arrived → Script) (Q : Option Outcome → Type 0)
    → IsTree h.size m low → FreeNodes h m → ArrivesAt h c m low key 0 arrived Q
    → Q (alone c (walk_down h Correct key lost arrived) m)
walk_down_arrives h c key m low lost arrived Q t free there =
    let root : ℕ = root_in h.size m in
    let first : low (root_in h.size m) ≡ 0 = t.root_first in
    let few = after_few (last_in h.size m) m low (root_in h.size m) t.root_in_use in
    let fits = t.last_low in
    walk_arrives h c key 0 m low lost arrived Q t free there h.size (root_in h.size m) t.root_in_use
    (omega arith) (omega arith) (omega arith)
