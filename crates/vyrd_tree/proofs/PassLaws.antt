-- What an insert has done before its ascent, and what each round of the ascent does.
use Rattle.vyrd_tree.proofs.Prelude
use Prelude.{◌≡◌, ℕ, ◌+◌, ◌*◌, ◌<◌, ◌^◌, inl, inr, Bool, true, cond, Option, Some, None, length}
use Prelude.{refl, ◌∙◌, sym, subst, arith, ◌==◌, ⊤, Header, Tree, Args, BlockCommit, same_of}
use Prelude.{is_same, isnt_below, Correct, Memory, with_cell, Outcome, state_in, alone, count_cell}
use Prelude.{used_cell, lock_of, used_lock, Arrived, split_entry, split_key, ascend_once}
use Prelude.{changes_nothing, place_of, insert_in_then, insert_then, leaf_of, is_hanging}
use Prelude.{SplitsLeaf, KeepsState, count_at, last_in, entries_at, ShowsBy, TreeRepresents}
use Prelude.{found_around, not_found, length-entries, tree_represents, tree_represented, EndsSo}
use Prelude.{loaded_at, with_lock, locked_words, walk_down_arrives, FreeAll, IsAt, is_at}
use Prelude.{unused_played, present, leaf_is_split, LeafOf, Stops, GoesOnAt, round_played}
use Rattle.vyrd_base.specs.Amounts.{Amounts, amount_of, with_amount}
use Rattle.vyrd_memory.specs.Scripts.{stop, gives_up, Script, returns}
use Rattle.vyrd_tree.proofs.GiveUps.{leaf_stands, leaf_is}
use Rattle.vyrd_tree.proofs.Onward.{node_is_split, Comes, round_comes}
use Rattle.vyrd_tree.proofs.HangingLaws.{hanging_says, hanging_passes}

-- if there is an outcome, this holds of its memory
abbrev IfEnds : (Memory → Type 0) → Option Outcome → Type 0
IfEnds says None = ⊤
IfEnds says (Some outcome) = says outcome.memory

-- The round comes to one memory, whatever is to follow. What holds there is seen with something to
-- follow that returns at once.
pub round_keeps_state : (h : Header) (c level key node : ℕ) (memory : Memory) (state : Amounts)
    → h.subject ≡ Tree
    → state_in h memory ≡ Some state → is_hanging h memory level key node ≡ true
    → KeepsState h c level key node memory state
round_keeps_state h c level key node memory state is e hangs = by_end
    (round_comes h c level key node memory)
  where
    st : TreeRepresents h memory state
    st = tree_represents h memory state is e

    represents : (m : Memory) (low : ℕ → ℕ) → ShowsBy h.size m low state → FreeAll h m
        → state_in h m ≡ Some state
    represents m low shown free = search (tree_represented, arith)

    played : (ending : Script) (next : ℕ → ℕ → ℕ → Script) (Q : Option Outcome → Type 0)
        → Stops h c state ending Q
        → GoesOnAt h c state (level + 1) next Q
        → Q (alone c (ascend_once h Correct level key node ending next) memory)
    played ending next Q at_stop at_next = round_played h c memory st.low state level key node
        ending next Q st.held st.free
        (hanging_says h memory st.low level key node is st.held.tree hangs) at_stop at_next

    at_end : (after : Memory) → ((ending : Script) (next : ℕ → ℕ → ℕ → Script)
        → alone c (ascend_once h Correct level key node ending next) memory ≡ alone c ending after)
        → state_in h after ≡ Some state
    at_end after same = subst (IfEnds Says) (same (returns 0) (λ level' key' node'. stop))
        (played (returns 0) (λ level' key' node'. stop) (IfEnds Says)
        (λ m low shown free. represents m low shown free)
        (λ m low key' node' shown free hangs'. tt))
      where
        Says : Memory → Type 0
        Says m = state_in h m ≡ Some state

    at_next : (after : Memory) (key' node' : ℕ) → ((ending : Script) (next : ℕ → ℕ → ℕ → Script)
        → alone c (ascend_once h Correct level key node ending next) memory
        ≡ alone c (next (level + 1) key' node') after)
        → (state_in h after ≡ Some state) × (is_hanging h after (level + 1) key' node' ≡ true)
    at_next after key' node' same = search (alone, after, is_same, found, arith)
      where
        Says : Memory → Type 0
        Says m = (state_in h m ≡ Some state) × (is_hanging h m (level + 1) key' node' ≡ true)

        -- it returns for this key and this node alone
        only : ℕ → ℕ → ℕ → Script
        only level'' key'' node'' = cond (key'' == key') (cond (node'' == node') (returns 0) stop)
            stop

        seen : (m : Memory) → state_in h m ≡ Some state → (key'' node'' : ℕ)
            → is_hanging h m (level + 1) key'' node'' ≡ true
            → (b b' : Bool) → (key'' == key') ≡ b → (node'' == node') ≡ b'
            → IfEnds Says (alone c (cond b (cond b' (returns 0) stop) stop) m)
        seen m keeps key'' node'' hangs' b b' same_key same_node = search (same_key, same_of, arith)

        found : IfEnds Says (alone c (only (level + 1) key' node') after)
        found = subst (IfEnds Says) (same stop only)
            (played stop only (IfEnds Says) (λ m low shown free. tt)
            (λ m low key'' node'' shown free hangs'. seen m (represents m low shown free) key''
            node'' (hanging_passes h m low (level + 1) key'' node'' is shown.tree hangs')
            (key'' == key') (node'' == node') refl refl))

    by_end : Comes h c level key node
        (λ ending next. ascend_once h Correct level key node ending next) memory
        → KeepsState h c level key node memory state
    by_end (inl s) = record { after = s.0; represents = at_end s.0 s.1; goes_on = inl s.1 }
    by_end (inr (inl s)) =
        let says = at_next s.0 s.1 s.2 s.3 in
        record {
          after = s.0;
          represents = says.0;
          goes_on = inr (record { key = s.1; node = s.2; rest = s.3; hangs = says.1 });
        }
    by_end (inr (inr s)) = absurd
        (subst (λ o. EndsSo o (λ reply after. ⊤)) (s (returns 0) (λ level' key' node'. returns 0))
        (played (returns 0) (λ level' key' node'. returns 0) (λ o. EndsSo o (λ reply after. ⊤))
        (λ m low shown free. tt) (λ m low key' node' shown free hangs'. tt)))

pub insert_splits_leaf : (h : Header) (c : ℕ) (args : Args) (memory : Memory) (state : Amounts)
    → h.subject ≡ Tree
    → state_in h memory ≡ Some state → args.a < 2 ^ 32
    → args.b < 2 ^ 32
    → amount_of state args.a ≡ 0 → memory (count_cell (leaf_of h memory args.a)) ≡ 4
    → memory (used_cell h) + 1 < h.size
    → SplitsLeaf h c args memory state
insert_splits_leaf h c args memory state is e small_key small none full room = record {
  key = key;
  leaf = u;
  after = split.0;
  rest = comes;
  represents = says.0 ∙ sym (cc);
  hangs = says.1;
}
  where
    next : Amounts
    next = with_amount state args.a (2 ^ 32 + args.b)

    st : TreeRepresents h memory state
    st = tree_represents h memory state is e

    n : ℕ
    n = leaf_of h memory args.a

    there : LeafOf h.size memory st.low args.a (leaf_of h memory args.a)
    there = leaf_stands h memory st.low args.a st.held.tree

    -- the memory where the leaf's lock is held
    m : Memory
    m = with_lock h c memory (leaf_of h memory args.a)

    at : IsAt h m st.low state n args.a 0
    at = is_at h c memory state st (leaf_of h memory args.a) args.a 0 there.in_use there.leaf
        there.covers

    fits : n < h.size
    fits = grind (arith, st.held.tree.last_low, there.in_use)

    four : count_at m n ≡ 4
    four = locked_words h c memory n (12 * n + 1) (omega (arith, fits)) ∙ full

    u : ℕ
    u = last_in h.size m + 1

    space : u < h.size
    space = grind (arith, locked_words h c memory n (12 * h.size + 1) (omega arith))

    key : ℕ
    key = split_key (loaded_at m n) args.a args.b

    is_new : place_of args.a (entries_at m n) ≡ None
    is_new = by_place (place_of args.a (entries_at m n)) refl
      where
        by_place : (o : Option ℕ) → place_of args.a (entries_at m n) ≡ o
            → place_of args.a (entries_at m n) ≡ None
        by_place None e = e
        by_place (Some i) e =
            let found = found_around args.a (entries_at m n) i e in
            absurd (let some = present h m st.low state n args.a found.0 found.2 found.1 at
            found.4 in omega (arith, none, some))

    split : (after : Memory)
        × ((later : Script)
        → alone c (split_entry h (loaded_at m n) args.a args.b u BlockCommit later)
        (with_cell m (used_cell h) u) ≡ alone c later after)
    split = search (node_is_split, arith)

    -- what is left begins with these words
    says : (state_in h split.0 ≡ Some next) × (is_hanging h split.0 0 key u ≡ true)
    says = subst Says (split.1 (returns 1))
        (leaf_is_split h c m st.low state n args.a args.b at small_key small
        (not_found args.a (entries_at m n) is_new) Says (returns 1) four space
        (λ m' low shown free hangs. (
          tree_represented h m' next is (record { low = low; held = shown; free = free }),
          hanging_passes h m' low 0 key u is shown.tree hangs,
        )))
      where
        Says : Option Outcome → Type 0
        Says o = EndsSo o (λ reply after. (state_in h after ≡ Some next)
            × (is_hanging h after 0 key u ≡ true))

    -- from the leaf, with its lock held
    in_leaf : (later : ℕ → ℕ → Script)
        → alone c (insert_in_then h args.a args.b later (loaded_at m n)
        (place_of args.a (entries_at m n))) m ≡ alone c (later key u) split.0
    in_leaf later =
        rw is_new
        (rw (isnt_below (length (entries_at m n)) 4
        (let len = length-entries m n 0 (count_at m n) in omega (arith, len, four)))
        (unused_played h c m Comes (changes_nothing h n) splitting
        (at.free (used_lock h) (omega arith) (omega arith) (omega (arith, fits)))
        (λ none_left. absurd (omega (arith, space, none_left))) (λ some. split.1 (later key u))))
      where
        Comes : Option Outcome → Type 0
        Comes o = o ≡ alone c (later key u) split.0

        splitting : ℕ → Script
        splitting new = split_entry h (loaded_at m n) args.a args.b new BlockCommit
            (later (split_key (loaded_at m n) args.a args.b) new)

    comes : (later : ℕ → ℕ → Script) → alone c (insert_then h Correct args.a args.b later) memory
        ≡ alone c (later key u) split.0
    comes later =
        walk_down_arrives h c args.a memory st.low gives_up in_this
        (λ o. o ≡ alone c (later key u) split.0) st.held.tree
        (λ n low. st.free (lock_of h n) (omega arith) (omega (arith, low)))
        (λ n' used level over. rw
        (← leaf_is h memory st.low args.a n' st.held.tree
        (record { in_use = used; leaf = level; covers = over })) (in_leaf later))
      where
        in_this : Arrived → Script
        in_this at = insert_in_then h args.a args.b later at (place_of args.a at.entries)
