-- Where parts of the procedures come to, played alone: to one memory, whatever is given to follow.
use Rattle.vyrd_tree.proofs.Prelude
use Prelude.{◌≡◌, ℕ, zero, suc, ◌+◌, ◌⊎◌, inl, inr, Bool, true, false, cond, List, [], ◌∷◌, map}
use Prelude.{length, Option, None, refl, ◌∙◌, ◌==◌, nat_lt, nat_le, min, drop, Header, Kind}
use Prelude.{BlockOpen, BlockClose, numbers_from, Load, Store, Take, Mark, Correct, Script, step}
use Prelude.{perform, Memory, with_cell, Outcome, alone, level_cell, count_cell, bound_cell}
use Prelude.{right_cell, value_cell, root_cell, used_cell, lock_of, root_lock, used_lock}
use Prelude.{unlock_node, unlock_root, unlock_used, Arrived, child_place, moves_right, to_child}
use Prelude.{descend, load_rest, arrive, pass_on, visit_node, walk_from, with_unused, write_entries}
use Prelude.{write_node, place_below, with_entry, lower_half, upper_half, first_key, add_entry}
use Prelude.{split_entry, split_key, grow_root, add_child, ascend_once, key_at, entries_from}
use Prelude.{Entries, keys_loaded, values_loaded, GoesOn}

-- Entries are written.
pub written : (c node place : ℕ) (xs : Entries) (m : Memory)
    → (after : Memory) × ((later : Script) → alone c (write_entries node place xs later) m
    ≡ alone c later after)
written c node place [] m = (m, λ later. refl)
written c node place ((key, value) ∷ xs) m = written c node (place + 1) xs (with_cell _ _ _)

-- A full node is split.
pub node_is_split : (h : Header) (c : ℕ) (at : Arrived) (key value new : ℕ) (close : Kind)
    (m : Memory) → GoesOn close
    → (after : Memory) × ((later : Script) → alone c (split_entry h at key value new close later) m
    ≡ alone c later after)
node_is_split h c at key value new close m closes = (
  with_cell end (lock_of h at.node) 0,
  λ later. above.1 (write_entries at.node place (drop place (lower_half five)) (ended later))
      ∙ below.1 (ended later)
      ∙ closes end (alone c (unlock_node h at.node later) end),
)
  where
    place : ℕ
    place = place_below key at.entries

    five : Entries
    five = with_entry at.entries key value

    ended : Script → Script
    ended later = perform (Store (count_cell at.node) 3)
        (perform (Store (bound_cell at.node) (first_key (upper_half five)))
        (perform (Store (right_cell at.node) new)
        (perform (Mark close) (unlock_node h at.node later))))

    above : (after : Memory)
        × ((later : Script)
        → alone c (write_node new at.level at.bound at.right (upper_half five) later) m
        ≡ alone c later after)
    above = written c new 0 (upper_half five)
        (with_cell (with_cell (with_cell (with_cell m (level_cell new) at.level) (count_cell new) 2)
        (bound_cell new) at.bound) (right_cell new) at.right)

    below : (after : Memory)
        × ((later : Script)
        → alone c (write_entries at.node place (drop place (lower_half five)) later) above.0
        ≡ alone c later after)
    below = written c at.node place (drop place (lower_half five)) above.0

    end : Memory
    end = with_cell (with_cell (with_cell below.0 (count_cell at.node) 3) (bound_cell at.node)
        (first_key (upper_half five))) (right_cell at.node) new

module _ (h : Header) (c level key node : ℕ) where
  -- a script that is made from what is to follow: where the ascent stops, and where the next round
  -- begins
  abbrev Part : Type 0
  Part = Script → (ℕ → ℕ → ℕ → Script) → Script

  -- it comes to a memory where the ascent stops, or where the next round begins, or it is stuck
  abbrev pub Comes : (Script → (ℕ → ℕ → ℕ → Script) → Script) → Memory → Type 0
  Comes part m =
      ((after : Memory)
      × ((ending : Script) (next : ℕ → ℕ → ℕ → Script) → alone c (part ending next) m
      ≡ alone c ending after))
      ⊎ (((after : Memory) × (key' : ℕ) × (node' : ℕ)
      × ((ending : Script) (next : ℕ → ℕ → ℕ → Script) → alone c (part ending next) m
      ≡ alone c (next (level + 1) key' node') after))
      ⊎ ((ending : Script) (next : ℕ → ℕ → ℕ → Script) → alone c (part ending next) m ≡ None))

  stops : (m : Memory) → Comes (λ ending next. ending) m
  stops m = inl (m, λ ending next. refl)

  moved : (part part' : Part) (m : Memory)
      → ((ending : Script) (next : ℕ → ℕ → ℕ → Script) → alone c (part' ending next) m
      ≡ alone c (part ending next) m)
      → Comes part m → Comes part' m
  moved part part' m e (inl s) = inl (s.0, λ ending next. e _ _ ∙ s.1 _ _)
  moved part part' m e (inr (inl s)) = inr (inl (s.0, s.1, s.2, λ ending next. e _ _ ∙ s.3 _ _))
  moved part part' m e (inr (inr s)) = inr (inr (λ ending next. e _ _ ∙ s _ _))

  either : (b : Bool) (part part' : Part) (m : Memory) → Comes part m → Comes part' m
      → Comes (λ ending next. cond b (part ending next) (part' ending next)) m
  either true part part' m s s' = s
  either false part part' m s s' = s'

  taken : (lock : ℕ) (part : Part) (m : Memory) → Comes part (with_cell m lock (c + 1))
      → Comes (λ ending next. perform (Take lock) (part ending next)) m
  taken lock part m s = by_test (m lock == 0)
    where
      run : Bool → Script → (ℕ → ℕ → ℕ → Script) → Option Outcome
      run b ending next = cond b (alone c (part ending next) (with_cell m lock (c + 1))) None

      by_test : (b : Bool)
          → ((after : Memory) × ((ending : Script) (next : ℕ → ℕ → ℕ → Script) → run b ending next
          ≡ alone c ending after))
          ⊎ (((after : Memory) × (key' : ℕ) × (node' : ℕ)
          × ((ending : Script) (next : ℕ → ℕ → ℕ → Script) → run b ending next
          ≡ alone c (next (level + 1) key' node') after))
          ⊎ ((ending : Script) (next : ℕ → ℕ → ℕ → Script) → run b ending next ≡ None))
      by_test true = s
      by_test false = inr (inr (λ ending next. refl))

  -- an unused node is got, or there is none
  got : (part : Part) (part' : ℕ → Part) (m : Memory) → ((m' : Memory) → Comes part m')
      → ((new : ℕ) (m' : Memory) → Comes (part' new) m')
      → Comes (λ ending next. with_unused h (part ending next) (λ new. part' new ending next)) m
  got part part' m none found =
      taken _ (λ ending next. step (Load (used_cell h))
      (λ used. cond (nat_le h.size (used + 1)) (unlock_used h (part ending next))
      (perform (Store (used_cell h) (used + 1)) (unlock_used h (part' (used + 1) ending next))))) m
      (either (nat_le h.size (held (used_cell h) + 1)) (λ ending next. unlock_used h (part _ _))
      (λ ending next. perform (Store (used_cell h) (held (used_cell h) + 1))
      (unlock_used h (part' (held (used_cell h) + 1) ending next))) held (none (with_cell _ _ 0))
      (found (held (used_cell h) + 1)
      (with_cell (with_cell held (used_cell h) (held (used_cell h) + 1)) (used_lock h) 0)))
    where
      held : Memory
      held = with_cell m (used_lock h) (c + 1)

  -- a new root
  grown : (root : ℕ) (m : Memory) → Comes (λ ending next. grow_root h level key node root ending) m
  grown root m =
      got _ (λ new ending next. perform (Mark BlockOpen)
      (write_node new (level + 1) 0 0 ((0, root) ∷ (key, node) ∷ [])
      (perform (Store (root_cell h) new) (perform (Mark BlockClose) (unlock_root h ending))))) m
      (λ m. stops _)
      (λ new m. inl (
        with_cell (with_cell (full new m).0 (root_cell h) new) (root_lock h) 0,
        λ ending next.
            (full new m).1
            (perform (Store (root_cell h) new) (perform (Mark BlockClose) (unlock_root h ending))),
      ))
    where
      full : (new : ℕ) (m : Memory)
          → (after : Memory)
          × ((later : Script)
          → alone c (write_node new (level + 1) 0 0 ((0, root) ∷ (key, node) ∷ []) later) m
          ≡ alone c later after)
      full new m = written c _ 0 ((0, root) ∷ (key, node) ∷ []) _

  -- an entry in a node that has room
  added : (at : Arrived) (m : Memory)
      → Comes (λ ending next. add_entry h at key node BlockClose ending) m
  added at m = inl (
    with_cell (with_cell entries.0 (count_cell at.node) (length new)) (lock_of h at.node) 0,
    λ ending next. entries.1
        (perform (Store (count_cell at.node) (length new))
        (perform (Mark BlockClose) (unlock_node h at.node ending))),
  )
    where
      new : Entries
      new = with_entry at.entries key node

      entries : (after : Memory) × ((later : Script)
          → alone c (write_entries at.node (place_below key at.entries)
          (drop (place_below key at.entries) new) later) m ≡ alone c later after)
      entries = written c at.node (place_below key at.entries)
          (drop (place_below key at.entries) new) m

  -- where the walk has arrived
  child : (at : Arrived) (m : Memory)
      → Comes (λ ending next. add_child h level key node at ending next) m
  child at m =
      either (nat_le at.level level) (λ ending next. unlock_node h at.node ending)
      (λ ending next. cond (nat_lt (length at.entries) 4)
      (add_entry h at key node BlockClose ending)
      (with_unused h (unlock_node h at.node ending) (splits ending next))) m
      (stops (with_cell m (lock_of h at.node) 0))
      (either (nat_lt (length at.entries) 4)
      (λ ending next. add_entry h at key node BlockClose ending)
      (λ ending next. with_unused h (unlock_node h at.node ending) (splits ending next)) m
      (added at m)
      (got (λ ending next. unlock_node h at.node ending) (λ new ending next. splits ending next new)
      m
      (λ m. stops (with_cell m (lock_of h at.node) 0)) next_round))
    where
      splits : Script → (ℕ → ℕ → ℕ → Script) → ℕ → Script
      splits ending next new = split_entry h at key node new BlockClose
          (next (level + 1) (split_key at key node) new)

      next_round : (new : ℕ) (m : Memory) → Comes (λ ending next. splits ending next new) m
      next_round new m = inr (inl (
        (node_is_split h c at key node new BlockClose m (λ m later. refl)).0,
        split_key at key node,
        new,
        λ ending next. (node_is_split h c at key node new BlockClose m (λ m later. refl)).1
            (next (level + 1) (split_key at key node) new),
      ))

  -- the walk of a round
  walked : (left n : ℕ) (m : Memory)
      → Comes (λ ending next. walk_from h Correct key (level + 1) left n ending
      (λ at. add_child h level key node at ending next)) m
  walked zero n m = stops m
  walked (suc left) n m =
      either (nat_lt n h.size) (λ ending next. visit_node h Correct key (level + 1) n ending
      (visit ending next) (arrives ending next))
      (λ ending next. ending) m (visited (walked left)) (stops m)
    where
      held : Memory
      held = with_cell m (lock_of h n) (c + 1)

      given : Memory
      given = with_cell held (lock_of h n) 0

      top : ℕ
      top = held (level_cell n)

      count : ℕ
      count = min (held (count_cell n)) 4

      bound : ℕ
      bound = held (bound_cell n)

      right : ℕ
      right = held (right_cell n)

      keys : List ℕ
      keys = map (key_at held n) (numbers_from 0 count)

      at : Entries → Arrived
      at entries = record { node = n; level = top; bound = bound; right = right; entries = entries }

      arrives : Script → (ℕ → ℕ → ℕ → Script) → Arrived → Script
      arrives ending next here = add_child h level key node here ending next

      visit : Script → (ℕ → ℕ → ℕ → Script) → ℕ → Script
      visit ending next n = walk_from h Correct key (level + 1) left n ending (arrives ending next)

      down : ((n : ℕ) (m : Memory) → Comes (λ ending next. visit ending next n) m)
          → Comes (λ ending next. descend h key n count ending (visit ending next)) held
      down later = moved (λ ending next. to_child h key n count keys ending (visit ending next))
          (λ ending next. descend h key n count ending (visit ending next)) held
          (λ ending next. keys_loaded c held count n 0
          (λ keys. to_child h key n count keys ending (visit ending next)))
          (either (count == 0) (λ ending next. unlock_node h n ending)
          (λ ending next. step (Load (value_cell n (child_place key keys)))
          (λ child. unlock_node h n (visit ending next child))) held
          (stops given) (later (held (value_cell n (child_place key keys))) given))

      there : Comes (λ ending next. arrive n top count bound right (arrives ending next)) held
      there = moved (λ ending next. arrives ending next (at (entries_from held n 0 count)))
          (λ ending next. arrive n top count bound right (arrives ending next)) held
          (λ ending next. keys_loaded c held count n 0
          (λ keys. load_rest n top bound right keys (arrives ending next))
          ∙ values_loaded c held count n 0 (λ entries. arrives ending next (at entries)))
          (child (at (entries_from held n 0 count)) held)

      visited : ((n : ℕ) (m : Memory) → Comes (λ ending next. visit ending next n) m)
          → Comes (λ ending next. visit_node h Correct key (level + 1) n ending (visit ending next)
          (arrives ending next)) m
      visited later =
          taken (lock_of h n)
          (λ ending next. step (Load (level_cell n))
          (λ top. step (Load (count_cell n)) (λ count. step (Load (bound_cell n)) (λ bound.
          step (Load (right_cell n)) (λ right.
          pass_on h Correct key (level + 1) n top count bound right ending (visit ending next)
          (arrives ending next)))))) m
          (either (moves_right Correct top bound key)
          (λ ending next. unlock_node h n (visit ending next right))
          (λ ending next. cond (nat_lt (level + 1) top)
          (descend h key n count ending (visit ending next))
          (arrive n top count bound right (arrives ending next))) held
          (later right given)
          (either (nat_lt (level + 1) top)
          (λ ending next. descend h key n count ending (visit ending next))
          (λ ending next. arrive n top count bound right (arrives ending next)) held
          (down later) there))

  -- a round
  pub round_comes : (m : Memory)
      → Comes (λ ending next. ascend_once h Correct level key node ending next) m
  round_comes m =
      taken _ (λ ending next. step (Load (root_cell h))
      (λ root. cond (nat_lt root h.size) (under root ending next) (unlock_root h ending))) m
      (either (nat_lt root h.size) (under root) (λ ending next. unlock_root h ending) held
      (either (nat_le (held (level_cell root)) level)
      (λ ending next. grow_root h level key node root ending)
      (λ ending next. unlock_root h (walk root ending next)) held (grown root held)
      (walked h.size root given)) (stops given))
    where
      held : Memory
      held = with_cell m (root_lock h) (c + 1)

      given : Memory
      given = with_cell held (root_lock h) 0

      root : ℕ
      root = held (root_cell h)

      walk : ℕ → Script → (ℕ → ℕ → ℕ → Script) → Script
      walk root ending next = walk_from h Correct key (level + 1) h.size root ending
          (λ at. add_child h level key node at ending next)

      under : ℕ → Script → (ℕ → ℕ → ℕ → Script) → Script
      under root ending next = step (Load (level_cell root))
          (λ top. cond (nat_le top level) (grow_root h level key node root ending)
          (unlock_root h (walk root ending next)))
