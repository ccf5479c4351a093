-- A walk is never lost, whatever the others do: it visits each node at most once, since every node
-- that it comes to is after
-- all that it has visited, and levels and lows of linked nodes never change.
use Rattle.vyrd_every.proofs.Prelude
use Prelude.{◌≡◌, ◌≢◌, ℕ, zero, suc, ◌+◌, ◌*◌, ◌<◌, ◌≤◌, ◌⊎◌, inl, inr, Bool, true, false, cond}
use Prelude.{min, List, [], ◌∷◌, map, refl, subst, arith, ◌==◌, ◌||◌, nat_lt, Header, Method}
use Prelude.{numbers_from, same_of, same_number, isnt_same, is_below, isnt_below, Load, Correct}
use Prelude.{Memory, Script, step, Situation, holds, level_cell, count_cell, bound_cell, right_cell}
use Prelude.{value_cell, lock_of, unlock_node, Arrived, load_keys, load_values, is_past}
use Prelude.{child_place, pass_on, walk_from, holding, passing, passing_less, passing_most, zero_or}
use Prelude.{le_or, level_at, count_at, bound_at, right_at, key_at, value_at, Below, entries_at}
use Prelude.{entries_from, Covers, Entries, IsAfter, length-entries, child_is, any_from, begins_at}
use Prelude.{each_number, loaded_at, past, not_past, passed, Shape, LeadsDown, IsInner, LeadsRight}
use Prelude.{IsLinked, Grows, TreeLocals, TreeRely, TreeRight}
use Rattle.vyrd_every.proofs.Trees.Parts.{OwnsUnseen, unseen_stays, tree_rely_more, tree_rely_less}
use Rattle.vyrd_every.proofs.Trees.Parts.{tree_load, tree_take, tree_give_last}

-- Where a walk is: at a linked node at or below whose range the key is, and after all nodes that it
-- has visited; and with
-- enough visits left for all others.
pub record Walking (size : ℕ) (g : Shape) (m : Memory) (key toward left n : ℕ)
    (visited : ℕ → Bool) : Type 0 where
  pub linked : g.linked n ≡ true
  pub from : g.low n ≤ key
  pub high : toward ≤ level_at m n
  pub behind : (x : ℕ) → visited x ≡ true → (g.linked x ≡ true) × IsAfter m g.low x n
  pub enough : size ≤ left + passing visited (numbers_from 0 size)

walking_stays : (size : ℕ) (g g' : Shape) (m m' : Memory) (key toward left n : ℕ)
    (visited : ℕ → Bool) → Grows g m g' m'
    → Walking size g m key toward left n visited → Walking size g' m' key toward left n visited
walking_stays size g g' m m' key toward left n visited grows w = search arith

after_more : (m : Memory) (low : ℕ → ℕ) (x n next : ℕ) → IsAfter m low x n → IsAfter m low n next
    → IsAfter m low x next
after_more m low x n next e5 e6 = grind arith

not_after_itself : (m : Memory) (low : ℕ → ℕ) (n : ℕ) → IsAfter m low n n → ⊥
not_after_itself m low n e3 = search arith

not_visited : (size : ℕ) (g : Shape) (m : Memory) (key toward left n : ℕ) (visited : ℕ → Bool)
    → Walking size g m key toward left n visited
    → visited n ≡ false
not_visited size g m key toward left n visited w = grind (arith, left, not_after_itself)

-- what the walk has visited, with this node
abbrev pub and_node : ℕ → (ℕ → Bool) → ℕ → Bool
and_node n visited x = x == n || visited x

-- the next node of a walk
walking_on : (size : ℕ) (g : Shape) (m : Memory) (key toward left n next : ℕ) (visited : ℕ → Bool)
    → n < size
    → Walking size g m key toward (suc left) n visited
    → g.linked next ≡ true → g.low next ≤ key → toward ≤ level_at m next → IsAfter m g.low n next
    → Walking size g m key toward left next (and_node n visited)
walking_on size g m key toward left n next visited fits w linked from high after = record {
  linked = linked;
  from = from;
  high = high;
  behind = λ x seen. by_test x (x == n) refl seen;
  enough = (let more = passing_less visited (and_node n visited) 0 size n
      (λ i lo hi e. cc (or_true (i == n))) (omega arith) (omega (arith, fits))
      (not_visited size g m key toward (suc left) n visited w)
      (cc (same_number n)) in
      let enough = w.enough in omega arith);
}
  where
    or_true : (b : Bool) → (b || true) ≡ true
    or_true b = search arith

    by_test : (x : ℕ) → (b : Bool) → (x == n) ≡ b → (b || visited x) ≡ true → (g.linked x ≡ true)
        × IsAfter m g.low x next
    by_test x b e seen = search (same_of, after, after_more, arith)

-- while a walk is somewhere, it has a visit left
some_left : (size : ℕ) (g : Shape) (m : Memory) (key toward n : ℕ) (visited : ℕ → Bool) → n < size
    → Walking size g m key toward 0 n visited → ⊥
some_left size g m key toward n visited fits w =
    let less = passing_less visited (λ x. true) 0 size n (λ i lo hi e. refl) (omega arith)
    (omega (arith, fits))
    (not_visited size g m key toward 0 n visited w) refl in
    let most = passing_most (λ x. true) 0 size in
    let enough = w.enough in
    omega arith

-- A node whose lock is held, from the moment on when it was taken.
pub record AtNode (h : Header) (s : Situation) (k : TreeLocals) (g : Shape) (m : Memory)
    (n : ℕ) : Type 0 where
  pub linked : g.linked n ≡ true
  pub held : holds s (lock_of h n) ≡ true
  pub out : s.in_block ≡ false
  pub unseen : OwnsUnseen h k g m

-- a word of it is loaded: it is as it was when the lock was taken
pub load_node : (h : Header) (s : Situation) (k : TreeLocals) (g : Shape) (m : Memory) (n place : ℕ)
    (rest : ℕ → Script) → AtNode h s k g m n → place < 12
    → ((g' : Shape) → (m' : Memory) → TreeRely h s k g m g' m'
    → TreeRight h s k g' m' (rest (m (12 * n + place))))
    → (g' : Shape) → (m' : Memory) → TreeRely h s k g m g' m'
    → TreeRight h s k g' m' (step (Load (12 * n + place)) rest)
load_node h s k g m n place rest at low later g' m' rely =
    tree_load h s k _ _ _ rest rely.tree (unseen_stays h s k g m _ _ at.unseen rely)
    (inl (record {
      node = n;
      place = place;
      is = refl;
      low = low;
      linked = rely.grows.linked n at.linked;
      may = inl at.held;
    })) at.out (λ g'' m'' rely'. rw (rely.held n place at.linked at.held low)
    (later g'' m'' (tree_rely_more h s k g g' _ m m' _ rely rely')))

-- what comes next does right, however others have gone on
abbrev pub Onward : Header → Situation → TreeLocals → Shape → Memory → Script → Type 0
Onward h s k g m script = (g' : Shape) → (m' : Memory) → TreeRely h s k g m g' m'
    → TreeRight h s k g' m' script

pub keys_right : (h : Header) (s : Situation) (k : TreeLocals) (g : Shape) (m : Memory) (n : ℕ)
    → AtNode h s k g m n
    → (many place : ℕ) (loaded : List ℕ → Script) → place + many ≤ 4
    → Onward h s k g m (loaded (map (key_at m n) (numbers_from place many)))
    → Onward h s k g m (load_keys many n place loaded)
keys_right h s k g m n at zero place loaded low later = later
keys_right h s k g m n at (suc many) place loaded low later = load_node h s k g m n _
    (λ key. load_keys many n (place + 1) (λ keys. loaded (key ∷ keys))) at (omega (arith, low))
    (keys_right h s k g m n at many (place + 1) (λ keys. loaded (key_at m n place ∷ keys))
    (omega (arith, low)) later)

pub values_right : (h : Header) (s : Situation) (k : TreeLocals) (g : Shape) (m : Memory) (n : ℕ)
    → AtNode h s k g m n
    → (many place : ℕ) (loaded : Entries → Script) → place + many ≤ 4
    → Onward h s k g m (loaded (entries_from m n place many))
    → Onward h s k g m (load_values (map (key_at m n) (numbers_from place many)) n place loaded)
values_right h s k g m n at zero place loaded low later = later
values_right h s k g m n at (suc many) place loaded low later = load_node h s k g m n _
    (λ value. load_values (map (key_at m n) (numbers_from (place + 1) many)) n (place + 1)
    (λ entries. loaded ((key_at m n place, value) ∷ entries))) at (omega (arith, low))
    (values_right h s k g m n at many (place + 1)
    (λ entries. loaded ((key_at m n place, value_at m n place) ∷ entries)) (omega (arith, low))
    later)

-- the child of a node that the key belongs to
pub record IsBelow (g : Shape) (m : Memory) (n key child : ℕ) : Type 0 where
  pub linked : g.linked child ≡ true
  pub lower : level_at m child + 1 ≡ level_at m n
  pub from : g.low child ≤ key

inner_of : (size : ℕ) (g : Shape) (m : Memory) (n : ℕ) → IsLinked size g m → g.linked n ≡ true
    → level_at m n ≢ 0 → 2 ≤ count_at m n
inner_of size g m n tree linked some = grind (arith, length-entries)

below_of_node : (size : ℕ) (g : Shape) (m : Memory) (n key : ℕ) → IsLinked size g m → g.linked n
    ≡ true → level_at m n ≢ 0 → g.low n ≤ key
    → IsBelow g m n key
    (value_at m n (child_place key (map (key_at m n) (numbers_from 0 (count_at m n)))))
below_of_node size g m n key tree linked some from =
    let i : IsInner g m (level_at m n) (g.low n) (entries_at m n) = (tree.entries n linked).inner
    some in
    let two : 2 ≤ count_at m n = inner_of size g m n tree linked some in
    let first : key_at m n 0 ≡ g.low n = begins_at (key_at m n) (value_at m n) (g.low n) 0
    (count_at m n) i.first in
    let place : ℕ = child_place key (map (key_at m n) (numbers_from 0 (count_at m n))) in
    let found = child_is (key_at m n) key 0 (count_at m n)
    (any_from (key_at m n) key 0 (count_at m n) (omega arith) (omega arith)) in
    let at : 0 + place ≡ place = omega arith in
    let it : LeadsDown g m (level_at m n) (key_at m n place, value_at m n place) =
    subst (λ j. LeadsDown g m (level_at m n) (key_at m n j, value_at m n j)) at
    (each_number (LeadsDown g m (level_at m n)) (λ j. (key_at m n j, value_at m n j)) 0
    (count_at m n) place i.child found.0) in
    record {
      linked = it.linked;
      lower = it.lower;
      from = (let key_is = it.key_is in let le : key_at m n place
          ≤ key = subst (λ j. key_at m n j ≤ key) at found.1 in omega arith);
    }

least : (a : ℕ) → a ≤ 4 → min a 4 ≡ a
least a le = omega arith

-- At a node, with its lock held: right, down, or there. It is never lost here.
visit_right : (h : Header) (method : Method) (committed : Bool) (key toward : ℕ) (k : TreeLocals)
    (g : Shape) (m : Memory) (n : ℕ) (lost : Script)
    (visit : ℕ → Script) (arrived : Arrived → Script) → IsLinked h.size g m
    → AtNode h (holding (lock_of h n ∷ []) method committed false) k g m n
    → g.low n ≤ key → toward ≤ level_at m n
    → ((next : ℕ) → g.linked next ≡ true → g.low next ≤ key → toward ≤ level_at m next
    → IsAfter m g.low n next
    → Onward h (holding [] method committed false) k g m (visit next))
    → (level_at m n ≡ toward → Covers m g.low n key
    → Onward h (holding (lock_of h n ∷ []) method committed false) k g m (arrived (loaded_at m n)))
    → Onward h (holding (lock_of h n ∷ []) method committed false) k g m
    (pass_on h Correct key toward n (level_at m n) (count_at m n) (bound_at m n)
    (right_at m n) lost visit arrived)
visit_right h method committed key toward k g m n lost visit arrived tree at from high goes_on
    there = grind (
      arith,
      least (count_at m n) (tree.few n at.linked),
      by_bound
          (zero_or (bound_at m n)) (le_or (bound_at m n) key),
    )
  where
    s : Situation
    s = holding (lock_of h n ∷ []) method committed false

    free : Situation
    free = holding [] method committed false

    Goal : Bool → Bool → Type 0
    Goal a b = Onward h s k g m (passed h key n (level_at m n) (count_at m n) (bound_at m n)
        (right_at m n) lost visit arrived a b)

    -- the node is unlocked, and the next one visited
    leave : (next : ℕ) → Onward h free k g m (visit next)
        → Onward h s k g m (unlock_node h n (visit next))
    leave next onward g' m' rely = tree_give_last h method committed k g' m' (lock_of h n)
        (visit next) rely.tree (unseen_stays h s k g m g' m' at.unseen rely)
        (λ g'' m'' rely'. onward g'' m''
        (tree_rely_more h free k g g' g'' m m' m''
        (tree_rely_less h s free k g g' m m' (λ lock e. cc) rely) rely'))

    down : toward < level_at m n → Goal false true
    down above = keys_right h s k g m n at (count_at m n) 0 after
        (few (count_at m n) (tree.few n at.linked))
        (rw (isnt_same (count_at m n) 0 (omega (arith, two)))
        (load_node h s k g m n (8 + place) (λ child. unlock_node h n (visit child)) at
        (place_low place (count_at m n) placed (tree.few n at.linked))
        (leave (value_at m n place)
        (goes_on (value_at m n place) child.linked child.from
        (let lower = child.lower in omega (arith, above))
        (inl (let lower = child.lower in omega arith))))))
      where
        some : level_at m n ≢ 0
        some e = omega (arith, above, e)

        two : 2 ≤ count_at m n
        two = inner_of h.size g m n tree at.linked some

        place : ℕ
        place = child_place key (map (key_at m n) (numbers_from 0 (count_at m n)))

        child : IsBelow g m n key
            (value_at m n (child_place key (map (key_at m n) (numbers_from 0 (count_at m n)))))
        child = below_of_node h.size g m n key tree at.linked some from

        placed : child_place key (map (key_at m n) (numbers_from 0 (count_at m n))) < count_at m n
        placed =
            let first : key_at m n 0 ≡ g.low n = begins_at (key_at m n) (value_at m n) (g.low n) 0
            (count_at m n) ((tree.entries n at.linked).inner some).first in
            (child_is (key_at m n) key 0 (count_at m n)
            (any_from (key_at m n) key 0 (count_at m n) (omega (arith, two))
            (omega (arith, first, from)))).0

        few : (c : ℕ) → c ≤ 4 → 0 + c ≤ 4
        few c le = omega arith

        place_low : (p c : ℕ) → p < c → c ≤ 4 → 8 + p < 12
        place_low p c lt le = omega arith

        onward : Script
        onward = step
            (Load (value_cell n
            (child_place key (map (key_at m n) (numbers_from 0 (count_at m n))))))
            (λ child. unlock_node h n (visit child))

        after : List ℕ → Script
        after keys = cond (count_at m n == 0) (unlock_node h n lost)
            (step (Load (value_cell n (child_place key keys)))
            (λ child. unlock_node h n (visit child)))

    here : level_at m n ≡ toward → Below key (bound_at m n) → Goal false false
    here level below = keys_right h s k g m n at (count_at m n) 0
        (λ keys. load_values keys n 0 (λ entries. arrived (it entries)))
        (few (count_at m n) (tree.few n at.linked))
        (values_right h s k g m n at (count_at m n) 0 (λ entries. arrived (it entries))
        (few (count_at m n) (tree.few n at.linked))
        (there level (record { from = from; to = below })))
      where
        it : Entries → Arrived
        it entries = record {
          node = n;
          level = level_at m n;
          bound = bound_at m n;
          right = right_at m n;
          entries = entries;
        }

        few : (c : ℕ) → c ≤ 4 → 0 + c ≤ 4
        few c le = omega arith

    by_level : Below key (bound_at m n) → (level_at m n ≤ toward) ⊎ (toward < level_at m n)
        → Goal false (nat_lt toward (level_at m n))
    by_level below (inl le) = grind (arith, isnt_below, here, below)
    by_level below (inr above) = grind (arith, is_below toward (level_at m n) above, down above)

    right : bound_at m n ≢ 0 → bound_at m n ≤ key → Goal true (nat_lt toward (level_at m n))
    right some le =
        let on : LeadsRight g m n = tree.link n at.linked
        (λ none. some (tree.ends n at.linked none)) in
        let begins : g.low (right_at m n) ≡ bound_at m n = on.begins in
        let above : g.low n < bound_at m n = on.above in
        let same : level_at m (right_at m n) ≡ level_at m n = on.same_level in
        leave (right_at m n) (goes_on (right_at m n) on.linked (omega arith) (omega arith)
        (inr (same, omega arith)))

    inside : Below key (bound_at m n) → Goal (is_past (bound_at m n) key)
        (nat_lt toward (level_at m n))
    inside below = rw (not_past (bound_at m n) key below)
        (by_level below (le_or (level_at m n) toward))

    by_bound : (bound_at m n ≡ 0) ⊎ (bound_at m n ≢ 0) → (bound_at m n ≤ key) ⊎ (key < bound_at m n)
        → Goal (is_past (bound_at m n) key) (nat_lt toward (level_at m n))
    by_bound (inl none) place = inside (λ some. absurd (some none))
    by_bound (inr some) (inr lt) = inside (λ some. lt)
    by_bound (inr some) (inl le) = rw (past (bound_at m n) key some le) (right some le)

-- Where a walk arrives: at the node of its level that has the key in its range, with the lock held
-- and the node loaded as it
-- is. From the walk's beginning on others have gone on.
abbrev pub Arrives : Header → Method → Bool → TreeLocals → Shape → Memory → ℕ → ℕ
    → (Arrived → Script) → Type 0
Arrives h method committed k g m key toward arrived = (n : ℕ) (g' : Shape) (m' : Memory)
    → TreeRely h (holding [] method committed false) k g m g' m'
    → AtNode h (holding (lock_of h n ∷ []) method committed false) k g' m' n → level_at m' n
    ≡ toward → Covers m' g'.low n key
    → Onward h (holding (lock_of h n ∷ []) method committed false) k g' m'
    (arrived (loaded_at m' n))

-- A walk with enough visits left arrives, whatever `lost` would do.
pub walk_right : (h : Header) (method : Method) (committed : Bool) (key toward : ℕ) (k : TreeLocals)
    (g : Shape) (m : Memory) (lost : Script)
    (arrived : Arrived → Script) → OwnsUnseen h k g m
    → Arrives h method committed k g m key toward arrived
    → (left n : ℕ) (visited : ℕ → Bool) (g' : Shape) (m' : Memory)
    → TreeRely h (holding [] method committed false) k g m g' m'
    → Walking h.size g' m' key toward left n visited
    → TreeRight h (holding [] method committed false) k g' m'
    (walk_from h Correct key toward left n lost arrived)
walk_right h method committed key toward k g m lost arrived unseen there zero n visited g' m' rely
    w = absurd (some_left h.size g' m' key toward n visited
    (fits n (rely.tree.taken n w.linked) rely.tree.last_low) w)
  where
    fits : {last : ℕ} → (n : ℕ) → n ≤ last → last < h.size → n < h.size
    fits n le lt = omega (arith, le, lt)
walk_right h method committed key toward k g m lost arrived unseen there (suc left) n visited g' m'
    rely w = visits (walk_right h method committed key toward k g m lost arrived unseen there left)
  where
    s : Situation
    s = holding (lock_of h n ∷ []) method committed false

    free : Situation
    free = holding [] method committed false

    below : {last : ℕ} → (n : ℕ) → n ≤ last → last < h.size → n < h.size
    below n le lt = omega (arith, le, lt)

    fits : n < h.size
    fits = below n (rely.tree.taken n w.linked) rely.tree.last_low

    visit : ℕ → Script
    visit next = walk_from h Correct key toward left next lost arrived

    Later : Type 0
    Later = (n : ℕ) (visited : ℕ → Bool) (g' : Shape) (m' : Memory) → TreeRely h free k g m g' m'
        → Walking h.size g' m' key toward left n visited → TreeRight h free k g' m' (visit n)

    -- once the lock is taken
    under : Later → (a : Shape) (x : Memory) → TreeRely h s k g' m' a x
        → TreeRight h s k a x
        (step (Load (level_cell n))
        (λ level. step (Load (count_cell n)) (λ count. step (Load (bound_cell n)) (λ bound.
        step (Load (right_cell n))
        (λ right. pass_on h Correct key toward n level count bound right lost visit arrived)))))
    under later a x taken = load_node h s k a x n 0
        (λ level. step (Load (count_cell n))
        (λ count. step (Load (bound_cell n))
        (λ bound. step (Load (right_cell n))
        (λ right. pass_on h Correct key toward n level count bound right lost visit arrived)))) at
        (omega arith)
        (load_node h s k a x n 1
        (λ count. step (Load (bound_cell n))
        (λ bound. step (Load (right_cell n))
        (λ right. pass_on h Correct key toward n (level_at x n) count bound right lost visit
        arrived))) at (omega arith)
        (load_node h s k a x n 2
        (λ bound. step (Load (right_cell n))
        (λ right. pass_on h Correct key toward n (level_at x n) (count_at x n) bound right lost
        visit arrived)) at (omega arith)
        (load_node h s k a x n 3
        (λ right. pass_on h Correct key toward n (level_at x n) (count_at x n) (bound_at x n) right
        lost visit arrived) at (omega arith)
        (visit_right h method committed key toward k a x n lost visit arrived taken.tree at
        here.from here.high
        (λ next linked from high after b y go. later next (and_node n visited) b y
        (tree_rely_more h free k g a b m x y begun go)
        (walking_stays h.size a b x y key toward left next (and_node n visited) go.grows
        (walking_on h.size a x key toward left n next visited fits here linked from high after)))
        (λ level over. there n a x begun at level over))))) a x (same taken)
      where
        begun : TreeRely h free k g m a x
        begun = tree_rely_more h free k g g' a m m' x rely
            (tree_rely_less h s free k g' a m' x (λ lock e. cc) taken)

        here : Walking h.size a x key toward (suc left) n visited
        here = walking_stays h.size g' a m' x key toward (suc left) n visited taken.grows w

        at : AtNode h s k a x n
        at = grind (
          arith,
          here.linked,
          same_number (lock_of h n),
          unseen_stays h free k g m a x
              unseen begun,
        )

        same : TreeRely h s k g' m' a x → TreeRely h s k a x a x
        same r = grind (arith, r.tree, r.calm)

    visits : Later → TreeRight h free k g' m'
        (walk_from h Correct key toward (suc left) n lost arrived)
    visits later = rw (is_below n h.size fits)
        (tree_take h free k g' m' (lock_of h n)
        (step (Load (level_cell n))
        (λ level. step (Load (count_cell n))
        (λ count. step (Load (bound_cell n))
        (λ bound. step (Load (right_cell n))
        (λ right. pass_on h Correct key toward n level count bound right lost visit arrived)))))
        rely.tree (unseen_stays h free k g m g' m' unseen rely) (λ held e. cc) (under later))
