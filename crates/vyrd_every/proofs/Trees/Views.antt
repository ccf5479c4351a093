-- What the linked nodes show: the chain from node 0 visits each leaf once, so a key has the amount
-- that the leaf of its range
-- gives.
use Rattle.vyrd_every.proofs.Prelude
use Prelude.{◌≡◌, ◌≢◌, ℕ, zero, suc, ◌+◌, ◌*◌, ◌<◌, ◌≤◌, ◌⊎◌, inl, inr, true, false, List, [], ◌∷◌}
use Prelude.{map, min, refl, ap, ◌∙◌, sym, subst, arith, ◌==◌, ◌||◌, nat_le, slice_index, list_any}
use Prelude.{Header, Tree, Entry, numbers_below, plain_words, Amounts, amount_of, given}
use Prelude.{ended_effects, ended_value, ended_words, view_of_words, right_of, node_parts}
use Prelude.{chain_parts_from, chain_parts, isnt_same, isnt_at_most, Memory, element_below}
use Prelude.{collected-is, zero_or, le_or, level_at, count_at, bound_at, Below, right_at, last_in}
use Prelude.{InRange, entries_at, Covers, gives, after_of, after_falls, after_few, gives_none}
use Prelude.{each_more, step_ends, step_on, shown_by, Shape, LeadsRight, IsLinked, ShowsState}
use Rattle.vyrd_every.proofs.Trees.Unused.{SameNodes, nodes_linked, nodes_state}
use Rattle.vyrd_every.proofs.Trees.Order.{one_cover_in}

zero_low_in : (size : ℕ) (g : Shape) (m : Memory) → IsLinked size g m → g.low 0 ≡ 0
zero_low_in size g m t = search (zero_or, arith)

-- the node at a right link
pub next_in : (size : ℕ) (g : Shape) (m : Memory) → IsLinked size g m → (n : ℕ) → g.linked n ≡ true
    → bound_at m n ≢ 0
    → LeadsRight g m n
next_in size g m t n used some = t.link n used (λ none. some (t.ends n used none))

-- a node of the level has the key in its range, if one begins at it or below
pub record IsCoveredIn (size : ℕ) (g : Shape) (m : Memory) (level k : ℕ) : Type 0 where
  pub node : ℕ
  pub linked : g.linked node ≡ true
  pub level_is : level_at m node ≡ level
  pub covers : Covers m g.low node k

pub covered_in_from : (size : ℕ) (g : Shape) (m : Memory) → IsLinked size g m → (fuel n k : ℕ)
    → g.linked n ≡ true → g.low n ≤ k → k < g.low n + fuel
    → IsCoveredIn size g m (level_at m n) k
covered_in_from size g m t zero n k used from to = absurd (omega (arith, from, to))
covered_in_from size g m t (suc fuel) n k used from to = by_bound
    (covered_in_from size g m t fuel (right_at m n) k) (zero_or (bound_at m n))
    (le_or (bound_at m n) k)
  where
    Onward : Type 0
    Onward = g.linked (right_at m n) ≡ true → g.low (right_at m n) ≤ k → k < g.low (right_at m n)
        + fuel → IsCoveredIn size g m (level_at m (right_at m n)) k

    here : Below k (bound_at m n) → IsCoveredIn size g m (level_at m n) k
    here below = search arith

    by_bound : Onward → (bound_at m n ≡ 0) ⊎ (bound_at m n ≢ 0) → (bound_at m n ≤ k)
        ⊎ (k < bound_at m n) → IsCoveredIn size g m (level_at m n) k
    by_bound onward (inl none) place = here (λ some. absurd (some none))
    by_bound onward (inr some) (inr lt) = here (λ some. lt)
    by_bound onward (inr some) (inl le) = search (next_in, arith)

-- each key has its leaf
pub covered_in : (size : ℕ) (g : Shape) (m : Memory) → IsLinked size g m → (k : ℕ)
    → IsCoveredIn size g m 0 k
covered_in size g m t k =
    let none = zero_low_in size g m t in
    subst (λ level. IsCoveredIn size g m level k) t.zero_leaf
    (covered_in_from size g m t (suc k) 0 k t.zero_linked (omega arith) (omega arith))

-- the parts of a node are what its entries give
pub parts_at : (size : ℕ) (g : Shape) (words : List ℕ) → IsLinked size g (slice_index words)
    → (q n : ℕ) → g.linked n ≡ true
    → given q (node_parts words n) ≡ gives q (entries_at (slice_index words) n)
parts_at size g words t q n used =
    cc (least (count_at (slice_index words) n) (t.few n used))
  where
    least : (a : ℕ) → a ≤ 4 → min a 4 ≡ a
    least a le = omega arith

-- a leaf gives nothing to a key that is not in its range
pub out_of_range : (size : ℕ) (g : Shape) (m : Memory) → IsLinked size g m → (q n : ℕ) → g.linked n
    ≡ true → level_at m n ≡ 0
    → (Covers m g.low n q → ⊥) → gives q (entries_at m n) ≡ 0
out_of_range size g m t q n used leaf out =
    let es = t.entries n used in
    gives_none q (entries_at m n) (es.leaf leaf)
    (each_more (InRange _ _) _
    (λ entry is e. out
    (record {
      from = (let from = is.0 in omega arith);
      to = λ some.
          (let to = is.1 some in omega arith);
    })) _ es.in_range)

-- a node where the chain has come, and what it has seen: no node that begins as high
pub record OnChain (size : ℕ) (g : Shape) (m : Memory) (left : ℕ) (seen : List ℕ)
    (n : ℕ) : Type 0 where
  pub linked : g.linked n ≡ true
  pub leaf : level_at m n ≡ 0
  pub more : after_of (last_in size m) m g.low n < left
  pub unseen : (x : ℕ) → g.linked x ≡ true → g.low n ≤ g.low x → list_any (λ y. y == x) seen ≡ false

pub next_on_chain : (size : ℕ) (g : Shape) (m : Memory) → IsLinked size g m
    → (left : ℕ) (seen : List ℕ) (n : ℕ) → OnChain size g m (suc left) seen n
    → LeadsRight g m n → OnChain size g m left (n ∷ seen) (right_at m n)
next_on_chain size g m t left seen n here on = record {
  linked = on.linked;
  leaf = on.same_level ∙ here.leaf;
  more = (let falls = after_falls (last_in size m) m g.low n (right_at m n)
      (t.taken (right_at m n) on.linked) (inr (on.same_level, rises)) in
      let more = here.more in omega arith);
  unseen = λ x used le. ap (λ b. b || list_any (λ y. y == x) seen)
      (isnt_same n x (λ e. (let same = ap g.low e in omega (arith, rises))))
      ∙ here.unseen x used (omega (arith, rises));
}
  where
    rises : g.low n < g.low (right_at m n)
    rises = let above = on.above in let begins = on.begins in omega arith

fresh_link : (size : ℕ) (g : Shape) (words : List ℕ) (left : ℕ) (seen : List ℕ) (n : ℕ)
    → IsLinked size g (slice_index words)
    → OnChain size g (slice_index words) left (n ∷ seen) (right_of words n)
    → (nat_le size (right_of words n) || list_any (λ y. y == right_of words n) (n ∷ seen)) ≡ false
fresh_link size g words left seen n t next =
    ap (λ b. b || list_any (λ y. y == right_of words n) (n ∷ seen))
    (isnt_at_most size (right_of words n) (let used = t.taken (right_of words n) next.linked in
    let fits = t.last_low in omega arith))
    ∙ next.unseen (right_of words n) next.linked (omega arith)

-- the chain from a node on gives nothing to a key below the node's low
chain_none : (size : ℕ) (g : Shape) (words : List ℕ) → IsLinked size g (slice_index words)
    → (left : ℕ) (seen : List ℕ) (q n : ℕ)
    → OnChain size g (slice_index words) left seen n → q < g.low n
    → given q (chain_parts_from size words left seen n) ≡ 0
chain_none size g words t zero seen q n here lt = refl
chain_none size g words t (suc left) seen q n here lt =
    by_right (zero_or (right_of words n))
    (chain_none size g words t left (n ∷ seen) q (right_of words n))
  where
    m : Memory
    m = slice_index words

    this : given q (node_parts words n) ≡ 0
    this = parts_at size g words t q n here.linked
        ∙ out_of_range size g m t q n here.linked here.leaf
        (λ over. (let from = over.from in omega (arith, lt, from)))

    by_right : (right_of words n ≡ 0) ⊎ (right_of words n ≢ 0)
        → (OnChain size g m left (n ∷ seen) (right_of words n) → q < g.low (right_of words n)
        → given q (chain_parts_from size words left (n ∷ seen) (right_of words n)) ≡ 0)
        → given q (chain_parts_from size words (suc left) seen n) ≡ 0
    by_right (inl ends) later = step_ends size words left seen q n ends ∙ this
    by_right (inr on) later =
        let link = t.link n here.linked on in
        let next = next_on_chain size g m t left seen n here link in
        let rest = later next (let begins = link.begins in let above = link.above in
        omega (arith, lt)) in
        step_on size words left seen q n on (fresh_link size g words left seen n t next)
        ∙ plus this rest
      where
        plus : {a b : ℕ} → a ≡ 0 → b ≡ 0 → a + b ≡ 0
        plus e f = omega arith

-- from a node that begins at the key or below it gives what the leaf of the key's range gives
chain_gives : (size : ℕ) (g : Shape) (words : List ℕ) → IsLinked size g (slice_index words)
    → (left : ℕ) (seen : List ℕ) (q n x : ℕ)
    → OnChain size g (slice_index words) left seen n → g.low n ≤ q → g.linked x ≡ true
    → level_at (slice_index words) x ≡ 0
    → Covers (slice_index words) g.low x q → given q (chain_parts_from size words left seen n)
    ≡ gives q (entries_at (slice_index words) x)
chain_gives size g words t zero seen q n x here from used leaf over = absurd
    (let more = here.more in omega arith)
chain_gives size g words t (suc left) seen q n x here from used leaf over =
    by_right (zero_or (right_of words n))
    (chain_gives size g words t left (n ∷ seen) q (right_of words n) x)
  where
    m : Memory
    m = slice_index words

    -- the node's range has the key
    at_x : Covers m g.low n q → gives q (entries_at m n) ≡ gives q (entries_at m x)
    at_x over_n = ap (λ y. gives q (entries_at m y))
        (one_cover_in size g m t n x q here.linked used (here.leaf ∙ sym leaf) over_n over)

    by_bound : right_of words n ≢ 0 → LeadsRight g m n
        → (OnChain size g m left (n ∷ seen) (right_of words n) → g.low (right_of words n) ≤ q
        → g.linked x ≡ true → level_at m x ≡ 0
        → Covers m g.low x q
        → given q (chain_parts_from size words left (n ∷ seen) (right_of words n))
        ≡ gives q (entries_at m x))
        → (bound_at m n ≤ q) ⊎ (q < bound_at m n)
        → given q (chain_parts_from size words (suc left) seen n) ≡ gives q (entries_at m x)
    by_bound on link later (inl le) =
        let next = next_on_chain size g m t left seen n here link in
        let above : g.low n < bound_at m n = link.above in
        let begins : g.low (right_at m n) ≡ bound_at m n = link.begins in
        let this : given q (node_parts words n) ≡ 0 = parts_at size g words t q n here.linked
        ∙ out_of_range size g m t q n here.linked here.leaf
        (λ over_n. (let to = over_n.to (omega arith) in omega (arith, le, to))) in
        let rest = later next (omega arith) used leaf over in
        step_on size words left seen q n on (fresh_link size g words left seen n t next)
        ∙ plus this rest
      where
        plus : {a b c : ℕ} → a ≡ 0 → b ≡ c → a + b ≡ c
        plus e f = omega arith
    by_bound on link later (inr lt) =
        let next = next_on_chain size g m t left seen n here link in
        let begins : g.low (right_at m n) ≡ bound_at m n = link.begins in
        let rest = chain_none size g words t left (n ∷ seen) q (right_of words n) next
        (omega arith) in
        let this = parts_at size g words t q n here.linked
        ∙ at_x (record { from = from; to = λ some. lt }) in
        step_on size words left seen q n on (fresh_link size g words left seen n t next)
        ∙ plus this rest
      where
        plus : {a b c : ℕ} → a ≡ c → b ≡ 0 → a + b ≡ c
        plus e f = omega arith

    by_right : (right_of words n ≡ 0) ⊎ (right_of words n ≢ 0)
        → (OnChain size g m left (n ∷ seen) (right_of words n) → g.low (right_of words n) ≤ q
        → g.linked x ≡ true → level_at m x ≡ 0
        → Covers m g.low x q
        → given q (chain_parts_from size words left (n ∷ seen) (right_of words n))
        ≡ gives q (entries_at m x))
        → given q (chain_parts_from size words (suc left) seen n) ≡ gives q (entries_at m x)
    by_right (inl ends) later =
        let none = t.ends n here.linked ends in
        step_ends size words left seen q n ends ∙ parts_at size g words t q n here.linked
        ∙ at_x (record { from = from; to = λ some. absurd (some none) })
    by_right (inr on) later = by_bound on (t.link n here.linked on) later (le_or (bound_at m n) q)

-- the whole chain gives a key what the leaf of its range gives
pub leaf_gives : (size : ℕ) (g : Shape) (words : List ℕ) → IsLinked size g (slice_index words)
    → (q n : ℕ) → g.linked n ≡ true
    → level_at (slice_index words) n ≡ 0 → Covers (slice_index words) g.low n q
    → given q (chain_parts size words) ≡ gives q (entries_at (slice_index words) n)
leaf_gives size g words t q n used leaf over =
    let m : Memory = slice_index words in
    let none = zero_low_in size g m t in
    let few = after_few (last_in size m) m g.low 0 (omega arith) in
    let fits = t.last_low in
    chain_gives size g words t size [] q 0 n
    (record {
      linked = t.zero_linked;
      leaf = t.zero_leaf;
      more = omega arith;
      unseen = λ x used le. refl;
    }) (omega (arith, none)) used leaf over

-- the view of the words that the log leaves is the state that they show
pub view_is : (h : Header) (g : Shape) (log : List Entry) (state : Amounts) → h.subject ≡ Tree
    → IsLinked h.size g (shown_by log)
    → ShowsState g (shown_by log) state → view_of_words h (ended_words h log) ≡ state
unfolding view_of_words ended_words
view_is h g log state is t st =
    cc (collected-is (chain_parts h.size words) state st.formed given_is)
  where
    words : List ℕ
    words = map (ended_value (ended_effects log)) (numbers_below (plain_words h))

    word : (cell : ℕ) → cell < 12 * h.size + 2 → slice_index words cell ≡ shown_by log cell
    word cell low = search (element_below, arith)

    same : SameNodes h.size (shown_by log) (slice_index words)
    same = record {
      words = λ cell low. word cell (omega (arith, low));
      more = (let last = word (12 * h.size + 1) (omega arith) in omega arith);
      fits = (let last = word (12 * h.size + 1) (omega arith) in let fits = t.last_low in
          omega arith);
    }

    linked : IsLinked h.size g (slice_index words)
    linked = nodes_linked h.size g (shown_by log) (slice_index words) t same

    shows : ShowsState g (slice_index words) state
    shows = nodes_state h.size g (shown_by log) (slice_index words) t same state st

    given_is : (q : ℕ) → given q (chain_parts h.size words) ≡ amount_of state q
    given_is q =
        let c = covered_in h.size g (slice_index words) linked q in
        leaf_gives h.size g words linked q c.node c.linked c.level_is c.covers
        ∙ sym (shows.shows q c.node c.linked c.level_is c.covers)
