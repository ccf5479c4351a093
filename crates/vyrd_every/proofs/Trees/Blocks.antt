-- A block that writes other entries into a node whose lock is held.
use Rattle.vyrd_every.proofs.Prelude
use Prelude.{◌≡◌, ◌≢◌, ℕ, ◌+◌, ◌*◌, ◌<◌, ◌≤◌, ◌⊎◌, inl, inr, Bool, true, false, cond, List, [], ◌∷◌}
use Prelude.{◌++◌, Some, length, refl, ap, ◌∙◌, sym, subst, arith, ◌==◌, AllByRecursion, Header}
use Prelude.{Method, BlockOpen, isnt_same, Store, Mark, Memory, with_cell, changed_cell, other_cell}
use Prelude.{Script, perform, Situation, holds, root_cell, lock_of, write_entries, holding}
use Prelude.{level_at, bound_at, last_in, root_in, entries_at, entries_from, Entries, length_join}
use Prelude.{entries_alike, Rewritten, apart_or, Written, front_stands, never, written, Shape}
use Prelude.{HasEntries, IsLinked, Hangs, Grows, TreeLocals, TreeRely, TreeLeaves, TreeRight}
use Rattle.vyrd_every.proofs.Trees.Parts.{OwnsUnseen, unseen_stays, tree_rely_more, Changeless}
use Rattle.vyrd_every.proofs.Trees.Parts.{changeless}
use Rattle.vyrd_every.proofs.Trees.Walks.{AtNode}
use Rattle.vyrd_every.proofs.Trees.Kept.{StaysShaped, stays_shaped, linked_low, other_word}
use Rattle.vyrd_every.proofs.Trees.Kept.{rewritten_grows, rewritten_linked, rewritten_hangs}

-- the locals with these writes in an open block
abbrev pub with_pending : TreeLocals → List (ℕ × ℕ) → TreeLocals
with_pending k ws = record {
  fresh = k.fresh;
  hanging = k.hanging;
  pending = ws;
  out = false;
  called = k.called;
  answered = k.answered;
}

pub unseen_with : (h : Header) (k : TreeLocals) (ws : List (ℕ × ℕ)) (g : Shape) (m : Memory)
    → OwnsUnseen h k g m → OwnsUnseen h (with_pending k ws) g m
unseen_with h k ws g m unseen = grind (arith, unseen.fresh, unseen.hanging)

-- what is relied upon doesn't depend on the writes, nor on whether a block is open
pub rely_with : (h : Header) (locks : List ℕ) (method : Method) (committed a b : Bool)
    (k : TreeLocals) (ws : List (ℕ × ℕ)) (g g' : Shape) (m m' : Memory)
    → TreeRely h (holding locks method committed a) (with_pending k ws) g m g' m'
    → TreeRely h (holding locks method committed b) k g m g' m'
rely_with h locks method committed a b k ws g g' m m' r = search arith

pub tree_open : (h : Header) (locks : List ℕ) (method : Method) (committed : Bool) (k : TreeLocals)
    (g : Shape) (m : Memory) (later : Script) → IsLinked h.size g m
    → OwnsUnseen h k g m
    → ((g' : Shape) → (m' : Memory) → TreeRely h (holding locks method committed true)
    (with_pending k []) g m g' m'
    → TreeRight h (holding locks method committed true) (with_pending k []) g' m' later)
    → TreeRight h (holding locks method committed false) k g m (perform (Mark BlockOpen) later)
tree_open h locks method committed k g m later tree unseen rest =
    let c : Changeless h (holding locks method committed false) k g m = changeless h
    (holding locks method committed false) k g m unseen in (
      with_pending k [],
      g,
      record {
        reaches = tt;
        grows = c.grows;
        leaves = c.leaves;
        tree = tree;
        top = λ quiet is quiet'. is;
        closed = λ out quiet. absurd (never unseen.quiet out);
        alone = λ out. cc;
        ahead = λ quiet out. cc;
        wrote = λ quiet out. cc;
        within = λ inside goes same. (refl, refl);
        taken = c.taken;
        hung = c.hung;
        leads = λ state shows. shows;
        pending = refl;
        out = refl;
        called = refl;
        answers = refl;
      },
      rest,
    )

-- In an open block of the caller, with the lock of node n held since memory m: what comes next does
-- right, with these writes so
-- far.
abbrev pub InBlock : Header → Method → Bool → TreeLocals → Shape → Memory → ℕ → List (ℕ × ℕ)
    → Script → Type 0
InBlock h method committed k g m n ws script = (g' : Shape) (m' : Memory)
    → TreeRely h (holding (lock_of h n ∷ []) method committed false) k g m g' m'
    → TreeRight h (holding (lock_of h n ∷ []) method committed true) (with_pending k ws) g' m'
    script

-- a word of the node, other than its level, is stored in the block
pub store_in_node : (h : Header) (method : Method) (committed : Bool) (k : TreeLocals) (g : Shape)
    (m : Memory) (n place value : ℕ) (ws : List (ℕ × ℕ))
    (later : Script) → IsLinked h.size g m
    → AtNode h (holding (lock_of h n ∷ []) method committed false) k g m n → level_at m n ≤ g.top
    → place < 12 → place ≢ 0
    → InBlock h method committed k g m n ((12 * n + place, value) ∷ ws) later
    → InBlock h method committed k g m n ws (perform (Store (12 * n + place) value) later)
store_in_node h method committed k g m n place value ws later tree at high low some rest g' m'
    rely = (
      with_pending k ((12 * n + place, value) ∷ ws),
      g',
      record {
        reaches = inl (
          refl,
          refl,
          inl (record {
            node = n;
            place = place;
            is = refl;
            low = low;
            may = inr (
              linked',
              at.held,
              some,
              (let level = rely.grows.level n at.linked in let top =
                  rely.grows.top in omega (arith, high)),
            );
          }),
        );
        grows = rw same c.grows;
        leaves = rw same c.leaves;
        tree = subst (IsLinked h.size g') (sym same) rely.tree;
        top = λ quiet is quiet'. rw same is;
        closed = λ out quiet. cc;
        alone = λ out. cc;
        ahead = λ quiet out. cc;
        wrote = λ quiet out. cc;
        within = λ inside goes same. (refl, refl);
        taken = λ x mine. let t = c.taken x mine in
            (t.0, rw same t.1, t.2);
        hung = λ x mine. let t = c.hung x mine in
            (t.0, rw same t.1, t.2);
        leads = λ state shows. rw same shows;
        pending = refl;
        out = sym not_root;
        called = refl;
        answers = refl;
      },
      λ g'' m'' rely'. rest g'' m'' (tree_rely_more h s k g g' g'' m m' m'' rely
          (rely_with h (lock_of h n ∷ []) method committed true false k
          ((12 * n + place, value) ∷ ws)
          g' g'' m' m''
          (rw (← same) rely'))),
    )
  where
    s : Situation
    s = holding (lock_of h n ∷ []) method committed false

    inside : Situation
    inside = holding (lock_of h n ∷ []) method committed true

    linked' : g'.linked n ≡ true
    linked' = rely.grows.linked n at.linked

    c : Changeless h inside (with_pending k ws) g' m'
    c = search (changeless, unseen_with, unseen_stays, arith)

    not_root : (12 * n + place == root_cell h) ≡ false
    not_root = search (isnt_same, linked_low, arith)

    same : cond (12 * n + place == root_cell h) (written ((12 * n + place, value) ∷ ws) m') m' ≡ m'
    same = ap (λ b. cond b (written ((12 * n + place, value) ∷ ws) m') m') not_root

-- the writes of entries from a place on, the newest first
abbrev pub entry_writes : ℕ → ℕ → Entries → List (ℕ × ℕ) → List (ℕ × ℕ)
entry_writes n place [] ws = ws
entry_writes n place ((key, value) ∷ xs) ws = entry_writes n (place + 1) xs
    ((12 * n + (8 + place), value) ∷ (12 * n + (4 + place), key) ∷ ws)

pub store_entries : (h : Header) (method : Method) (committed : Bool) (k : TreeLocals) (g : Shape)
    (m : Memory) (n place : ℕ) (xs : Entries) (ws : List (ℕ × ℕ))
    (later : Script) → IsLinked h.size g m
    → AtNode h (holding (lock_of h n ∷ []) method committed false) k g m n → level_at m n ≤ g.top
    → place + length xs ≤ 4
    → InBlock h method committed k g m n (entry_writes n place xs ws) later
    → InBlock h method committed k g m n ws (write_entries n place xs later)
store_entries h method committed k g m n place [] ws later tree at high fits rest = rest
store_entries h method committed k g m n place ((key, value) ∷ xs) ws later tree at high fits rest =
    store_in_node h _ _ k g m n _ _ _ _ tree at high (omega (arith, fits)) (λ e. omega (arith, e))
    (store_in_node h _ _ k g m n _ _ _ _ tree at high (omega (arith, fits)) (λ e. omega (arith, e))
    (store_entries h method committed k g m n (place + 1) xs
    ((12 * n + (8 + place), value) ∷ (12 * n + (4 + place), key) ∷ ws) later tree at high
    (omega (arith, fits)) rest))

-- what these writes leave in memory
pub entries_stand : (m : Memory) (n place : ℕ) (xs : Entries) (ws : List (ℕ × ℕ))
    → place + length xs ≤ 4
    → Written (written ws m) (written (entry_writes n place xs ws) m) n place xs
entries_stand m n place [] ws fits = record { stand = refl; others = λ cell off. refl }
entries_stand m n place ((key, value) ∷ xs) ws fits =
    joined (entries_stand m n (place + 1) xs
    ((12 * n + (8 + place), value) ∷ (12 * n + (4 + place), key) ∷ ws) (omega (arith, fits)))
  where
    m₀ : Memory
    m₀ = written ws m

    m₁ : Memory
    m₁ = with_cell m₀ (12 * n + (4 + place)) key

    m₂ : Memory
    m₂ = with_cell m₁ (12 * n + (8 + place)) value

    end : Memory
    end = written
        (entry_writes n (place + 1) xs ((12 * n + (8 + place), value) ∷ (12 * n + (4 + place), key)
        ∷ ws)) m

    joined : Written m₂ end n (place + 1) xs → Written m₀ end n place ((key, value) ∷ xs)
    joined w = search (fits, other_cell, changed_cell, arith)

-- all writes of a block that gives a node other entries
abbrev pub node_writes : ℕ → Entries → Entries → List (ℕ × ℕ)
node_writes n front xs = (12 * n + 1, length (front ++ xs)) ∷ entry_writes n (length front) xs []

pub node_rewritten : (size : ℕ) (m : Memory) (n many : ℕ) (front back xs : Entries) → n < size
    → entries_from m n 0 many ≡ front ++ back
    → length (front ++ xs) ≤ 4
    → Rewritten size m (written (node_writes n front xs) m) n (front ++ xs)
node_rewritten size m n many front back xs fits before few = record {
  others = λ cell small off. other_cell m' (12 * n + 1) (length (front ++ xs)) cell
      (not_count cell off)
      ∙ w.others cell (λ j from to. not_entry cell off j (omega (arith, to, few, parts)));
  bound_is = other_cell m' (12 * n + 1) (length (front ++ xs)) (12 * n + 2) (omega arith)
      ∙ w.others (12 * n + 2) (λ j from to. (omega arith, omega arith));
  right_is = other_cell m' (12 * n + 1) (length (front ++ xs)) (12 * n + 3) (omega arith)
      ∙ w.others (12 * n + 3) (λ j from to. (omega arith, omega arith));
  few = (let count = changed_cell m' (12 * n + 1) (length (front ++ xs)) in
      omega (arith, count, few));
  entries = ap (entries_from end n 0) (changed_cell m' (12 * n + 1) (length (front ++ xs)) ∙ parts)
      ∙ entries_alike m' end n 0 (length front + length xs) (λ j from to. (
        other_cell m' (12 * n + 1) (length (front ++ xs)) (12 * n + (4 + j)) (omega arith),
        other_cell m' (12 * n + 1) (length (front ++ xs)) (12 * n + (8 + j)) (omega arith),
      ))
      ∙ front_stands m m' n many front back xs before w (omega (arith, few, parts));
}
  where
    parts : length (front ++ xs) ≡ length front + length xs
    parts = length_join front xs

    m' : Memory
    m' = written (entry_writes n (length front) xs []) m

    end : Memory
    end = with_cell m' (12 * n + 1) (length (front ++ xs))

    w : Written m m' n (length front) xs
    w = entries_stand m n (length front) xs [] (omega (arith, few, parts))

    not_count : (cell : ℕ) → (cell < 12 * n + 1) ⊎ (12 * n + 12 ≤ cell) → cell ≢ 12 * n + 1
    not_count cell e1 = search arith

    not_entry : (cell : ℕ) → (cell < 12 * n + 1) ⊎ (12 * n + 12 ≤ cell) → (j : ℕ) → j < 4
        → (cell ≢ 12 * n + (4 + j)) × (cell ≢ 12 * n + (8 + j))
    not_entry cell e1 j low = search arith

-- the node's words are as they were when its lock was taken
pub entries_kept : (h : Header) (s : Situation) (k : TreeLocals) (g : Shape) (m : Memory) (n : ℕ)
    (g' : Shape) (m' : Memory) → IsLinked h.size g m
    → AtNode h s k g m n → TreeRely h s k g m g' m' → entries_at m' n ≡ entries_at m n
entries_kept h s k g m n g' m' tree at rely = ap (entries_from m' n 0)
    (rely.held n 1 at.linked at.held (omega arith)) ∙ entries_alike m m' n 0 _
    (λ j from to.
    (let few = tree.few n at.linked in
    (rely.held n _ at.linked at.held (omega arith), rely.held n _ at.linked at.held (omega arith))))

-- What a block does that gives a node other entries, which lead to no node that hangs for another
-- caller.
pub record Rewrites (h : Header) (s : Situation) (k : TreeLocals) (g : Shape) (m m' : Memory) : Type
    0 where
  pub grows : Grows g m g m'
  pub leaves : TreeLeaves h s k g m g m'
  pub tree : IsLinked h.size g m'
  pub top : g.top ≡ level_at m (root_in h.size m) → g.top ≡ level_at m' (root_in h.size m')
  pub taken : (x : ℕ) → k.fresh ≡ Some x → (g.linked x ≡ false) × (x ≤ last_in h.size m')
      × ((k.fresh ≡ Some x) ⊎ (last_in h.size m < x))

pub rewrites : (h : Header) (s : Situation) (k : TreeLocals) (g : Shape) (m m' : Memory) (n : ℕ)
    (xs : Entries) → IsLinked h.size g m → OwnsUnseen h k g m
    → g.linked n ≡ true → holds s (lock_of h n) ≡ true → Rewritten h.size m m' n xs
    → HasEntries g m (level_at m n) (g.low n) (bound_at m n) xs
    → ((x : ℕ) → g.linked x ≡ true → k.hanging ≢ Some x → Hangs g m x → level_at m n ≢ 0
    → AllByRecursion (λ entry. entry.1 ≢ x) xs)
    → Rewrites h s k g m m'
rewrites h s k g m m' n xs tree unseen linked held r es off = record {
  grows = rewritten_grows h.size g m m' n xs tree linked r;
  leaves = record {
    others = λ a place of_a free low. other_word h.size m m' n xs r a place
        (linked_low h.size g m tree a of_a) low (apart a free (apart_or a n));
    unlinked = λ x un other. un;
    used = (let same = shape.last_is in omega arith);
    hanging = λ x of_x other hangs. rewritten_hangs h.size g m m' n xs x tree linked r hangs
        (off x of_x other hangs);
    root = λ free. (shape.root_is, refl);
    count = λ free. shape.last_is;
  };
  tree = rewritten_linked h.size g m m' n xs tree linked r es;
  top = λ is. is
      ∙ sym (ap (level_at m') shape.root_is ∙ shape.level_is (root_in h.size m)
      (linked_low h.size g m tree (root_in h.size m) tree.root_linked));
  taken = λ x mine. let t = unseen.fresh x mine in
      (t.0, (let le = t.1 in let same = shape.last_is in omega arith), inl mine);
}
  where
    shape : StaysShaped h.size m m'
    shape = stays_shaped h.size m m' n xs (linked_low h.size g m tree n linked) r

    apart : (a : ℕ) → holds s (lock_of h a) ≡ false → (a ≡ n) ⊎ ((a < n) ⊎ (n < a)) → (a < n)
        ⊎ (n < a)
    apart a free e2 = search (free, never, lock_of, held, arith)
