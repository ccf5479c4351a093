-- The block of a split: its stores, and what they leave.
use Rattle.vyrd_every.proofs.Prelude
use Prelude.{◌≡◌, ◌≢◌, ℕ, ◌+◌, ◌*◌, ◌<◌, ◌≤◌, ◌⊎◌, inl, inr, Bool, true, false, cond, List, [], ◌∷◌}
use Prelude.{◌++◌, Some, length, refl, ap, ◌∙◌, sym, subst, arith, ◌==◌, drop, Header, Method}
use Prelude.{is_same, isnt_same, Store, Memory, with_cell, changed_cell, other_cell, Script}
use Prelude.{perform, Situation, holds, root_cell, lock_of, write_entries, lower_half, upper_half}
use Prelude.{first_key, split, holding, level_at, count_at, bound_at, right_at, last_in, root_in}
use Prelude.{entries_at, entries_from, Entries, each_front, each_back, length_join, AreHalves}
use Prelude.{length-entries, entries_alike, Written, front_stands, old_low, off_words, NodeWritten}
use Prelude.{loaded_at, never, written, Shape, IsLinked, Hangs, Grows, TreeLocals, TreeLeaves}
use Rattle.std.specs.List.{AllByRecursion as Each}
use Rattle.vyrd_tree.specs.Laws.Alone.SplitWrites.{IsLower, lower_stood, written_nowhere}
use Rattle.vyrd_tree.specs.Laws.Alone.SplitWrites.{written_at}
use Rattle.vyrd_every.proofs.Trees.Parts.{OwnsUnseen, unseen_stays, tree_rely_more, Changeless}
use Rattle.vyrd_every.proofs.Trees.Parts.{changeless}
use Rattle.vyrd_every.proofs.Trees.Walks.{AtNode}
use Rattle.vyrd_every.proofs.Trees.Kept.{coded, linked_low}
use Rattle.vyrd_every.proofs.Trees.Blocks.{with_pending, unseen_with, rely_with, InBlock}
use Rattle.vyrd_every.proofs.Trees.Blocks.{store_in_node, entry_writes, store_entries}
use Rattle.vyrd_every.proofs.Trees.Blocks.{entries_stand}
use Rattle.vyrd_every.proofs.Trees.Splits.{with_node, IsSplitAt, split_grows, split_linked}
use Rattle.vyrd_every.proofs.Trees.Splits.{split_top, split_unnamed, split_hangs_new}

-- the writes of a new node with two entries, the newest first
abbrev pub new_writes : ℕ → ℕ → ℕ → ℕ → Entries → List (ℕ × ℕ)
new_writes u level bound right xs =
    entry_writes u 0 xs ((12 * u + 3, right) ∷ (12 * u + 2, bound) ∷ (12 * u + 1, 2)
    ∷ (12 * u + 0, level) ∷ [])

pub new_stands : (m : Memory) (u level bound right : ℕ) (xs : Entries) → length xs ≡ 2
    → NodeWritten m (written (new_writes u level bound right xs) m) u level bound right xs
new_stands m u level bound right xs two = record {
  level_is = head 0 (omega arith) ∙ other_cell m₃ (12 * u + 3) right (12 * u + 0) (omega arith)
      ∙ other_cell m₂ (12 * u + 2) bound (12 * u + 0) (omega arith)
      ∙ other_cell m₁ (12 * u + 1) 2 (12 * u + 0) (omega arith) ∙ changed_cell m (12 * u + 0) level;
  count_is = count;
  bound_is = head 2 (omega arith) ∙ other_cell m₃ (12 * u + 3) right (12 * u + 2) (omega arith)
      ∙ changed_cell m₂ (12 * u + 2) bound;
  right_is = head 3 (omega arith) ∙ changed_cell m₃ (12 * u + 3) right;
  entries = ap (entries_from end u 0) (count ∙ sym two) ∙ w.stand;
  others = λ cell off. w.others cell (λ j from to. apart cell off j (omega (arith, to, two)))
      ∙ other_cell m₃ (12 * u + 3) right cell (not_at cell off 3 (omega arith))
      ∙ other_cell m₂ (12 * u + 2) bound cell (not_at cell off 2 (omega arith))
      ∙ other_cell m₁ (12 * u + 1) 2 cell (not_at cell off 1 (omega arith))
      ∙ other_cell m (12 * u + 0) level cell (not_at cell off 0 (omega arith));
}
  where
    m₁ : Memory
    m₁ = with_cell m (12 * u + 0) level

    m₂ : Memory
    m₂ = with_cell m₁ (12 * u + 1) 2

    m₃ : Memory
    m₃ = with_cell m₂ (12 * u + 2) bound

    m₄ : Memory
    m₄ = with_cell m₃ (12 * u + 3) right

    end : Memory
    end = written (new_writes u level bound right xs) m

    w : Written m₄ end u 0 xs
    w = entries_stand m u 0 xs ((12 * u + 3, right) ∷ (12 * u + 2, bound) ∷ (12 * u + 1, 2)
        ∷ (12 * u + 0, level) ∷ []) (omega (arith, two))

    head : (i : ℕ) → i < 4 → end (12 * u + i) ≡ m₄ (12 * u + i)
    head i low = w.others (12 * u + i) (λ j from to. (omega (arith, low), omega (arith, low)))

    count : count_at end u ≡ 2
    count = head 1 (omega arith) ∙ other_cell m₃ (12 * u + 3) right (12 * u + 1) (omega arith)
        ∙ other_cell m₂ (12 * u + 2) bound (12 * u + 1) (omega arith)
        ∙ changed_cell m₁ (12 * u + 1) 2

    not_at : (cell : ℕ) → (cell < 12 * u) ⊎ (12 * u + 12 ≤ cell) → (i : ℕ) → i < 12 → cell ≢ 12 * u
        + i
    not_at cell e1 i low = search arith

    apart : (cell : ℕ) → (cell < 12 * u) ⊎ (12 * u + 12 ≤ cell) → (j : ℕ) → j < 4
        → (cell ≢ 12 * u + (4 + j)) × (cell ≢ 12 * u + (8 + j))
    apart cell off j low = search arith

-- the writes of a split, the newest first
abbrev pub split_writes : ℕ → ℕ → ℕ → ℕ → ℕ → ℕ → Entries → List (ℕ × ℕ)
split_writes n u level bound right place five =
    (12 * n + 3, u) ∷ (12 * n + 2, first_key (upper_half five)) ∷ (12 * n + 1, 3)
    ∷ entry_writes n place (drop place (lower_half five))
    (new_writes u level bound right (upper_half five))

-- how many entries are written into the node that is split
pub few_written : (front back : Entries) (entry : ℕ × ℕ) → length front + length back ≡ 4
    → length (lower_half (front ++ entry ∷ back)) ≡ 3
    → length front + length (drop (length front) (lower_half (front ++ entry ∷ back))) ≤ 4
few_written front back entry four three = by_place stood.2.place
  where
    stood : (pre : Entries) × (rest : Entries) × IsLower front back entry pre rest
    stood = lower_stood front back entry four

    kept : Entries
    kept = drop (length front) (lower_half (front ++ entry ∷ back))

    three_of : length stood.0 + length kept ≡ 3
    three_of = sym (length_join stood.0 kept) ∙ sym (ap length stood.2.lower) ∙ three

    by_place : (length stood.0 ≡ length front) ⊎ (kept ≡ []) → length front + length kept ≤ 4
    by_place (inl same) = omega (arith, same, three_of)
    by_place (inr none) = let e : length kept ≡ 0 = ap length none in omega (arith, e, four)

-- what they leave
pub split_stands : (size : ℕ) (m : Memory) (n u level bound right : ℕ) (front back : Entries)
    (entry : ℕ × ℕ) → n < size → u < size → u ≢ n
    → level_at m n ≡ level → bound_at m n ≡ bound → right_at m n ≡ right → count_at m n ≡ 4
    → entries_at m n ≡ front ++ back
    → length (lower_half (front ++ entry ∷ back)) ≡ 3 → length (upper_half (front ++ entry ∷ back))
    ≡ 2
    → IsSplitAt size m
    (written (split_writes n u level bound right (length front) (front ++ entry ∷ back)) m) n u
    (lower_half (front ++ entry ∷ back))
    (upper_half (front ++ entry ∷ back)) (first_key (upper_half (front ++ entry ∷ back)))
split_stands size m n u level bound right front back entry n_low u_low other level_is bound_is
    right_is full before three two = record {
      others = λ cell small off off'. off_n cell off ∙ w.others cell off';
      bound_is = other_cell e₂ (12 * n + 3) u (12 * n + 2) (omega arith)
          ∙ changed_cell e₁ (12 * n + 2) key;
      right_is = changed_cell e₂ (12 * n + 3) u;
      few = (let e = count_n in omega (arith, e));
      entries = ap (entries_from end n 0) (count_n ∙ sym three_of) ∙ entries_alike m₃ end n 0
          (length pre + length kept)
          (λ j from to. (
            end_same (12 * n + (4 + j)) (λ i low. omega (arith, low)),
            end_same (12 * n + (8 + j)) (λ i low. omega (arith, low)),
          )) ∙ represents
          ∙ sym stood.2.lower;
      new_level = at_u 0 (omega arith) ∙ w.level_is ∙ sym level_is;
      new_bound = at_u 2 (omega arith) ∙ w.bound_is ∙ sym bound_is;
      new_right = at_u 3 (omega arith) ∙ w.right_is ∙ sym right_is;
      new_few = (let e = at_u 1 (omega arith) ∙ w.count_is in omega (arith, e));
      new_entries = ap (entries_from end u 0) (at_u 1 (omega arith)) ∙ entries_alike m₂ end u 0
          (count_at m₂ u)
          (λ j from to.
          (let few = w.count_is in
          (at_u (4 + j) (omega (arith, to, few)), at_u (8 + j) (omega (arith, to, few)))))
          ∙ w.entries;
    }
  where
    kept : Entries
    kept = drop (length front) (lower_half (front ++ entry ∷ back))

    key : ℕ
    key = first_key (upper_half (front ++ entry ∷ back))

    four : length front + length back ≡ 4
    four = cc (length_join front back, length-entries m n 0 (count_at m n))

    stood : (pre : Entries) × (rest : Entries) × IsLower front back entry pre rest
    stood = lower_stood front back entry four

    pre : Entries
    pre = stood.0

    three_of : length pre + length kept ≡ 3
    three_of = sym (length_join pre kept) ∙ sym (ap length stood.2.lower) ∙ three

    fits : length front + length kept ≤ 4
    fits = few_written front back entry four three

    m₂ : Memory
    m₂ = written (new_writes u level bound right (upper_half (front ++ entry ∷ back))) m

    w : NodeWritten m m₂ u level bound right (upper_half (front ++ entry ∷ back))
    w = new_stands m u level bound right (upper_half (front ++ entry ∷ back)) two

    m₃ : Memory
    m₃ = written
        (entry_writes n (length front) kept
        (new_writes u level bound right (upper_half (front ++ entry ∷ back)))) m

    w' : Written m₂ m₃ n (length front) kept
    w' = search (entries_stand, kept, back, fits, arith)

    e₁ : Memory
    e₁ = with_cell m₃ (12 * n + 1) 3

    e₂ : Memory
    e₂ = with_cell e₁ (12 * n + 2) key

    end : Memory
    end = with_cell e₂ (12 * n + 3) u

    end_same : (cell : ℕ) → ((i : ℕ) → i < 4 → cell ≢ 12 * n + i) → end cell ≡ m₃ cell
    end_same cell off = search (other_cell, arith)

    count_n : count_at end n ≡ 3
    count_n = search (other_cell, changed_cell, arith)

    -- cells that are none of the node's
    off_n : (cell : ℕ) → (cell < 12 * n + 1) ⊎ (12 * n + 12 ≤ cell) → end cell ≡ m₂ cell
    off_n cell (inl lt) =
        other_cell e₂ (12 * n + 3) u cell (omega (arith, lt)) ∙ other_cell e₁ (12 * n + 2) key cell
        (omega (arith, lt))
        ∙ other_cell m₃ (12 * n + 1) 3 cell (omega (arith, lt))
        ∙ w'.others cell (λ j from to. (omega (arith, lt), omega (arith, lt)))
    off_n cell (inr le) =
        end_same cell (λ i low. omega (arith, le, low))
        ∙ w'.others cell (λ j from to. (omega (arith, le, to, fits), omega (arith, le, to, fits)))

    at_u : (i : ℕ) → i < 12 → end (12 * u + i) ≡ m₂ (12 * u + i)
    at_u i low = off_n (12 * u + i) (one_more (off_words u n i other low))
      where
        one_more : (12 * u + i < 12 * n) ⊎ (12 * n + 12 ≤ 12 * u + i) → (12 * u + i < 12 * n + 1)
            ⊎ (12 * n + 12 ≤ 12 * u + i)
        one_more e0 = search arith

    -- the node's words before its own writes
    at_n : (i : ℕ) → i < 12 → m₂ (12 * n + i) ≡ m (12 * n + i)
    at_n i low = w.others (12 * n + i) (off_words n u i (λ e. other (sym e)) low)

    before₂ : entries_from m₂ n 0 (count_at m n) ≡ front ++ back
    before₂ = entries_alike m m₂ n 0 (count_at m n)
        (λ j from to.
        (at_n (4 + j) (omega (arith, to, full)), at_n (8 + j) (omega (arith, to, full)))) ∙ before

    represents : entries_from m₃ n 0 (length pre + length kept) ≡ pre ++ kept
    represents = front_stands m₂ m₃ n (count_at m n) pre stood.1 kept (before₂ ∙ stood.2.stood)
        (by_place stood.2.place) (omega (arith, three_of))
      where
        by_place : (length pre ≡ length front) ⊎ (kept ≡ []) → Written m₂ m₃ n (length pre) kept
        by_place (inl same) = written_at m₂ m₃ n (length front) (length pre) kept same w'
        by_place (inr none) = written_nowhere m₂ m₃ n (length front) (length pre) kept none w'

-- a word of the node that was taken is stored in the block
pub store_in_fresh : (h : Header) (method : Method) (committed : Bool) (k : TreeLocals) (g : Shape)
    (m : Memory) (n u place value : ℕ) (ws : List (ℕ × ℕ))
    (later : Script) → AtNode h (holding (lock_of h n ∷ []) method committed false) k g m n
    → k.fresh ≡ Some u → u < h.size → place < 12
    → InBlock h method committed k g m n ((12 * u + place, value) ∷ ws) later
    → InBlock h method committed k g m n ws (perform (Store (12 * u + place) value) later)
store_in_fresh h method committed k g m n u place value ws later at mine fits low rest g' m' rely = (
  with_pending k ((12 * u + place, value) ∷ ws),
  g',
  record {
    reaches = inl (
      refl,
      refl,
      inl
          (record { node = u; place = place; is = refl; low = low; may = inl mine }),
    );
    grows = rw same c.grows;
    leaves = rw same c.leaves;
    tree = subst (IsLinked h.size g') (sym same) rely.tree;
    top = λ quiet is quiet'. rw same is;
    closed = λ out quiet. cc;
    alone = λ out. cc;
    ahead = λ quiet out. cc;
    wrote = λ quiet out. cc;
    within = λ inside goes same. (refl, refl);
    taken = λ x mine. let t = c.taken x mine in
        (t.0, rw same t.1, t.2);
    hung = λ x mine. let t = c.hung x mine in (t.0, rw same t.1, t.2);
    leads = λ state shows. rw same shows;
    pending = refl;
    out = sym not_root;
    called = refl;
    answers = refl;
  },
  λ g'' m'' rely'. rest g'' m'' (tree_rely_more h s k g g' g'' m m' m'' rely
      (rely_with h (lock_of h n ∷ []) method committed true false k ((12 * u + place, value) ∷ ws)
      g' g'' m' m''
      (rw (← same) rely'))),
)
  where
    s : Situation
    s = holding (lock_of h n ∷ []) method committed false

    inside : Situation
    inside = holding (lock_of h n ∷ []) method committed true

    c : Changeless h inside (with_pending k ws) g' m'
    c = search (changeless, unseen_with, unseen_stays, arith)

    not_root : (12 * u + place == root_cell h) ≡ false
    not_root = isnt_same (12 * u + place) (root_cell h) (λ e. omega (arith, low, e, fits))

    same : cond (12 * u + place == root_cell h) (written ((12 * u + place, value) ∷ ws) m') m' ≡ m'
    same = ap (λ b. cond b (written ((12 * u + place, value) ∷ ws) m') m') not_root

pub store_fresh_entries : (h : Header) (method : Method) (committed : Bool) (k : TreeLocals)
    (g : Shape) (m : Memory) (n u place : ℕ) (xs : Entries)
    (ws : List (ℕ × ℕ)) (later : Script)
    → AtNode h (holding (lock_of h n ∷ []) method committed false) k g m n → k.fresh ≡ Some u
    → u < h.size
    → place + length xs ≤ 4
    → InBlock h method committed k g m n (entry_writes u place xs ws) later
    → InBlock h method committed k g m n ws (write_entries u place xs later)
store_fresh_entries h method committed k g m n u place [] ws later at mine low fits rest = rest
store_fresh_entries h method committed k g m n u place ((key, value) ∷ xs) ws later at mine low fits
    rest = store_in_fresh h _ _ k g m n u _ _ _ _ at mine low (omega (arith, fits))
    (store_in_fresh h _ _ k g m n u _ _ _ _ at mine low (omega (arith, fits))
    (store_fresh_entries h method committed k g m n u (place + 1) xs
    ((12 * u + (8 + place), value) ∷ (12 * u + (4 + place), key) ∷ ws) later at mine low
    (omega (arith, fits)) rest))

-- the stores of a split
pub split_stores : (h : Header) (method : Method) (committed : Bool) (k : TreeLocals) (g : Shape)
    (m : Memory) (n u : ℕ) (front back : Entries) (entry : ℕ × ℕ)
    (later : Script) → IsLinked h.size g m
    → AtNode h (holding (lock_of h n ∷ []) method committed false) k g m n → level_at m n ≤ g.top
    → k.fresh ≡ Some u → u < h.size
    → length front + length back ≡ 4
    → length (lower_half (front ++ entry ∷ back)) ≡ 3 → length (upper_half (front ++ entry ∷ back))
    ≡ 2
    → InBlock h method committed k g m n
    (split_writes n u (level_at m n) (bound_at m n) (right_at m n) (length front)
    (front ++ entry ∷ back)) later
    → InBlock h method committed k g m n []
    (split (loaded_at m n) (length front) (front ++ entry ∷ back) u later)
split_stores h method committed k g m n u front back entry later tree at high mine fits four three
    two rest = store_in_fresh h _ _ k g m n u 0 _ [] _ at mine fits (omega arith)
    (store_in_fresh h _ _ k g m n u 1 2 _ _ at mine fits (omega arith)
    (store_in_fresh h _ _ k g m n u 2 _ _ _ at mine fits (omega arith)
    (store_in_fresh h _ _ k g m n u 3 _ _ _ at mine fits (omega arith)
    (store_fresh_entries h method committed k g m n u 0 (upper_half five) _ _ at mine fits
    (omega (arith, two))
    (store_entries h method committed k g m n (length front)
    (drop (length front) (lower_half five)) _ _ tree at high
    (few_written front back entry four three)
    (store_in_node h method committed k g m n 1 3 _ _ tree at high (omega arith)
    (λ e. omega (arith, e))
    (store_in_node h method committed k g m n 2 (first_key (upper_half five)) _ _ tree at high
    (omega arith) (λ e. omega (arith, e))
    (store_in_node h method committed k g m n 3 u _ later tree at high (omega arith)
    (λ e. omega (arith, e)) rest))))))))
  where
    five : Entries
    five = front ++ entry ∷ back

-- what the close of a split does
pub record Splits (h : Header) (s : Situation) (k : TreeLocals) (g : Shape) (m : Memory)
    (g' : Shape) (m' : Memory) (u : ℕ) : Type 0 where
  pub grows : Grows g m g' m'
  pub leaves : TreeLeaves h s k g m g' m'
  pub tree : IsLinked h.size g' m'
  pub top : g.top ≡ level_at m (root_in h.size m) → g'.top ≡ level_at m' (root_in h.size m')
  pub hangs : (g'.linked u ≡ true) × Hangs g' m' u

pub splits : (h : Header) (s : Situation) (k : TreeLocals) (g : Shape) (m m' : Memory) (n u : ℕ)
    (five : Entries) → IsLinked h.size g m → OwnsUnseen h k g m
    → g.linked n ≡ true → holds s (lock_of h n) ≡ true → k.fresh ≡ Some u
    → IsSplitAt h.size m m' n u (lower_half five) (upper_half five) (first_key (upper_half five))
    → AreHalves h.size (coded g m (level_at m n)) g.low (level_at m n) (g.low n) (bound_at m n) five
    → ((x : ℕ) → g.linked x ≡ true → k.hanging ≢ Some x → Hangs g m x → level_at m n ≢ 0
    → Each (λ entry. entry.1 ≢ x) five)
    → Splits h s k g m (with_node g u (first_key (upper_half five))) m' u
splits h s k g m m' n u five tree unseen linked held mine sp ha off = record {
  grows = split_grows h.size g m m' n u five tree linked un fit sp ha;
  leaves = record {
    others = λ a place of_a free low. sp.others (12 * a + place)
        (let fits = linked_low h.size g m tree a of_a in omega (arith, low))
        (one_more a place (off_words a n place (apart a free) low))
        (off_words a u place (not_new a of_a) low);
    unlinked = λ x was other. cc (isnt_same x u (λ e. other (mine ∙ sym (ap Some e))));
    used = (let e = last_same in omega arith);
    hanging = λ x of_x other hangs. (
      (λ e. hangs.0 (sym (old_low g.low u (first_key (upper_half five)) x (not_new x of_x)) ∙ e)),
      split_unnamed h.size g m m' n u five tree linked un fit sp ha x hangs.1
          (λ some. each_front (λ entry. entry.1 ≢ x) (lower_half five) (upper_half five)
          (subst (Each (λ entry. entry.1 ≢ x)) ha.whole (off x of_x other hangs some)))
          (λ some. each_back (λ entry. entry.1 ≢ x) (lower_half five) (upper_half five)
          (subst (Each (λ entry. entry.1 ≢ x)) ha.whole (off x of_x other hangs some))),
    );
    root = λ free. (
      sp.others (12 * h.size) (omega arith) (inr (omega (arith, n_low)))
          (inr (omega (arith, u_low))),
      refl,
    );
    count = λ free. last_same;
  };
  tree = split_linked h.size g m m' n u five tree linked un fit sp ha;
  top = split_top h.size g m m' n u five tree linked un fit sp ha;
  hangs = (
    cc (is_same u u refl),
    split_hangs_new h.size g m m' n u
        five tree linked un fit sp ha,
  );
}
  where
    un : g.linked u ≡ false
    un = (unseen.fresh u mine).0

    fit : u ≤ last_in h.size m
    fit = (unseen.fresh u mine).1

    u_low : u < h.size
    u_low = (let last = tree.last_low in omega (arith, fit))

    n_low : n < h.size
    n_low = linked_low h.size g m tree n linked

    last_same : last_in h.size m' ≡ last_in h.size m
    last_same = sp.others (12 * h.size + 1) (omega arith) (inr (omega (arith, n_low)))
        (inr (omega (arith, u_low)))

    apart : (a : ℕ) → holds s (lock_of h a) ≡ false → a ≢ n
    apart a free e = never free (cc)

    not_new : (a : ℕ) → g.linked a ≡ true → a ≢ u
    not_new a of_a e = never un (sym (ap g.linked e) ∙ of_a)

    one_more : (a place : ℕ) → (12 * a + place < 12 * n) ⊎ (12 * n + 12 ≤ 12 * a + place)
        → (12 * a + place < 12 * n + 1) ⊎ (12 * n + 12 ≤ 12 * a + place)
    one_more a place e2 = search arith
