-- A new root does right: it is seen from the moment on when the root's word is stored, and shown
-- when its block is closed.
use Rattle.vyrd_every.proofs.Prelude
use Prelude.{◌≡◌, ◌≢◌, ℕ, ◌+◌, ◌*◌, ◌<◌, ◌≤◌, ◌⊎◌, inl, inr, true, false, cond, List, [], ◌∷◌, Some}
use Prelude.{None, refl, ap, ◌∙◌, sym, subst, arith, ◌==◌, Header, Insert, Args, BlockOpen}
use Prelude.{BlockClose, Amounts, amount_of, same_of, same_number, is_same, isnt_same, Store, Mark}
use Prelude.{Memory, with_cell, changed_cell, other_cell, Script, perform, returns, Situation}
use Prelude.{holds, root_cell, root_lock, unlock_root, write_node, grow_root, holding, level_at}
use Prelude.{count_at, bound_at, right_at, last_in, root_in, entries_at, entries_from, Covers}
use Prelude.{Entries, gives, entries_alike, new_low, old_low, off_words, NodeWritten, never}
use Prelude.{written, Shape, HasEntries, LeadsRight, HasNeighbour, IsLinked, Hangs, ShowsState}
use Prelude.{Grows, TreeLocals, IsWordOf, TreeRely, TreeLeaves, TreeRight}
use Rattle.std.specs.List.{AllByRecursion as Each}
use Rattle.vyrd_base.specs.declared.subject.Method.TheVariants.{Tree as OfTree}
use Rattle.vyrd_every.proofs.Trees.Parts.{OwnsUnseen, unseen_stays, tree_rely_more, Changeless}
use Rattle.vyrd_every.proofs.Trees.Parts.{changeless}
use Rattle.vyrd_every.proofs.Trees.Kept.{entries_grow, linked_low}
use Rattle.vyrd_every.proofs.Trees.Blocks.{with_pending, unseen_with, rely_with, tree_open}
use Rattle.vyrd_every.proofs.Trees.Splits.{with_node}
use Rattle.vyrd_every.proofs.Trees.Unused.{with_fresh, unused_right}
use Rattle.vyrd_every.proofs.Trees.SplitBlocks.{new_writes, new_stands}
use Rattle.vyrd_every.proofs.Trees.Fulls.{Ascending}
use Rattle.vyrd_every.proofs.Trees.Ascents.{insert_of, unlocked_end, still_ascending}
use Rattle.vyrd_every.proofs.Trees.Rounds.{GrowthRight}

-- Node u is a new root, one level above the old one, with two children: the old root, and another
-- node of its level.
pub record IsGrownAt (size : ℕ) (m m' : Memory) (u key child : ℕ) : Type 0 where
  pub last_is : last_in size m' ≡ last_in size m
  pub root_is : root_in size m' ≡ u
  pub others : (cell : ℕ) → cell < 12 * size → (cell < 12 * u) ⊎ (12 * u + 12 ≤ cell)
      → m' cell ≡ m cell
  pub new_level : level_at m' u ≡ level_at m (root_in size m) + 1
  pub new_bound : bound_at m' u ≡ 0
  pub new_right : right_at m' u ≡ 0
  pub new_few : count_at m' u ≤ 4
  pub new_entries : entries_at m' u ≡ (0, root_in size m) ∷ (key, child) ∷ []

module _ (size : ℕ) (g : Shape) (m m' : Memory) (u key child : ℕ) (t : IsLinked size g m)
    (gr : IsGrownAt size m m' u key child) (un : g.linked u ≡ false)
    (fit : u ≤ last_in size m) (linked : g.linked child ≡ true)
    (same_level : level_at m child ≡ level_at m (root_in size m)) (low_is : g.low child ≡ key)
    (some : key ≢ 0) where
  abbrev g' : Shape
  g' = with_node g u 0

  low : (x : ℕ) → g.linked x ≡ true → x < size
  low = linked_low size g m t

  not_new : {x : ℕ} → g.linked x ≡ true → x ≢ u
  not_new old e = never un (sym (ap g.linked e) ∙ old)

  still : {x : ℕ} → g.linked x ≡ true → g'.linked x ≡ true
  still {x} old = ap (λ b. cond b true (g.linked x)) (isnt_same x u (not_new old)) ∙ old

  u_linked : g'.linked u ≡ true
  u_linked = ap (λ b. cond b true (g.linked u)) (is_same u u refl)

  new_or : (x : ℕ) → g'.linked x ≡ true → (g.linked x ≡ true) ⊎ (x ≡ u)
  new_or x linked = search (same_of, arith)

  low_same : (x : ℕ) → g.linked x ≡ true → g'.low x ≡ g.low x
  low_same x old = old_low g.low u 0 x (not_new old)

  low_new : g'.low u ≡ 0
  low_new = new_low g.low u 0

  word_same : (x i : ℕ) → g.linked x ≡ true → i < 12 → m' (12 * x + i) ≡ m (12 * x + i)
  word_same x i old small = gr.others (12 * x + i) (let fits = low x old in omega (arith, small))
      (off_words x u i (not_new old) small)

  level_same : (x : ℕ) → g.linked x ≡ true → level_at m' x ≡ level_at m x
  level_same x old = word_same x 0 old (omega arith)

  entries_same : (x : ℕ) → g.linked x ≡ true → entries_at m' x ≡ entries_at m x
  entries_same x old = search (word_same, entries_alike, arith)

  top : level_at m' (root_in size m') ≡ level_at m (root_in size m) + 1
  top = ap (level_at m') gr.root_is ∙ gr.new_level

  pub grown_grows : Grows g m (with_node g u 0) m'
  grown_grows = search (still, low, low_same, level_same, top, arith)

  put : (level from bound : ℕ) (xs : Entries) (x : ℕ) → level_at m' x ≡ level → g'.low x ≡ from
      → bound_at m' x ≡ bound → entries_at m' x ≡ xs
      → HasEntries g' m' level from bound xs → HasEntries g' m' (level_at m' x) (g'.low x)
      (bound_at m' x) (entries_at m' x)
  put level from bound xs x a b d e es = search arith

  new_entries_are : HasEntries g' m' (level_at m (root_in size m) + 1) 0 0
      ((0, root_in size m) ∷ (key, child) ∷ [])
  new_entries_are = search (still, level_same, low_same, arith)

  entries_are : (x : ℕ) → (g.linked x ≡ true) ⊎ (x ≡ u) → HasEntries g' m' (level_at m' x)
      (g'.low x) (bound_at m' x) (entries_at m' x)
  entries_are x (inl old) =
      grind (arith, put, level_same, low_same, word_same, entries_same, entries_grow, grown_grows)
  entries_are x (inr at) = grind (arith, put, low_new, new_entries_are)

  link_is : (x : ℕ) → g.linked x ≡ true → right_at m' x ≢ 0 → LeadsRight g' m' x
  link_is x old on = search (word_same, still, level_same, low_same, arith)

  one_first_is : (a b : ℕ) → (g.linked a ≡ true) ⊎ (a ≡ u) → (g.linked b ≡ true) ⊎ (b ≡ u)
      → level_at m' a ≡ level_at m' b
      → g'.low a ≡ 0 → g'.low b ≡ 0 → a ≡ b
  one_first_is a b (inl old_a) (inl old_b) level zero_a zero_b =
      t.one_first a b old_a old_b (sym (level_same a old_a) ∙ level ∙ level_same b old_b)
      (sym (low_same a old_a) ∙ zero_a) (sym (low_same b old_b) ∙ zero_b)
  one_first_is a b (inl old_a) (inr at) level zero_a zero_b =
      absurd (let high = t.highest a old_a in let same = level_same a old_a in let new =
      ap (level_at m') at ∙ gr.new_level in omega (arith, high, same, new, level))
  one_first_is a b (inr at) (inl old_b) level zero_a zero_b =
      absurd (let high = t.highest b old_b in let same = level_same b old_b in let new =
      ap (level_at m') at ∙ gr.new_level in omega (arith, high, same, new, level))
  one_first_is a b (inr at) (inr at') level zero_a zero_b = at ∙ sym at'

  pub grown_linked : IsLinked size (with_node g u 0) m'
  grown_linked = record {
    last_low = (let low = t.last_low in let e = gr.last_is in omega (arith, e));
    taken = λ x l. taken_is x (new_or x l);
    zero_linked = still t.zero_linked;
    root_linked = ap g'.linked gr.root_is ∙ u_linked;
    root_first = ap g'.low gr.root_is ∙ low_new;
    zero_leaf = level_same 0 t.zero_linked ∙ t.zero_leaf;
    highest = λ x l. highest_is x (new_or x l);
    shown_top = (let shown = t.shown_top in omega (arith, top));
    ends = λ x l none. ends_is x (new_or x l) none;
    link = λ x l on. by_new_link x (new_or x l) on;
    left = λ x l some. left_is x (new_or x l) some;
    one_first = λ a b la lb. one_first_is a b (new_or a la) (new_or b lb);
    few = λ x l. few_is x (new_or x l);
    entries = λ x l. entries_are x (new_or x l);
  }
    where
      taken_is : (x : ℕ) → (g.linked x ≡ true) ⊎ (x ≡ u) → x ≤ last_in size m'
      taken_is x (inl old) = (let le = t.taken x old in let e = gr.last_is in omega (arith, e))
      taken_is x (inr at) = (let e = gr.last_is in omega (arith, e, at, fit))

      highest_is : (x : ℕ) → (g.linked x ≡ true) ⊎ (x ≡ u) → level_at m' x
          ≤ level_at m' (root_in size m')
      highest_is x (inl old) = let high = t.highest x old in let same = level_same x old in
          omega (arith, top, high, same)
      highest_is x (inr at) = let same = ap (level_at m') at
          ∙ gr.new_level in omega (arith, top, same)

      ends_is : (x : ℕ) → (g.linked x ≡ true) ⊎ (x ≡ u) → right_at m' x ≡ 0 → bound_at m' x ≡ 0
      ends_is x (inl old) none = word_same x 2 old (omega arith)
          ∙ t.ends x old (sym (word_same x 3 old (omega arith)) ∙ none)
      ends_is x (inr at) none = ap (bound_at m') at ∙ gr.new_bound

      by_new_link : (x : ℕ) → (g.linked x ≡ true) ⊎ (x ≡ u) → right_at m' x ≢ 0 → LeadsRight g' m' x
      by_new_link x (inl old) on = link_is x old on
      by_new_link x (inr at) on = absurd (on (ap (right_at m') at ∙ gr.new_right))

      left_is : (x : ℕ) → (g.linked x ≡ true) ⊎ (x ≡ u) → g'.low x ≢ 0 → HasNeighbour g' m' x
      left_is x (inl old) some =
          let l = t.left x old (λ none. some (low_same x old ∙ none)) in
          record {
            node = l.node;
            linked = still l.linked;
            leads = word_same l.node 3 l.linked
                (omega arith) ∙ l.leads;
            some = l.some;
          }
      left_is x (inr at) some = absurd (some (ap g'.low at ∙ low_new))

      few_is : (x : ℕ) → (g.linked x ≡ true) ⊎ (x ≡ u) → count_at m' x ≤ 4
      few_is x (inl old) = let same = word_same x 1 old (omega arith) in let few = t.few x old in
          omega arith
      few_is x (inr at) = subst (λ x. count_at m' x ≤ 4) (sym at) gr.new_few

  pub grown_state : (s : Amounts) → ShowsState g m s → ShowsState (with_node g u 0) m' s
  grown_state s st = record {
    shows = λ q a l leaf over. shows' q a leaf over (new_or a l);
    formed = st.formed;
  }
    where
      shows' : (q a : ℕ) → level_at m' a ≡ 0 → Covers m' g'.low a q → (g.linked a ≡ true) ⊎ (a ≡ u)
          → amount_of s q ≡ gives q (entries_at m' a)
      shows' q a leaf over (inl old) =
          let over_a : Covers m g.low a q = record {
            from = (let from = over.from in let e = low_same a old in omega (arith, from, e));
            to = subst (λ b. b ≢ 0 → q < b) (word_same a 2 old (omega arith)) over.to;
          } in
          st.shows q a old (sym (level_same a old) ∙ leaf) over_a
          ∙ ap (gives q) (sym (entries_same a old))
      shows' q a leaf over (inr at) = absurd
          (let same = ap (level_at m') at ∙ gr.new_level in omega (arith, same, leaf))

  -- what hangs does so still, except for the new root's child
  pub grown_hangs : (y : ℕ) → g.linked y ≡ true → y ≢ child → Hangs g m y
      → Hangs (with_node g u 0) m' y
  grown_hangs y old apart hangs =
      ((λ e. hangs.0 (sym (low_same y old) ∙ e)), λ p l some. unnamed p (new_or p l) some)
    where
      unnamed : (p : ℕ) → (g.linked p ≡ true) ⊎ (p ≡ u) → level_at m' p ≢ 0
          → Each (λ entry. entry.1 ≢ y) (entries_at m' p)
      unnamed p (inl old) some = subst (Each (λ entry. entry.1 ≢ y)) (sym (entries_same p old))
          (hangs.1 p old (λ none. some (level_same p old ∙ none)))
      unnamed p (inr at) some =
          subst (λ x. Each (λ entry. entry.1 ≢ y) (entries_at m' x)) (sym at)
          (subst (Each (λ entry. entry.1 ≢ y)) (sym gr.new_entries)
          ((λ e. hangs.0 (ap g.low (sym e) ∙ t.root_first)), ((λ e. apart (sym e)), tt)))

-- the nodes with another level of the shown root
abbrev pub with_top : Shape → ℕ → Shape
with_top g top = record { linked = g.linked; low = g.low; top = top }

pub top_grows : (g : Shape) (m : Memory) (t : ℕ) → g.top ≤ t → Grows g m (with_top g t) m
top_grows g m t more = grind (arith, more)

pub top_linked : (size : ℕ) (g : Shape) (m : Memory) → IsLinked size g m
    → IsLinked size (with_top g (level_at m (root_in size m))) m
top_linked size g m t = search (entries_grow, top_grows, arith)

-- In an open block of the caller, with this lock held since memory m: what comes next does right,
-- with these writes so far.
abbrev pub Inside : Header → TreeLocals → Shape → Memory → ℕ → List (ℕ × ℕ) → Script → Type 0
Inside h k g m lock ws script = (g' : Shape) (m' : Memory)
    → TreeRely h (holding (lock ∷ []) (OfTree Insert) true false) k g m g' m'
    → TreeRight h (holding (lock ∷ []) (OfTree Insert) true true) (with_pending k ws) g' m' script

pub store_word : (h : Header) (k : TreeLocals) (g : Shape) (m : Memory) (lock u place value : ℕ)
    (ws : List (ℕ × ℕ)) (later : Script) → OwnsUnseen h k g m
    → k.fresh ≡ Some u → u < h.size → place < 12
    → Inside h k g m lock ((12 * u + place, value) ∷ ws) later
    → Inside h k g m lock ws (perform (Store (12 * u + place) value) later)
store_word h k g m lock u place value ws later unseen mine fits low rest g' m' rely = (
  with_pending k ((12 * u + place, value) ∷ ws),
  g',
  record {
    reaches = inl (
      refl,
      refl,
      inl
          (record { node = u; place = place; is = refl; low = low; may = inl mine }),
    );
    grows = rw same c.grows;
    leaves = rw same c.leaves;
    tree = subst (IsLinked h.size g') (sym same) rely.tree;
    top = λ quiet is quiet'. rw same is;
    closed = λ out quiet. cc;
    alone = λ out. cc;
    ahead = λ quiet out. cc;
    wrote = λ quiet out. cc;
    within = λ inside goes same. (refl, refl);
    taken = λ x mine. let t = c.taken x mine in
        (t.0, rw same t.1, t.2);
    hung = λ x mine. let t = c.hung x mine in (t.0, rw same t.1, t.2);
    leads = λ state shows. rw same shows;
    pending = refl;
    out = sym not_root;
    called = refl;
    answers = refl;
  },
  λ g'' m'' rely'. rest g'' m'' (tree_rely_more h s k g g' g'' m m' m'' rely
      (rely_with h (lock ∷ []) (OfTree Insert) true true false k ((12 * u + place, value) ∷ ws) g'
      g'' m' m''
      (rw (← same) rely'))),
)
  where
    s : Situation
    s = holding (lock ∷ []) (OfTree Insert) true false

    inside : Situation
    inside = holding (lock ∷ []) (OfTree Insert) true true

    c : Changeless h inside (with_pending k ws) g' m'
    c = changeless h inside (with_pending k ws) g' m'
        (unseen_with h k ws g' m' (unseen_stays h s k g m g' m' unseen rely))

    not_root : (12 * u + place == root_cell h) ≡ false
    not_root = isnt_same (12 * u + place) (root_cell h) (λ e. omega (arith, low, e, fits))

    same : cond (12 * u + place == root_cell h) (written ((12 * u + place, value) ∷ ws) m') m' ≡ m'
    same = ap (λ b. cond b (written ((12 * u + place, value) ∷ ws) m') m') not_root

-- what the stores of a new root leave
grown_stands : (size : ℕ) (m : Memory) (u level key child root : ℕ) → u < size → root_in size m
    ≡ root → level_at m root ≡ level
    → IsGrownAt size m
    (with_cell (written (new_writes u (level + 1) 0 0 ((0, root) ∷ (key, child) ∷ [])) m)
    (12 * size) u) u key child
grown_stands size m u level key child root fits root_is level_is = record {
  last_is = other_cell m₂ (12 * size) u (12 * size + 1) (omega arith) ∙ w.others (12 * size + 1)
      (inr (omega (arith, fits)));
  root_is = changed_cell m₂ (12 * size) u;
  others = λ cell small off. other_cell m₂ (12 * size) u cell (omega (arith, small))
      ∙ w.others cell off;
  new_level = cc (at_u 0 (omega arith), w.level_is);
  new_bound = at_u 2 (omega arith) ∙ w.bound_is;
  new_right = at_u 3 (omega arith) ∙ w.right_is;
  new_few = (let e = at_u 1 (omega arith) ∙ w.count_is in omega (arith, e));
  new_entries = ap (entries_from end u 0) (at_u 1 (omega arith)) ∙ entries_alike m₂ end u 0
      (count_at m₂ u)
      (λ j from to.
      (let few = w.count_is in
      (at_u (4 + j) (omega (arith, to, few)), at_u (8 + j) (omega (arith, to, few))))) ∙ w.entries
      ∙ ap (λ root. (0, root) ∷ (key, child) ∷ []) (sym root_is);
}
  where
    m₂ : Memory
    m₂ = written (new_writes u (level + 1) 0 0 ((0, root) ∷ (key, child) ∷ [])) m

    end : Memory
    end = with_cell m₂ (12 * size) u

    w : NodeWritten m m₂ u (level + 1) 0 0 ((0, root) ∷ (key, child) ∷ [])
    w = new_stands m u (level + 1) 0 0 ((0, root) ∷ (key, child) ∷ []) refl

    at_u : (i : ℕ) → i < 12 → end (12 * u + i) ≡ m₂ (12 * u + i)
    at_u i low = other_cell m₂ (12 * size) u (12 * u + i) (omega (arith, fits, low))

-- the growth of a root
pub growth_right : (h : Header) (args : Args) → GrowthRight h args
growth_right h args = record { right = grow }
  where
    s : Situation
    s = holding (root_lock h ∷ []) (OfTree Insert) true false

    inside : Situation
    inside = holding (root_lock h ∷ []) (OfTree Insert) true true

    root_held : holds (holding (root_lock h ∷ []) (OfTree Insert) true true) (root_lock h) ≡ true
    root_held = cc (same_number (root_lock h))

    grow : (k : TreeLocals) (g : Shape) (m : Memory) (level key node root : ℕ) → IsLinked h.size g m
        → OwnsUnseen h k g m
        → Ascending k g m (insert_of args) level key node → m (root_cell h) ≡ root → level_at m root
        ≡ level → g.top ≡ level_at m (root_in h.size m)
        → TreeRight h s k g m (grow_root h level key node root (returns 1))
    grow k g m level key node root tree unseen up is level_is calm =
        unused_right h (OfTree Insert) true (root_lock h) k g m (unlock_root h (returns 1)) growing
        (omega arith) tree unseen up.fresh
        (λ b y r. unlocked_end h args k b y (root_lock h) r.tree
        (unseen_stays h s k g m b y unseen r) up.called_is)
        some_right g m (record {
          grows = record {
            linked = λ n l. l;
            low = λ n l. refl;
            level = λ n l. refl;
            top = omega arith;
          };
          held = λ n place linked held low. refl;
          fresh = λ n mine. refl;
          used = λ n mine le. le;
          hanging = λ n mine hangs. hangs;
          root = λ held. (refl, refl);
          count = λ held. refl;
          tree = tree;
          calm = λ held out. calm;
        })
      where
        closing : ℕ → Script
        closing u = perform (Store (root_cell h) u)
            (perform (Mark BlockClose) (unlock_root h (returns 1)))

        growing : ℕ → Script
        growing u = perform (Mark BlockOpen)
            (write_node u (level + 1) 0 0 ((0, root) ∷ (key, node) ∷ []) (closing u))

        some_right : (u : ℕ) (ws : List (ℕ × ℕ)) (b : Shape) (y : Memory) → TreeRely h s k g m b y
            → OwnsUnseen h (with_fresh k u ws) b y
            → TreeRight h s (with_fresh k u ws) b y (growing u)
        some_right u ws b y r unseen' =
            tree_open h (root_lock h ∷ []) (OfTree Insert) true k' b y
            (write_node u (level + 1) 0 0 ((0, root) ∷ (key, node) ∷ []) (closing u)) r.tree unseen'
            (λ c z r'. block c z (rely_with h (root_lock h ∷ []) (OfTree Insert) true true false k'
            [] b c y z r'))
          where
            k' : TreeLocals
            k' = with_fresh k u ws

            u_low : u < h.size
            u_low = (let fit = (unseen'.fresh u refl).1 in let last = r.tree.last_low in
                omega arith)

            writes : List (ℕ × ℕ)
            writes = new_writes u (level + 1) 0 0 ((0, root) ∷ (key, node) ∷ [])

            up' : Ascending k b y (insert_of args) level key node
            up' = still_ascending h s k g m b y (insert_of args) level key node unseen up r

            store_root : Inside h k' b y (root_lock h)
                (new_writes u (level + 1) 0 0 ((0, root) ∷ (key, node) ∷ [])) (closing u)
            store_root c z r' = (
              out_locals,
              with_node c u 0,
              record {
                reaches = inl (refl, refl, inr (refl, root_held));
                grows = rw seen
                    (grown_grows h.size c z end u key node r'.tree gr un fit linked same_level
                    low_is some);
                leaves = subst
                    (λ x. TreeLeaves h inside (with_pending k' writes) c z (with_node c u 0) x)
                    (sym seen) (record {
                      others = λ a place of_a free low. gr.others (12 * a + place)
                          (let fits = linked_low h.size c z r'.tree a of_a in omega (arith, low))
                          (off_words a u place (λ e. never un (sym (ap c.linked e) ∙ of_a)) low);
                      unlinked = λ x was other. cc (isnt_same x u (λ e. other (sym (ap Some e))));
                      used = (let e = gr.last_is in omega arith);
                      hanging = λ x of_x other hangs. grown_hangs h.size c z end u key node r'.tree
                          gr
                          un fit linked same_level low_is some x of_x
                          (λ e. other (up.hanging ∙ sym (ap Some e))) hangs;
                      root = λ free. absurd (never free root_held);
                      count = λ free. gr.last_is;
                    });
                tree = subst (IsLinked h.size (with_node c u 0)) (sym seen)
                    (grown_linked h.size c z end u key node r'.tree gr un fit linked same_level
                    low_is some);
                top = λ quiet is quiet'. cc;
                closed = λ out quiet. cc;
                alone = λ out. (root_held, refl);
                ahead = λ quiet out. rw seen (
                  ap Some (sym gr.root_is),
                  (let shown = r'.tree.shown_top in let new =
                      ap (level_at end) gr.root_is ∙ gr.new_level in omega arith),
                );
                wrote = λ quiet out. subst
                    (λ x. Each (λ write. IsWordOf (root_in h.size x) write.0) writes)
                    (sym seen) written_new;
                within = λ inside goes same. cc;
                taken = λ v mine. cc;
                hung = λ v mine. cc;
                leads = λ state shows. rw seen
                    (grown_state h.size c z end u key node r'.tree gr un fit linked same_level
                    low_is some state shows);
                pending = refl;
                out = sym (same_number (root_cell h));
                called = refl;
                answers = refl;
              },
              λ d v r''. closed d v r''.tree,
            )
              where
                out_locals : TreeLocals
                out_locals = record k {
                  fresh = None;
                  hanging = None;
                  pending = (root_cell h, u) ∷
                      new_writes u (level + 1) 0 0 ((0, root) ∷ (key, node) ∷ []);
                  out = true;
                }

                end : Memory
                end = with_cell
                    (written (new_writes u (level + 1) 0 0 ((0, root) ∷ (key, node) ∷ [])) z)
                    (12 * h.size) u

                seen : cond (root_cell h == root_cell h)
                    (written ((root_cell h, u) ∷ new_writes u (level + 1) 0 0
                    ((0, root) ∷ (key, node) ∷ [])) z) z
                    ≡ with_cell (written
                    (new_writes u (level + 1) 0 0 ((0, root) ∷ (key, node) ∷ [])) z) (12 * h.size) u
                seen = cc (same_number (root_cell h))

                unseen_c : OwnsUnseen h k' c z
                unseen_c = unseen_stays h s k' b y c z unseen' r'

                un : c.linked u ≡ false
                un = (unseen_c.fresh u refl).0

                fit : u ≤ last_in h.size z
                fit = (unseen_c.fresh u refl).1

                linked : c.linked node ≡ true
                linked = (unseen_c.hanging node up.hanging).0

                root_is : root_in h.size z ≡ root
                root_is = (r'.root root_held).0 ∙ (r.root root_held).0 ∙ is

                root_level : level_at z root ≡ level
                root_level = search arith

                same_level : level_at z node ≡ level_at z (root_in h.size z)
                same_level = r'.grows.level node (unseen'.hanging node up.hanging).0 ∙ up'.level_is
                    ∙ sym (ap (level_at z) root_is ∙ root_level)

                low_is : c.low node ≡ key
                low_is = r'.grows.low node (unseen'.hanging node up.hanging).0 ∙ up'.low_is

                some : key ≢ 0
                some e = (unseen_c.hanging node up.hanging).1.0 (low_is ∙ e)

                gr : IsGrownAt h.size z
                    (with_cell (written
                    (new_writes u (level + 1) 0 0 ((0, root) ∷ (key, node) ∷ [])) z)
                    (12 * h.size) u) u key node
                gr = grown_stands h.size z u level key node root u_low root_is root_level

                written_new : Each (λ write. IsWordOf (root_in h.size end) write.0) writes
                written_new =
                    grind (
                      arith,
                      gr.root_is,
                      word_of 9 (omega arith),
                      word_of 5 (omega arith),
                      word_of 8 (omega arith),
                      word_of 4 (omega arith),
                      word_of 3 (omega arith),
                    )
                  where
                    word_of : (place : ℕ) → place < 12 → IsWordOf u (12 * u + place)
                    word_of place low = record { place = place; low = low; is = refl }

                closed : (d : Shape) (v : Memory) → IsLinked h.size d v
                    → TreeRight h inside out_locals d v
                    (perform (Mark BlockClose) (unlock_root h (returns 1)))
                closed d v t = (
                  done_locals,
                  with_top d (level_at v (root_in h.size v)),
                  record {
                    reaches = tt;
                    grows = top_grows d v (level_at v (root_in h.size v)) t.shown_top;
                    leaves = record {
                      others = λ a place of_a free low. refl;
                      unlinked = λ x was other. was;
                      used = omega arith;
                      hanging = λ x of_x other hangs. hangs;
                      root = λ free. absurd (never free root_held);
                      count = λ free. refl;
                    };
                    tree = top_linked h.size d v t;
                    top = λ quiet is quiet'. cc;
                    closed = λ out quiet. refl;
                    alone = λ out. cc;
                    ahead = λ quiet out. cc;
                    wrote = λ quiet out. cc;
                    within = λ inside goes same. cc;
                    taken = λ x mine. cc;
                    hung = λ x mine. cc;
                    leads = λ state shows. record { shows = shows.shows; formed = shows.formed };
                    pending = refl;
                    out = refl;
                    called = refl;
                    answers = refl;
                  },
                  λ e x r3. unlocked_end h args done_locals e x (root_lock h) r3.tree
                      (unseen_stays h s done_locals (with_top d (level_at v (root_in h.size v))) v e
                      x (record { fresh = λ x mine. cc; hanging = λ x mine. cc; quiet = refl }) r3)
                      up.called_is,
                )
                  where
                    done_locals : TreeLocals
                    done_locals = record k {
                      fresh = None;
                      hanging = None;
                      pending = (
                        root_cell h,
                        u,
                      ) ∷ new_writes u (level + 1) 0 0 ((0, root) ∷ (key, node) ∷ []);
                      out =
                          false;
                    }

            block : Inside h k' b y (root_lock h) []
                (write_node u (level + 1) 0 0 ((0, root) ∷ (key, node) ∷ []) (closing u))
            block =
                store_word h k' b y (root_lock h) u 0 (level + 1) [] _ unseen' refl u_low
                (omega arith)
                (store_word h k' b y (root_lock h) u 1 2 _ _ unseen' refl u_low (omega arith)
                (store_word h k' b y (root_lock h) u 2 0 _ _ unseen' refl u_low (omega arith)
                (store_word h k' b y (root_lock h) u 3 0 _ _ unseen' refl u_low (omega arith)
                (store_word h k' b y (root_lock h) u 4 0 _ _ unseen' refl u_low (omega arith)
                (store_word h k' b y (root_lock h) u 8 root _ _ unseen' refl u_low (omega arith)
                (store_word h k' b y (root_lock h) u 5 key _ _ unseen' refl u_low (omega arith)
                (store_word h k' b y (root_lock h) u 9 node _ _ unseen' refl u_low
                (omega arith) store_root)))))))
