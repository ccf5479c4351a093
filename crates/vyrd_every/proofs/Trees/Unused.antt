-- An unused node is taken, or there is none.
use Rattle.vyrd_every.proofs.Prelude
use Prelude.{◌≡◌, ◌≢◌, ℕ, ◌+◌, ◌*◌, ◌<◌, ◌≤◌, ◌⊎◌, inl, inr, Bool, true, false, cond, not, List, []}
use Prelude.{◌∷◌, Option, Some, None, refl, ap, ◌∙◌, sym, subst, arith, ◌==◌, ◌||◌, nat_le, filter}
use Prelude.{Header, Method, Amounts, is_at_most, same_of, same_number, isnt_same, isnt_at_most}
use Prelude.{Load, Store, Memory, with_cell, changed_cell, other_cell, Script, step, perform}
use Prelude.{Situation, holds, gone, used_cell, used_lock, root_lock, with_unused, holding, le_or}
use Prelude.{level_at, count_at, bound_at, right_at, last_in, root_in, entries_at, entries_from}
use Prelude.{gives, entries_alike, never, Shape, HasEntries, LeadsRight, IsLinked, Hangs}
use Prelude.{ShowsState, Grows, TreeLocals, TreeRely, TreeRight}
use Rattle.std.specs.List.{AllByRecursion as Each}
use Rattle.vyrd_tree.specs.Cells.{unlock_used}
use Rattle.vyrd_every.proofs.Trees.Parts.{OwnsUnseen, unseen_stays, tree_rely_more, tree_rely_less}
use Rattle.vyrd_every.proofs.Trees.Parts.{tree_load, tree_take, tree_give}
use Rattle.vyrd_every.proofs.Trees.Walks.{Onward}
use Rattle.vyrd_every.proofs.Trees.Kept.{entries_grow, linked_low}

-- the words of nodes and the root's word are the same, and the count in use is no less
pub record SameNodes (size : ℕ) (m m' : Memory) : Type 0 where
  pub words : (cell : ℕ) → cell < 12 * size + 1 → m' cell ≡ m cell
  pub more : last_in size m ≤ last_in size m'
  pub fits : last_in size m' < size

module _ (size : ℕ) (g : Shape) (m m' : Memory) (t : IsLinked size g m) (same : SameNodes size m m')
  where
    word : (n i : ℕ) → g.linked n ≡ true → i < 12 → m' (12 * n + i) ≡ m (12 * n + i)
    word n i linked low = same.words (12 * n + i)
        (let fits = linked_low size g m t n linked in omega (arith, low))

    root_same : root_in size m' ≡ root_in size m
    root_same = same.words (12 * size) (omega arith)

    entries_same : (n : ℕ) → g.linked n ≡ true → entries_at m' n ≡ entries_at m n
    entries_same n linked =
        ap (entries_from m' n 0) (word n 1 linked (omega arith))
        ∙ entries_alike m m' n 0 (count_at m n)
        (λ j from to.
        (let few = t.few n linked in
        (word n (4 + j) linked (omega arith), word n (8 + j) linked (omega arith))))

    pub nodes_grow : Grows g m g m'
    nodes_grow = record {
      linked = λ n l. l;
      low = λ n l. refl;
      level = λ n l. word n 0 l
          (omega arith);
      top = omega arith;
    }

    pub nodes_root : level_at m' (root_in size m') ≡ level_at m (root_in size m)
    nodes_root = ap (level_at m') root_same ∙ word (root_in size m) 0 t.root_linked (omega arith)

    pub nodes_linked : IsLinked size g m'
    nodes_linked = record {
      last_low = same.fits;
      taken = λ n l. (let le = t.taken n l in let more = same.more in omega arith);
      zero_linked = t.zero_linked;
      root_linked = ap g.linked root_same ∙ t.root_linked;
      root_first = ap g.low root_same ∙ t.root_first;
      zero_leaf = word 0 0 t.zero_linked (omega arith) ∙ t.zero_leaf;
      highest = λ n l. (let high = t.highest n l in let here = word n 0 l (omega arith) in let top =
          nodes_root in omega arith);
      shown_top = (let top = t.shown_top in let here = nodes_root in omega arith);
      ends = λ n l none. word n 2 l (omega arith)
          ∙ t.ends n l (sym (word n 3 l (omega arith)) ∙ none);
      link = λ n l on. link_is n l on;
      left = λ n l some. (let left = t.left n l some in record {
        node = left.node;
        linked = left.linked;
        leads = word left.node 3 left.linked (omega arith) ∙ left.leads;
        some = left.some;
      });
      one_first = λ a b la lb level zero_a zero_b.
          t.one_first a b la lb (sym (word a 0 la (omega arith)) ∙ level
          ∙ word b 0 lb (omega arith))
          zero_a zero_b;
      few = λ n l. (let few = t.few n l in let here = word n 1 l (omega arith) in omega arith);
      entries = λ n l. subst
          (λ above. HasEntries g m' above (g.low n) (bound_at m' n) (entries_at m' n))
          (sym (word n 0 l (omega arith)))
          (subst (λ bound. HasEntries g m' (level_at m n) (g.low n) bound (entries_at m' n))
          (sym (word n 2 l (omega arith)))
          (subst (HasEntries g m' (level_at m n) (g.low n) (bound_at m n)) (sym (entries_same n l))
          (entries_grow g g m m' (level_at m n) (g.low n) (bound_at m n) (entries_at m n) nodes_grow
          (t.entries n l))));
    }
      where
        link_is : (n : ℕ) → g.linked n ≡ true → right_at m' n ≢ 0 → LeadsRight g m' n
        link_is n l on =
            let right : right_at m' n ≡ right_at m n = word n 3 l (omega arith) in
            let was = t.link n l (λ none. on (right ∙ none)) in
            record {
              linked = ap g.linked right ∙ was.linked;
              same_level = ap (level_at m') right ∙ word (right_at m n) 0 was.linked (omega arith)
                  ∙ was.same_level ∙ sym (word n 0 l (omega arith));
              begins = ap g.low right ∙ was.begins ∙ sym (word n 2 l (omega arith));
              above = subst (λ b. g.low n < b) (sym (word n 2 l (omega arith))) was.above;
            }

    pub nodes_hang : (x : ℕ) → Hangs g m x → Hangs g m' x
    nodes_hang x hangs = (
      hangs.0,
      λ p l some.
          subst (Each (λ entry. entry.1 ≢ x)) (sym (entries_same p l))
          (hangs.1 p l (λ none. some (word p 0 l (omega arith) ∙ none))),
    )

    pub nodes_state : (s : Amounts) → ShowsState g m s → ShowsState g m' s
    nodes_state s st = record {
      shows = λ q n l leaf over. st.shows q n l (sym (word n 0 l (omega arith)) ∙ leaf)
          (record {
            from = over.from;
            to = subst (λ b. b ≢ 0 → q < b) (word n 2 l (omega arith))
                over.to;
          }) ∙ ap (gives q) (sym (entries_same n l));
      formed = st.formed;
    }

-- the locals with a node that was taken
abbrev pub with_fresh : TreeLocals → ℕ → List (ℕ × ℕ) → TreeLocals
with_fresh k u ws = record {
  fresh = Some u;
  hanging = k.hanging;
  pending = ws;
  out = false;
  called = k.called;
  answered = k.answered;
}

-- what is relied upon with a node taken is more
pub rely_fresh : (h : Header) (s : Situation) (k : TreeLocals) (u : ℕ) (ws : List (ℕ × ℕ))
    (g g' : Shape) (m m' : Memory) → k.fresh ≡ None
    → TreeRely h s (with_fresh k u ws) g m g' m' → TreeRely h s k g m g' m'
rely_fresh h s k u ws g g' m m' none r = search arith

-- With one lock held: the lock of the count is taken, and either there is no node, or one is taken
-- that wasn't linked.
pub unused_right : (h : Header) (method : Method) (committed : Bool) (lock : ℕ) (k : TreeLocals)
    (g : Shape) (m : Memory) (none : Script) (found : ℕ → Script)
    → lock < used_lock h → IsLinked h.size g m → OwnsUnseen h k g m → k.fresh ≡ None
    → Onward h (holding (lock ∷ []) method committed false) k g m none
    → ((u : ℕ) (ws : List (ℕ × ℕ)) (g' : Shape) (m' : Memory)
    → TreeRely h (holding (lock ∷ []) method committed false) k g m g' m'
    → OwnsUnseen h (with_fresh k u ws) g' m'
    → TreeRight h (holding (lock ∷ []) method committed false) (with_fresh k u ws) g' m' (found u))
    → Onward h (holding (lock ∷ []) method committed false) k g m (with_unused h none found)
unused_right h method committed lock k g m none found below tree unseen bare at_none at_some a x
    begun =
    tree_take h s k a x (used_lock h) under begun.tree (unseen_stays h s k g m a x unseen begun)
    lower
    (λ b y r. tree_load h both k b y (used_cell h) by_used r.tree
    (unseen_stays h both k a x b y (unseen_stays h s k g m a x unseen begun) r)
    (inr (inr (refl, first_held))) refl
    (λ c z r'. counted c z (last_in h.size y) (tree_rely_more h s k g a c m x z begun
    (tree_rely_less h both s k a c x z more (tree_rely_more h both k a b c x y z r r')))
    (unseen_stays h both k b y c z
    (unseen_stays h both k a x b y (unseen_stays h s k g m a x unseen begun) r) r')
    (r'.count first_held)
    (λ held out. r'.calm (more (root_lock h) held) out)))
  where
    s : Situation
    s = holding (lock ∷ []) method committed false

    both : Situation
    both = holding (used_lock h ∷ lock ∷ []) method committed false

    by_used : ℕ → Script
    by_used used = cond (nat_le h.size (used + 1)) (unlock_used h none)
        (perform (Store (used_cell h) (used + 1)) (unlock_used h (found (used + 1))))

    under : Script
    under = step (Load (used_cell h)) by_used

    first_held : holds both (used_lock h) ≡ true
    first_held = cc (same_number (used_lock h))

    more : (l : ℕ) → holds s l ≡ true → holds both l ≡ true
    more l e = search arith

    lower : (held : ℕ) → holds s held ≡ true → held < used_lock h
    lower held e = search (held, same_of, below, arith)

    not_used : (lock == used_lock h) ≡ false
    not_used = isnt_same lock (used_lock h) (λ e. omega (arith, e, below))

    released : filter (λ held. not (held == used_lock h)) (used_lock h ∷ lock ∷ []) ≡ lock ∷ []
    released = gone (used_lock h) (lock ∷ []) ∙ ap (λ b. cond (not b) (lock ∷ []) []) not_used

    -- the lock of the count is given back
    give : (k : TreeLocals) (later : Script) (c : Shape) (z : Memory) → IsLinked h.size c z
        → OwnsUnseen h k c z
        → ((d : Shape) (w : Memory) → TreeRely h s k c z d w → TreeRight h s k d w later)
        → TreeRight h both k c z (unlock_used h later)
    give k later c z t unseen' rest =
        tree_give h both k c z (used_lock h) later t unseen' refl (subst Later (sym released) rest)
      where
        Later : List ℕ → Type 0
        Later locks = (d : Shape) (w : Memory) → TreeRely h (holding locks method committed false) k
            c z d w
            → TreeRight h (holding locks method committed false) k d w later

    some_same : (p q : ℕ) → ◌≡◌ {A = Option ℕ} (Some p) (Some q) → p ≡ q
    some_same p q e = cc

    counted : (c : Shape) (z : Memory) (used : ℕ) → TreeRely h s k g m c z → OwnsUnseen h k c z
        → last_in h.size z ≡ used
        → (holds s (root_lock h) ≡ true → k.out ≡ false → c.top ≡ level_at z (root_in h.size z))
        → TreeRight h both k c z (by_used used)
    counted c z used r unseen' is calm = by_room (le_or h.size (used + 1))
      where
        Goal : Bool → Type 0
        Goal full = TreeRight h both k c z
            (cond full (unlock_used h none)
            (perform (Store (used_cell h) (used + 1)) (unlock_used h (found (used + 1)))))

        by_room : (h.size ≤ used + 1) ⊎ (used + 1 < h.size) → Goal (nat_le h.size (used + 1))
        by_room (inl full) = subst Goal (sym (is_at_most h.size (used + 1) full))
            (give k none c z r.tree unseen'
            (λ d w r'. at_none d w (tree_rely_more h s k g c d m z w r r')))
        by_room (inr room) = subst Goal (sym (isnt_at_most h.size (used + 1) room)) (
          taken,
          c,
          record {
            reaches = inr (refl, refl, first_held);
            grows = nodes_grow h.size c z after r.tree same;
            leaves = record {
              others = λ n place linked free low. other_cell z (used_cell h) (used + 1)
                  (12 * n + place) (not_cell n place linked low);
              unlinked = λ n un other. un;
              used = same.more;
              hanging = λ n linked other hangs. nodes_hang h.size c z after r.tree same n hangs;
              root = λ free. (same.words (12 * h.size) (omega arith), refl);
              count = λ free. absurd (never free first_held);
            };
            tree = nodes_linked h.size c z after r.tree same;
            top = λ quiet top quiet'. top ∙ sym (nodes_root h.size c z after r.tree same);
            closed = λ out quiet. absurd (never unseen'.quiet out);
            alone = λ out. cc;
            ahead = λ quiet out. cc;
            wrote = λ quiet out. cc;
            within = λ inside goes same. cc;
            taken = λ n mine. rw (← some_same (used + 1) n mine) (
              fresh_now,
              in_use,
              inr (omega
                  (arith, is)),
            );
            hung = λ n mine. let was = unseen'.hanging n mine in
                (was.0, nodes_hang h.size c z after r.tree same n was.1, inl mine);
            leads = λ state shows. nodes_state h.size c z after r.tree same state shows;
            pending = refl;
            out = sym (cc (unseen'.quiet));
            called = refl;
            answers = refl;
          },
          λ d w r'. give taken (found (used + 1)) d w r'.tree
              (unseen_stays h both taken c after d w unseen_now r')
              (λ e v r''. at_some (used + 1) writes e v
              (tree_rely_more h s k g c e m z v r (tree_rely_more h s k c c e z after v own
              (tree_rely_more h s k c d e after w v
              (rely_fresh h s k (used + 1) writes c d after w bare
              (tree_rely_less h both s taken c d after w more r'))
              (rely_fresh h s k (used + 1) writes d e w v bare r''))))
              (unseen_stays h s taken d w e v (unseen_stays h both taken c after d w unseen_now r')
              r'')),
        )
          where
            writes : List (ℕ × ℕ)
            writes = (used_cell h, used + 1) ∷ k.pending

            taken : TreeLocals
            taken = with_fresh k (used + 1) ((used_cell h, used + 1) ∷ k.pending)

            after : Memory
            after = with_cell z (used_cell h) (used + 1)

            last_after : last_in h.size (with_cell z (used_cell h) (used + 1)) ≡ used + 1
            last_after = changed_cell z (used_cell h) (used + 1)

            same : SameNodes h.size z (with_cell z (used_cell h) (used + 1))
            same = grind arith

            in_use : used + 1 ≤ last_in h.size (with_cell z (used_cell h) (used + 1))
            in_use = omega (arith, last_after)

            fresh_now : c.linked (used + 1) ≡ false
            fresh_now = search arith

            not_cell : (n place : ℕ) → c.linked n ≡ true → place < 12 → 12 * n + place ≢ used_cell h
            not_cell n place linked low e = grind arith

            unseen_now : OwnsUnseen h
                (with_fresh k (used + 1) ((used_cell h, used + 1) ∷ k.pending)) c
                (with_cell z (used_cell h) (used + 1))
            unseen_now = record {
              fresh = λ n mine. rw (← some_same (used + 1) n mine) (fresh_now, in_use);
              hanging = λ n mine. let was = unseen'.hanging n mine in
                  (was.0, nodes_hang h.size c z after r.tree same n was.1);
              quiet = refl;
            }

            -- the store, as what holds still of all else
            own : TreeRely h s k c z c (with_cell z (used_cell h) (used + 1))
            own = record {
              grows = nodes_grow h.size c z after r.tree same;
              held = λ n place linked held low. other_cell z (used_cell h) (used + 1)
                  (12 * n + place) (not_cell n place linked low);
              fresh = λ n mine. refl;
              used = λ n mine le. (let more = same.more in omega (arith, le));
              hanging = λ n mine hangs. nodes_hang h.size c z after r.tree same n hangs;
              root = λ held. (same.words (12 * h.size) (omega arith), refl);
              count = λ held. absurd (never (ap (λ b. b || false) not_used) held);
              tree = nodes_linked h.size c z after r.tree same;
              calm = λ held out. calm held out ∙ sym (nodes_root h.size c z after r.tree same);
            }
