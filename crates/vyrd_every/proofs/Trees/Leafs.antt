-- What the operations of the tree do in the leaf of their key: lookups, deletes, and the commits of
-- others that split no node.
use Rattle.vyrd_every.proofs.Prelude
use Prelude.{◌≡◌, ◌≢◌, ℕ, suc, ◌+◌, ◌-◌, ◌<◌, ◌≤◌, ◌^◌, ◌⊎◌, inl, inr, Bool, true, false, cond, not}
use Prelude.{List, [], ◌∷◌, ◌++◌, Option, Some, None, length, refl, ap, ◌∙◌, sym, subst, arith}
use Prelude.{◌||◌, drop, remove, then_some, Header, Method, Delete, Lookup, Args, BlockCommit}
use Prelude.{Called, is_observer, Amounts, amount_of, with_amount, next_state, answer_in, isnt_same}
use Prelude.{Store, Mark, Correct, Memory, Script, perform, returns, gives_up, Situation, holds}
use Prelude.{gone, is_there, isnt_there, count_cell, root_cell, lock_of, unlock_node, Arrived}
use Prelude.{walk_from, write_entries, rewrite, changes_nothing, walk_down, place_of, reply_of}
use Prelude.{look_in, lookup, delete_in, delete, holding, level_at, count_at, bound_at, root_in}
use Prelude.{Rising, IsLeafEntry, entries_at, Covers, Entries, gives, gives-append, gives_none}
use Prelude.{gives_one, entry_gives_none, take_front, drop_front, found_around, not_found, IsAround}
use Prelude.{each_back, length_join, entries_removed, gives_around, length-entries, Rewritten}
use Prelude.{loaded_at, changed_inside, value_is, never, written, Shape, HasEntries, IsLinked}
use Prelude.{ShowsState, TreeLocals, TreeRely, TreeRight, TreeCommits}
use Rattle.std.specs.List.{AllByRecursion as Each}
use Rattle.vyrd_base.specs.declared.subject.Method.TheVariants.{Tree as OfTree}
use Rattle.vyrd_base.proofs.AmountLaws.{amount_of-with_amount, IsAmounts-with_amount}
use Rattle.vyrd_every.proofs.Trees.Parts.{OwnsUnseen, unseen_stays, tree_rely_more, tree_load}
use Rattle.vyrd_every.proofs.Trees.Parts.{tree_give_last, Changeless, changeless}
use Rattle.vyrd_every.proofs.Trees.Walks.{AtNode, Onward, Arrives, walk_right}
use Rattle.vyrd_every.proofs.Trees.Order.{one_cover_in}
use Rattle.vyrd_every.proofs.Trees.Kept.{code, uncode, linked_low, rewritten_hangs, rewritten_state}
use Rattle.vyrd_every.proofs.Trees.Kept.{coded}
use Rattle.vyrd_every.proofs.Trees.Blocks.{with_pending, unseen_with, rely_with, tree_open, InBlock}
use Rattle.vyrd_every.proofs.Trees.Blocks.{store_in_node, store_entries, entry_writes, node_writes}
use Rattle.vyrd_every.proofs.Trees.Blocks.{node_rewritten, entries_kept, Rewrites, rewrites}

-- a node that has the key in its range, on a level
pub record IsIn (g : Shape) (m : Memory) (level n key : ℕ) : Type 0 where
  pub linked : g.linked n ≡ true
  pub level_is : level_at m n ≡ level
  pub covers : Covers m g.low n key

pub still_in : (h : Header) (s : Situation) (k : TreeLocals) (g : Shape) (m : Memory) (g' : Shape)
    (m' : Memory) (level n key : ℕ) → IsIn g m level n key
    → holds s (lock_of h n) ≡ true → TreeRely h s k g m g' m' → IsIn g' m' level n key
still_in h s k g m g' m' level n key is held rely = search (held, arith)

-- the key of a leaf's entry has 2^32 and the entry's value as its amount
pub present_in : (size : ℕ) (g : Shape) (m : Memory) (s : Amounts) (n key : ℕ)
    (front back : Entries) (entry : ℕ × ℕ) → IsLinked size g m → ShowsState g m s
    → IsIn g m 0 n key → IsAround key (entries_at m n) front entry back → amount_of s key ≡ 2 ^ 32
    + entry.1
present_in size g m s n key front back entry t st is around =
    let es = t.entries n is.linked in
    let one = gives_one key front entry back (subst Rising around.parts es.rise)
    (subst (Each IsLeafEntry) around.parts (es.leaf is.level_is)) around.key_is in
    st.shows key n is.linked is.level_is is.covers ∙ ap (gives key) around.parts
    ∙ gives-append key front (entry ∷ back) ∙ plus one.0 one.2
  where
    plus : {a b c : ℕ} → a ≡ 0 → b ≡ c → a + b ≡ c
    plus e f = omega arith

-- a key that no entry of its leaf has isn't there
pub absent_in : (size : ℕ) (g : Shape) (m : Memory) (s : Amounts) (n key : ℕ) → IsLinked size g m
    → ShowsState g m s → IsIn g m 0 n key
    → Each (λ x. x.0 ≢ key) (entries_at m n) → amount_of s key ≡ 0
absent_in size g m s n key t st is apart =
    let es = t.entries n is.linked in
    st.shows key n is.linked is.level_is is.covers ∙ gives_none key (entries_at m n)
    (es.leaf is.level_is) apart

-- the leaf of the key has other entries, which give the key another amount and every other key the
-- same
pub changed_in : (size : ℕ) (g : Shape) (m m' : Memory) (s : Amounts) (n key amount : ℕ)
    (new : Entries) → IsLinked size g m → ShowsState g m s
    → IsIn g m 0 n key → Rewritten size m m' n new → gives key new ≡ amount
    → ((q : ℕ) → q ≢ key → gives q new ≡ gives q (entries_at m n))
    → ShowsState g m' (with_amount s key amount)
changed_in size g m m' s n key amount new t st is r here there =
    rewritten_state _ g m _ s _ n _ t st is.linked r (IsAmounts-with_amount s _ _ st.formed)
    (λ leaf q over. changed_inside s _ _ q (entries_at m n) new here (there q)
    (st.shows q n is.linked is.level_is over))
    (λ q a linked leaf apart over. amount_of-with_amount s _ _ q
    ∙ ap (λ b. cond b amount (amount_of s q))
    (isnt_same q _
    (λ e. off apart (one_cover_in _ g m t a n key linked is.linked (leaf ∙ sym is.level_is)
    (subst (Covers m _ a) e over) is.covers))))
  where
    off : {a b : ℕ} → (a < b) ⊎ (b < a) → a ≢ b
    off e0 = search arith

-- the locals of an operation that has nothing but its call
pub record IsBare (k : TreeLocals) (called : Called) : Type 0 where
  pub fresh : k.fresh ≡ None
  pub hanging : k.hanging ≡ None
  pub called_is : k.called ≡ Some called

-- the return
pub tree_returns : (h : Header) (k : TreeLocals) (g : Shape) (m : Memory) (committed : Bool)
    (called : Called) (reply : ℕ) → IsLinked h.size g m
    → OwnsUnseen h k g m → IsBare k called
    → ((c : Called) → k.called ≡ Some c → is_observer c.method ≡ true → k.answered ≡ Some reply)
    → TreeRight h (holding [] called.method committed false) k g m (returns reply)
tree_returns h k g m committed called reply tree unseen bare answer = (
  over,
  g,
  record {
    reaches = tt;
    grows = c.grows;
    leaves = c.leaves;
    tree = tree;
    top = c.top;
    closed = c.closed;
    alone = c.alone;
    ahead = λ quiet out. absurd (never quiet out);
    wrote = λ quiet out. absurd (never quiet out);
    within = λ inside goes same. (refl, refl);
    taken = c.taken;
    hung = c.hung;
    leads = λ state shows. shows;
    pending = refl;
    out = or_false k.out;
    called = refl;
    answers = (refl, answer);
  },
  λ g' m' rely. record {
    rests = refl;
    fresh = bare.fresh;
    hanging = bare.hanging;
    called = refl;
    quiet = unseen.quiet;
  },
)
  where
    over : TreeLocals
    over = record k { called = None; answered = None }

    c : Changeless h (holding [] called.method committed false) k g m
    c = changeless h (holding [] called.method committed false) k g m unseen

    or_false : (b : Bool) → b ≡ (b || false)
    or_false b = search arith

-- a mutator returns whatever it has answered
pub tree_mutates : (k : TreeLocals) (called : Called) (reply : ℕ) → k.called ≡ Some called
    → is_observer called.method ≡ false
    → (c : Called) → k.called ≡ Some c → is_observer c.method ≡ true → k.answered ≡ Some reply
tree_mutates k called reply is mutator c is' observes = grind (arith, never)

-- with the leaf's lock held: commit, unlock it, and return 0
pub nothing_right : (h : Header) (called : Called) (k : TreeLocals) (g : Shape) (m : Memory) (n : ℕ)
    → IsLinked h.size g m
    → OwnsUnseen h k g m → IsBare k called → is_observer called.method ≡ false
    → ((state : Amounts) → ShowsState g m state → next_state called.method called.args 0 state
    ≡ Some state)
    → TreeRight h (holding (lock_of h n ∷ []) called.method false false) k g m (changes_nothing h n)
nothing_right h called k g m n tree unseen bare mutator stays = (
  k,
  g,
  record {
    reaches = tt;
    grows = c.grows;
    leaves = c.leaves;
    tree = tree;
    top = c.top;
    closed = c.closed;
    alone = c.alone;
    ahead = λ quiet out. absurd (never quiet out);
    wrote = λ quiet out. absurd (never quiet out);
    within = λ inside goes same. (refl, refl);
    taken = c.taken;
    hung = c.hung;
    leads = λ state shows. record {
      called = called;
      is_called = bare.called_is;
      reply = 0;
      returns = λ answer is. refl;
      next = state;
      allowed = stays _ shows;
      means = shows;
    };
    pending = refl;
    out = or_false k.out;
    called = refl;
    answers = refl;
  },
  λ g' m' rely. tree_give_last h _ _ k _ _ _ _ rely.tree
      (unseen_stays h (holding _ _ _ _) k g m _ _ unseen rely)
      (λ g'' m'' rely'. tree_returns h k _ _ _ called 0 rely'.tree
      (unseen_stays h (holding [] called.method true false) k g' m' _ _
      (unseen_stays h (holding (lock_of h n ∷ []) called.method true false) k g m g' m' unseen rely)
      rely') bare (tree_mutates k called 0 bare.called_is mutator)),
)
  where
    c : Changeless h (holding (lock_of h n ∷ []) called.method false false) k g m
    c = changeless h _ k g m unseen

    or_false : (b : Bool) → b ≡ (b || false)
    or_false b = search arith

-- A block with these writes gives the leaf other entries and commits, and the leaf is unlocked.
pub commit_block : (h : Header) (called : Called) (k : TreeLocals) (g : Shape) (m : Memory) (n : ℕ)
    (new : Entries) (ws : List (ℕ × ℕ)) (later : Script)
    → IsLinked h.size g m → AtNode h (holding (lock_of h n ∷ []) called.method false false) k g m n
    → level_at m n ≡ 0
    → ((g' : Shape) (m' : Memory)
    → TreeRely h (holding (lock_of h n ∷ []) called.method false false) k g m g' m'
    → Rewritten h.size m' (written ws m') n new)
    → ((g' : Shape) (m' : Memory)
    → TreeRely h (holding (lock_of h n ∷ []) called.method false false) k g m g' m'
    → HasEntries g' m' (level_at m' n) (g'.low n) (bound_at m' n) new)
    → ((g' : Shape) (m' : Memory)
    → TreeRely h (holding (lock_of h n ∷ []) called.method false false) k g m g' m'
    → (state : Amounts) → ShowsState g' m' state → Rewritten h.size m' (written ws m') n new
    → TreeCommits (with_pending k ws) (unlock_node h n later) g' (written ws m') state)
    → ((g' : Shape) (m' : Memory) → IsLinked h.size g' m' → OwnsUnseen h (with_pending k ws) g' m'
    → TreeRight h (holding [] called.method true false) (with_pending k ws) g' m' later)
    → InBlock h called.method false k g m n ws (perform (Mark BlockCommit) (unlock_node h n later))
commit_block h called k g m n new ws later tree at leaf rewritten right commits rest a x r = (
  with_pending k ws,
  a,
  record {
    reaches = tt;
    grows = w.grows;
    leaves = w.leaves;
    tree = w.tree;
    top = λ quiet is quiet'. w.top is;
    closed = λ out quiet. cc;
    alone = λ out. cc;
    ahead = λ quiet out. cc;
    wrote = λ quiet out. cc;
    within = λ inside goes same. (refl, refl);
    taken = w.taken;
    hung = λ y mine. let was = unseen.hanging y mine in (
      was.0,
      rewritten_hangs h.size a x (written ws x) n new y r.tree linked rw was.1
          (λ some. absurd (some leaf_here)),
      inl mine,
    );
    leads = λ state shows. commits a x r state shows rw;
    pending = refl;
    out = refl;
    called = refl;
    answers = refl;
  },
  λ b y r'. tree_give_last h called.method true (with_pending k ws) b y (lock_of h n) later r'.tree
      (unseen_stays h (holding (lock_of h n ∷ []) called.method true false) (with_pending k ws) a
      (written ws x) b y unseen_after r')
      (λ c z r''. rest c z r''.tree
      (unseen_stays h (holding [] called.method true false) (with_pending k ws) b y c z
      (unseen_stays h (holding (lock_of h n ∷ []) called.method true false) (with_pending k ws) a
      (written ws x) b y unseen_after r') r'')),
)
  where
    s : Situation
    s = holding (lock_of h n ∷ []) called.method false false

    inside : Situation
    inside = holding (lock_of h n ∷ []) called.method false true

    linked : a.linked n ≡ true
    linked = r.grows.linked n at.linked

    leaf_here : level_at x n ≡ 0
    leaf_here = r.grows.level n at.linked ∙ leaf

    unseen : OwnsUnseen h (with_pending k ws) a x
    unseen = unseen_with h k ws a x (unseen_stays h s k g m a x at.unseen r)

    rw : Rewritten h.size x (written ws x) n new
    rw = rewritten a x r

    w : Rewrites h inside (with_pending k ws) a x (written ws x)
    w = rewrites h inside (with_pending k ws) a x (written ws x) n new r.tree unseen linked at.held
        rw
        (right a x r) (λ y of_y other hangs some. absurd (some leaf_here))

    unseen_after : OwnsUnseen h (with_pending k ws) a (written ws x)
    unseen_after = record {
      fresh = λ y mine. let t = w.taken y mine in (t.0, t.1);
      hanging = λ y mine. let was = unseen.hanging y mine in (
        was.0,
        rewritten_hangs h.size a x (written ws x) n new y r.tree linked rw was.1
            (λ some. absurd (some leaf_here)),
      );
      quiet = refl;
    }

-- The leaf gets other entries in a block that commits, and is unlocked.
pub rewrite_right : (h : Header) (called : Called) (k : TreeLocals) (g : Shape) (m : Memory) (n : ℕ)
    (front back xs : Entries) (later : Script)
    → IsLinked h.size g m → AtNode h (holding (lock_of h n ∷ []) called.method false false) k g m n
    → level_at m n ≡ 0
    → entries_at m n ≡ front ++ back → length (front ++ xs) ≤ 4
    → ((g' : Shape) (m' : Memory)
    → TreeRely h (holding (lock_of h n ∷ []) called.method false false) k g m g' m'
    → HasEntries g' m' (level_at m' n) (g'.low n) (bound_at m' n) (front ++ xs))
    → ((g' : Shape) (m' : Memory)
    → TreeRely h (holding (lock_of h n ∷ []) called.method false false) k g m g' m'
    → (state : Amounts) → ShowsState g' m' state
    → Rewritten h.size m' (written (node_writes n front xs) m') n (front ++ xs)
    → TreeCommits (with_pending k (node_writes n front xs)) (unlock_node h n later) g'
    (written (node_writes n front xs) m') state)
    → ((g' : Shape) (m' : Memory) → IsLinked h.size g' m'
    → OwnsUnseen h (with_pending k (node_writes n front xs)) g' m'
    → TreeRight h (holding [] called.method true false) (with_pending k (node_writes n front xs)) g'
    m' later)
    → Onward h (holding (lock_of h n ∷ []) called.method false false) k g m
    (rewrite h n (length front) (front ++ xs) BlockCommit later)
rewrite_right h called k g m n front back xs later tree at leaf before few right commits rest g' m'
    rely =
    rw (drop_front front xs)
    (tree_open h (lock_of h n ∷ []) called.method false k g' m'
    (write_entries n (length front) xs counted) rely.tree
    (unseen_stays h s k g m g' m' at.unseen rely)
    (λ g'' m'' rely'. block g'' m'' (tree_rely_more h s k g g' g'' m m' m'' rely
    (rely_with h (lock_of h n ∷ []) called.method false true false k [] g' g'' m' m'' rely'))))
  where
    s : Situation
    s = holding (lock_of h n ∷ []) called.method false false

    closing : Script
    closing = perform (Mark BlockCommit) (unlock_node h n later)

    counted : Script
    counted = perform (Store (count_cell n) (length (front ++ xs))) closing

    parts : length (front ++ xs) ≡ length front + length xs
    parts = length_join front xs

    low_level : level_at m n ≤ g.top
    low_level = omega (arith, leaf)

    block : InBlock h called.method false k g m n [] (write_entries n (length front) xs counted)
    block = store_entries h called.method false k g m n (length front) xs
        [] counted tree at low_level (omega (arith, few, parts))
        (store_in_node h called.method false k g m n 1 (length (front ++ xs))
        (entry_writes n (length front) xs []) closing
        tree at low_level (omega arith) (λ e. omega (arith, e))
        (commit_block h called k g m n (front ++ xs) (node_writes n front xs) later tree at leaf
        (λ a x r. node_rewritten h.size x n (count_at x n) front back xs
        (linked_low h.size a x r.tree n (r.grows.linked n at.linked))
        (entries_kept h s k g m n a x tree at r ∙ before) few) right commits rest))

-- From the root to the leaf of the key: an operation's walk is never lost.
pub walk_down_right : (h : Header) (method : Method) (committed : Bool) (key : ℕ) (k : TreeLocals)
    (g : Shape) (m : Memory) (lost : Script) (arrived : Arrived → Script)
    → IsLinked h.size g m → OwnsUnseen h k g m → Arrives h method committed k g m key 0 arrived
    → TreeRight h (holding [] method committed false) k g m (walk_down h Correct key lost arrived)
walk_down_right h method committed key k g m lost arrived tree unseen there =
    tree_load h (holding [] method committed false) k g m (root_cell h)
    (λ root. walk_from h Correct key 0 h.size root lost arrived) tree unseen (inr (inl refl)) refl
    (λ g' m' rely. walk_right h method committed key 0 k g m lost arrived unseen there h.size
    (root_in h.size m) (λ x. false) g' m' rely (record {
      linked = rely.grows.linked (root_in h.size m) tree.root_linked;
      from = (let low = rely.grows.low (root_in h.size m) tree.root_linked in let first =
          tree.root_first in omega arith);
      high = omega arith;
      behind = λ x e. cc;
      enough = omega arith;
    }))

-- a lookup
pub lookup_right : (h : Header) (args : Args) (k : TreeLocals) (g : Shape) (m : Memory)
    → IsLinked h.size g m → OwnsUnseen h k g m
    → IsBare k (record { method = OfTree Lookup; args = args })
    → TreeRight h (holding [] (OfTree Lookup) false false) k g m (lookup h Correct args.a)
lookup_right h args k g m tree unseen bare =
    walk_down_right h (OfTree Lookup) false args.a k g m (returns 0)
    (λ at. look_in h at (place_of args.a at.entries)) tree unseen arrives
  where
    called : Called
    called = record { method = OfTree Lookup; args = args }

    free : Situation
    free = holding [] (OfTree Lookup) false false

    arrives : Arrives h (OfTree Lookup) false k g m args.a 0
        (λ at. look_in h at (place_of args.a at.entries))
    arrives n a x begun at leaf over b y r = (
      answered,
      b,
      record {
        reaches = refl;
        grows = c.grows;
        leaves = c.leaves;
        tree = r.tree;
        top = c.top;
        closed = c.closed;
        alone = c.alone;
        ahead = λ quiet out. absurd (never quiet out);
        wrote = λ quiet out. absurd (never quiet out);
        within = λ inside goes same. (refl, refl);
        taken = c.taken;
        hung = c.hung;
        leads = λ state shows. shows;
        pending = refl;
        out = or_false k.out;
        called = refl;
        answers = inr (record {
          called = called;
          is_called = bare.called_is;
          reply = reply;
          answer = refl;
          seen = λ state shows. by_place state shows (place_of args.a (entries_at x n)) refl;
        });
      },
      subst Later (sym (gone (lock_of h n) [])) later,
    )
      where
        s : Situation
        s = holding (lock_of h n ∷ []) (OfTree Lookup) false false

        reply : ℕ
        reply = reply_of (entries_at x n) (place_of args.a (entries_at x n))

        answered : TreeLocals
        answered = record k {
          answered = Some (reply_of (entries_at x n) (place_of args.a
              (entries_at x n)));
        }

        unseen' : OwnsUnseen h k b y
        unseen' = unseen_stays h s k a x b y at.unseen r

        c : Changeless h s k b y
        c = changeless h s k b y unseen'

        or_false : (b : Bool) → b ≡ (b || false)
        or_false true = refl
        or_false false = refl

        is : IsIn b y 0 n args.a
        is = still_in h s k a x b y 0 n args.a
            (record { linked = at.linked; level_is = leaf; covers = over }) at.held r

        same : entries_at y n ≡ entries_at x n
        same = entries_kept h s k a x n b y begun.tree at r

        by_place : (state : Amounts) → ShowsState b y state → (o : Option ℕ)
            → place_of args.a (entries_at x n) ≡ o
            → answer_in state (OfTree Lookup) args ≡ reply_of (entries_at x n)
            (place_of args.a (entries_at x n))
        by_place state shows None e =
            cc (isnt_there state args.a (absent_in h.size b y state n args.a r.tree shows is (subst
            (Each (λ x. x.0 ≢ args.a)) (sym same) (not_found args.a (entries_at x n) e))))
        by_place state shows (Some i) e =
            let found = found_around args.a (entries_at x n) i e in
            let around = found.4 in
            let amount : amount_of state args.a ≡ 2 ^ 32 + found.1.1 = present_in h.size b y state n
            args.a found.0 found.2 found.1 r.tree shows is
            (record { parts = same ∙ around.parts; key_is = around.key_is }) in
            cc (
              is_there state args.a (omega (arith, amount)),
              plus_one found.1.1 (amount_of state
                  args.a) amount,
              found.3,
              value_is (entries_at x n) found.0 found.2 found.1
                  around.parts,
            )
          where
            plus_one : (value amount : ℕ) → amount ≡ 2 ^ 32 + value → amount - 2 ^ 32 + 1 ≡ value
                + 1
            plus_one value amount e = omega arith

        Later : List ℕ → Type 0
        Later locks = (g' : Shape) → (now : Memory)
            → TreeRely h (holding locks (OfTree Lookup) false false) answered b y g' now
            → TreeRight h (holding locks (OfTree Lookup) false false) answered g' now
            (returns reply)

        later : Later []
        later g' now r' = tree_returns h answered g' now false called reply r'.tree
            (unseen_stays h free answered b y g' now
            (record { fresh = unseen'.fresh; hanging = unseen'.hanging; quiet = unseen'.quiet }) r')
            (record { fresh = bare.fresh; hanging = bare.hanging; called_is = bare.called_is })
            (λ c is observes. refl)

-- a delete
pub delete_right : (h : Header) (args : Args) (k : TreeLocals) (g : Shape) (m : Memory)
    → IsLinked h.size g m → OwnsUnseen h k g m
    → IsBare k (record { method = OfTree Delete; args = args })
    → TreeRight h (holding [] (OfTree Delete) false false) k g m (delete h Correct args.a)
delete_right h args k g m tree unseen bare =
    walk_down_right h (OfTree Delete) false args.a k g m gives_up
    (λ at. delete_in h at (place_of args.a at.entries)) tree unseen arrives
  where
    called : Called
    called = record { method = OfTree Delete; args = args }

    arrives : Arrives h (OfTree Delete) false k g m args.a 0
        (λ at. delete_in h at (place_of args.a at.entries))
    arrives n a x begun at leaf over = by_place (place_of args.a (entries_at x n)) refl
      where
        s : Situation
        s = holding (lock_of h n ∷ []) (OfTree Delete) false false

        is : IsIn a x 0 n args.a
        is = record { linked = at.linked; level_is = leaf; covers = over }

        removed : (i : ℕ) (front : Entries) (entry : ℕ × ℕ) (back : Entries) → length front ≡ i
            → IsAround args.a (entries_at x n) front entry back
            → Onward h s k a x (rewrite h n i (remove (entries_at x n) i) BlockCommit (returns 1))
        removed i front entry back len around =
            rw (← len)
            (rw remains
            (rewrite_right h called k a x n front (entry ∷ back) back (returns 1) begun.tree at leaf
            around.parts few right
            (λ b y r state shows rw. record {
              called = called;
              is_called = bare.called_is;
              reply = 1;
              returns = λ answer is. refl;
              next = with_amount state args.a 0;
              allowed = cc (is_there state args.a (let e = amount b y r state shows in omega (
                arith,
                e,
              )));
              means = changed_in h.size b y (written (node_writes n front back) y) state n args.a 0
                  (front ++ back) r.tree shows
                  (still_in h s k a x b y 0 n args.a is at.held r) rw
                  (gives-append args.a front back ∙ plus one.0 one.1)
                  (λ q apart. others q apart
                  ∙ ap (gives q) (sym (entries_kept h s k a x n b y begun.tree at r)));
            })
            (λ b y t unseen'. tree_returns h (with_pending k (node_writes n front back)) b y true
            called 1 t unseen'
            (record { fresh = bare.fresh; hanging = bare.hanging; called_is = bare.called_is })
            (tree_mutates (with_pending k (node_writes n front back)) called 1 bare.called_is
            refl))))
          where
            before : HasEntries a x (level_at x n) (a.low n) (bound_at x n) (front ++ entry ∷ back)
            before = grind (arith, around.parts, begun.tree.entries n at.linked)

            one : (gives args.a front ≡ 0) × (gives args.a back ≡ 0)
                × (gives args.a (entry ∷ back) ≡ 2 ^ 32 + entry.1)
            one = gives_one args.a front entry back before.rise (before.leaf leaf) around.key_is

            right : (b : Shape) (y : Memory) → TreeRely h s k a x b y
                → HasEntries b y (level_at y n) (b.low n) (bound_at y n) (front ++ back)
            right b y r =
                uncode h.size b y (level_at y n) (b.low n) (bound_at y n) (front ++ back)
                (entries_removed h.size (coded b y (level_at y n)) b.low (level_at y n) (b.low n)
                (bound_at y n) front back entry
                (r.grows.level n at.linked ∙ leaf)
                (code h.size b y (level_at y n) (b.low n) (bound_at y n) (front ++ entry ∷ back)
                (linked_low h.size b y r.tree)
                (subst (HasEntries b y (level_at y n) (b.low n) (bound_at y n))
                (entries_kept h s k a x n b y begun.tree at r ∙ around.parts)
                (r.tree.entries n (r.grows.linked n at.linked)))))

            amount : (b : Shape) (y : Memory) → TreeRely h s k a x b y → (state : Amounts)
                → ShowsState b y state → amount_of state args.a ≡ 2 ^ 32 + entry.1
            amount b y r state shows = present_in h.size b y state n args.a front back entry r.tree
                shows (still_in h s k a x b y 0 n args.a is at.held r)
                (record {
                  parts = entries_kept h s k a x n b y begun.tree at r
                      ∙ around.parts;
                  key_is = around.key_is;
                })

            remains : remove (entries_at x n) (length front) ≡ front ++ back
            remains = cc (around.parts, take_front front (entry ∷ back), drop_next front)
              where
                drop_next : (front : Entries) → drop (suc (length front)) (front ++ entry ∷ back)
                    ≡ back
                drop_next [] = refl
                drop_next (z ∷ front) = drop_next front

            few : length (front ++ back) ≤ 4
            few =
                let p = length_join front back in
                let q = length_join front (entry ∷ back) in
                let len : length (front ++ entry ∷ back) ≡ count_at x n =
                sym (ap length around.parts) ∙ length-entries x n 0 (count_at x n) in
                let few = begun.tree.few n at.linked in
                omega arith

            plus : {p q : ℕ} → p ≡ 0 → q ≡ 0 → p + q ≡ 0
            plus e f = omega arith

            leaves : Each IsLeafEntry (entry ∷ back)
            leaves = each_back IsLeafEntry front (entry ∷ back) (before.leaf leaf)

            others : (q : ℕ) → q ≢ args.a → gives q (front ++ back) ≡ gives q (entries_at x n)
            others q apart =
                let none = entry_gives_none q entry leaves.0 (λ e. apart (sym e ∙ around.key_is)) in
                let joined = gives_around q front back entry in
                let parts = ap (gives q) around.parts in
                omega (arith, none, joined, parts)

        by_place : (o : Option ℕ) → place_of args.a (entries_at x n) ≡ o
            → Onward h s k a x (delete_in h (loaded_at x n) (place_of args.a (entries_at x n)))
        by_place None e =
            rw e
            (λ b y r. nothing_right h called k b y n r.tree (unseen_stays h s k a x b y at.unseen r)
            bare refl
            (λ state shows. ap (λ b. then_some (not b) state) (isnt_there state args.a
            (absent_in h.size b y state n args.a r.tree shows
            (still_in h s k a x b y 0 n args.a is at.held r)
            (subst (Each (λ z. z.0 ≢ args.a)) (sym (entries_kept h s k a x n b y begun.tree at r))
            (not_found args.a (entries_at x n) e))))))
        by_place (Some i) e =
            let found = found_around args.a (entries_at x n) i e in
            rw e
            (removed i found.0 found.1 found.2 found.3 found.4)
