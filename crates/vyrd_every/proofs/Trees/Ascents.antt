-- An ascent does right, where a new root does.
use Rattle.vyrd_every.proofs.Prelude
use Prelude.{◌≡◌, ◌≢◌, ℕ, ◌+◌, ◌<◌, ◌≤◌, ◌⊎◌, inr, Bool, true, false, List, [], ◌∷◌, ◌++◌, Option}
use Prelude.{Some, None, length, refl, ap, ◌∙◌, sym, subst, arith, same_Some, ◌||◌, Header, Insert}
use Prelude.{Args, BlockOpen, BlockClose, Called, Store, Mark, Give, Memory, Script, perform}
use Prelude.{returns, Situation, count_cell, lock_of, used_lock, unlock_node, with_unused}
use Prelude.{with_entry, write_entries, rewrite, add_entry, split, split_entry, split_key}
use Prelude.{lower_half, upper_half, first_key, holding, level_at, count_at, bound_at, right_at}
use Prelude.{entries_at, AreEntries, Covers, Entries, each_front, each_back, between, IsBetween}
use Prelude.{drop_front, length_join, entries_added, with_entry_is, place_below_is, AreHalves}
use Prelude.{halves, length-entries, Rewritten, loaded_at, never, written, Shape, LeadsDown}
use Prelude.{HasEntries, LeadsRight, IsLinked, Hangs, TreeLocals, TreeRely, TreeRight, new_low}
use Rattle.std.specs.List.{AllByRecursion as Each}
use Rattle.vyrd_base.specs.declared.subject.Method.TheVariants.{Tree as OfTree}
use Rattle.vyrd_tree.specs.Contents.{BeginsAt}
use Rattle.vyrd_tree.specs.Laws.Alone.Entries.{each_join}
use Rattle.vyrd_every.proofs.Trees.Parts.{OwnsUnseen, unseen_stays, tree_rely_more, tree_give_last}
use Rattle.vyrd_every.proofs.Trees.Parts.{Changeless, changeless}
use Rattle.vyrd_every.proofs.Trees.Walks.{AtNode, Onward}
use Rattle.vyrd_every.proofs.Trees.Order.{one_cover_in}
use Rattle.vyrd_every.proofs.Trees.Kept.{coded, code, uncode, code_child, linked_low}
use Rattle.vyrd_every.proofs.Trees.Kept.{rewritten_state}
use Rattle.vyrd_every.proofs.Trees.Blocks.{with_pending, unseen_with, rely_with, tree_open, InBlock}
use Rattle.vyrd_every.proofs.Trees.Blocks.{store_in_node, store_entries, entry_writes, node_writes}
use Rattle.vyrd_every.proofs.Trees.Blocks.{node_rewritten, entries_kept, Rewrites, rewrites}
use Rattle.vyrd_every.proofs.Trees.Leafs.{IsIn, still_in, tree_mutates}
use Rattle.vyrd_every.proofs.Trees.Splits.{with_node, IsSplitAt, split_state}
use Rattle.vyrd_every.proofs.Trees.Unused.{with_fresh, unused_right}
use Rattle.vyrd_every.proofs.Trees.SplitBlocks.{split_writes, split_stands, split_stores, Splits}
use Rattle.vyrd_every.proofs.Trees.SplitBlocks.{splits}
use Rattle.vyrd_every.proofs.Trees.Fulls.{Ascending, three_two, loaded_same}

-- the call of an insert
abbrev pub insert_of : Args → Called
insert_of args = record { method = OfTree Insert; args = args }

-- the return of an insert, which lets go of a node that hangs still
pub ended_right : (h : Header) (args : Args) (k : TreeLocals) (g : Shape) (m : Memory)
    → IsLinked h.size g m → OwnsUnseen h k g m → k.called ≡ Some (insert_of args)
    → TreeRight h (holding [] (OfTree Insert) true false) k g m (returns 1)
ended_right h args k g m tree unseen is = (
  over,
  g,
  record {
    reaches = tt;
    grows = c.grows;
    leaves = c.leaves;
    tree = tree;
    top = λ quiet top quiet'. top;
    closed = λ out quiet. absurd (never unseen.quiet out);
    alone = λ out. absurd (never unseen.quiet out);
    ahead = λ quiet out. absurd (never unseen.quiet out);
    wrote = λ quiet out. absurd (never unseen.quiet out);
    within = λ inside goes same. cc;
    taken = λ n mine. cc;
    hung = λ n mine. cc;
    leads = λ state shows. shows;
    pending = refl;
    out = or_false k.out;
    called = refl;
    answers = (refl, tree_mutates k (insert_of args) 1 is refl);
  },
  λ g' m' rely. record {
    rests = refl;
    fresh = refl;
    hanging = refl;
    called = refl;
    quiet = unseen.quiet;
  },
)
  where
    over : TreeLocals
    over = record k { fresh = None; hanging = None; called = None; answered = None }

    c : Changeless h (holding [] (OfTree Insert) true false) k g m
    c = changeless h (holding [] (OfTree Insert) true false) k g m unseen

    or_false : (b : Bool) → b ≡ (b || false)
    or_false true = refl
    or_false false = refl

-- the node is unlocked, and the insert ends
pub unlocked_end : (h : Header) (args : Args) (k : TreeLocals) (g : Shape) (m : Memory) (lock : ℕ)
    → IsLinked h.size g m → OwnsUnseen h k g m
    → k.called ≡ Some (insert_of args)
    → TreeRight h (holding (lock ∷ []) (OfTree Insert) true false) k g m
    (perform (Give lock) (returns 1))
unlocked_end h args k g m lock tree unseen is =
    tree_give_last h (OfTree Insert) true k g m lock (returns 1) tree unseen
    (λ g' m' rely. ended_right h args k g' m' rely.tree
    (unseen_stays h (holding [] (OfTree Insert) true false) k g m g' m' unseen rely) is)

pub still_ascending : (h : Header) (s : Situation) (k : TreeLocals) (g : Shape) (m : Memory)
    (g' : Shape) (m' : Memory) (called : Called) (level key node : ℕ)
    → OwnsUnseen h k g m → Ascending k g m called level key node → TreeRely h s k g m g' m'
    → Ascending k g' m' called level key node
still_ascending h s k g m g' m' called level key node unseen up rely = search arith

-- a node covers its own low
covers_low : (size : ℕ) (g : Shape) (m : Memory) (n key : ℕ) → IsLinked size g m → g.linked n ≡ true
    → g.low n ≡ key → Covers m g.low n key
covers_low size g m n key t linked is = record {
  from = omega (arith, is);
  to = λ some. let on : LeadsRight g m n = t.link n linked (λ none. some (t.ends n linked none)) in
      (let above = on.above in omega (arith, is));
}

-- no entry of a node on the level above has the key of a node that hangs
key_apart : (h : Header) (k : TreeLocals) (g : Shape) (m : Memory) (called : Called)
    (level key node n : ℕ) → IsLinked h.size g m → OwnsUnseen h k g m
    → Ascending k g m called level key node → g.linked n ≡ true → level_at m n ≡ level + 1
    → Each (λ entry. entry.0 ≢ key) (entries_at m n)
key_apart h k g m called level key node n tree unseen up linked above =
    both (entries_at m n) ((tree.entries n linked).inner some).child
    ((unseen.hanging node up.hanging).1.1 n linked some)
  where
    some : level_at m n ≢ 0
    some e = omega (arith, above, e)

    apart : (entry : ℕ × ℕ) → LeadsDown g m (level_at m n) entry → entry.1 ≢ node → entry.0 ≢ key
    apart entry c off e =
        off (one_cover_in h.size g m tree entry.1 node key c.linked
        (unseen.hanging node up.hanging).0
        (let lower = c.lower in let at = up.level_is in omega (arith, above))
        (covers_low h.size g m entry.1 key tree c.linked (c.key_is ∙ e))
        (covers_low h.size g m node key tree (unseen.hanging node up.hanging).0 up.low_is))

    both : (xs : Entries) → Each (LeadsDown g m (level_at m n)) xs
        → Each (λ entry. entry.1 ≢ node) xs → Each (λ entry. entry.0 ≢ key) xs
    both [] p q = tt
    both (x ∷ xs) p q = (apart x p.0 q.0, both xs p.1 q.1)

-- what an ascent knows where it has arrived
pub record Above (h : Header) (args : Args) (k : TreeLocals) (g : Shape) (m : Memory)
    (level key node n : ℕ) : Type 0 where
  pub tree : IsLinked h.size g m
  pub at : AtNode h (holding (lock_of h n ∷ []) (OfTree Insert) true false) k g m n
  pub is : IsIn g m (level + 1) n key
  pub up : Ascending k g m (insert_of args) level key node
  pub low_level : level_at m n ≤ g.top

-- the entries with the new one, later on
new_entries : (h : Header) (k : TreeLocals) (g : Shape) (m : Memory) (called : Called)
    (level key node n : ℕ) (front back xs : Entries) → IsLinked h.size g m
    → OwnsUnseen h k g m → Ascending k g m called level key node → IsIn g m (level + 1) n key
    → entries_at m n ≡ xs → IsBetween key xs front back
    → AreEntries h.size (coded g m (level_at m n)) g.low (level_at m n) (g.low n) (bound_at m n)
    (front ++ (key, node) ∷ back)
new_entries h k g m called level key node n front back xs tree unseen up is same parts =
    entries_added h.size (coded g m (level_at m n)) g.low (level_at m n) (g.low n)
    (bound_at m n) xs front back (key, node)
    (code h.size g m (level_at m n) (g.low n) (bound_at m n) xs (linked_low h.size g m tree)
    (subst (HasEntries g m (level_at m n) (g.low n) (bound_at m n)) same
    (tree.entries n is.linked)))
    parts (is.covers.from, is.covers.to)
    (λ none. absurd (let e = is.level_is in omega (arith, none, e)))
    (λ some. first_apart (entries_at m n) ((tree.entries n is.linked).inner some).first
    (key_apart h k g m called level key node n tree unseen up is.linked is.level_is))
    (λ some. code_child h.size g m (level_at m n) (key, node) (linked_low h.size g m tree) (record {
      linked = (unseen.hanging node up.hanging).0;
      lower = (let e = is.level_is in let f = up.level_is in omega arith);
      key_is = up.low_is;
    }))
  where
    first_apart : (ys : Entries) → BeginsAt (g.low n) ys → Each (λ entry. entry.0 ≢ key) ys
        → g.low n ≢ key
    first_apart [] begins all e = absurd begins
    first_apart (y ∷ ys) begins all e = all.0 (begins ∙ e)

-- none of the entries with the new one leads to a node that hangs for another
none_leads : (k : TreeLocals) (g : Shape) (m : Memory) (node n : ℕ) (key : ℕ) (front back : Entries)
    → k.hanging ≡ Some node → g.linked n ≡ true
    → entries_at m n ≡ front ++ back
    → (x : ℕ) → k.hanging ≢ Some x → Hangs g m x → level_at m n ≢ 0 → Each (λ entry. entry.1 ≢ x)
    (front ++ (key, node) ∷ back)
none_leads k g m node n key front back mine linked same x other hangs some =
    search (each_join, each_front, each_back, arith)

-- in a node with room
pub room_right : (h : Header) (args : Args) (k : TreeLocals) (g : Shape) (m : Memory)
    (level key node n : ℕ) → Above h args k g m level key node n
    → length (entries_at m n) < 4
    → Onward h (holding (lock_of h n ∷ []) (OfTree Insert) true false) k g m
    (add_entry h (loaded_at m n) key node BlockClose (returns 1))
room_right h args k g m level key node n ab room = with_place place.0 place.1 place.2
  where
    s : Situation
    s = holding (lock_of h n ∷ []) (OfTree Insert) true false

    inside : Situation
    inside = holding (lock_of h n ∷ []) (OfTree Insert) true true

    place : (front : Entries) × (back : Entries) × IsBetween key (entries_at m n) front back
    place = between key (entries_at m n) (ab.tree.entries n ab.at.linked).rise
        (key_apart h k g m (insert_of args) level key node n ab.tree ab.at.unseen ab.up ab.is.linked
        ab.is.level_is)

    with_place : (front back : Entries) → IsBetween key (entries_at m n) front back
        → Onward h s k g m (add_entry h (loaded_at m n) key node BlockClose (returns 1))
    with_place front back parts =
        subst (λ place. Onward h s k g m
        (rewrite h n place (with_entry (entries_at m n) key node) BlockClose (returns 1)))
        (sym (place_below_is (entries_at m n) front back key parts))
        (subst (λ xs. Onward h s k g m (rewrite h n (length front) xs BlockClose (returns 1)))
        (sym (with_entry_is (entries_at m n) front back key node parts))
        (λ b y r.
        subst (λ ys. TreeRight h s k b y
        (perform (Mark BlockOpen) (write_entries n (length front) ys counted)))
        (sym (drop_front front ((key, node) ∷ back)))
        (tree_open h (lock_of h n ∷ []) (OfTree Insert) true k b y
        (write_entries n (length front) ((key, node) ∷ back) counted) r.tree
        (unseen_stays h s k g m b y ab.at.unseen r)
        (λ c z r'. block c z
        (tree_rely_more h s k g b c m y z r
        (rely_with h (lock_of h n ∷ []) (OfTree Insert) true true false k [] b c y z r'))))))
      where
        ws : List (ℕ × ℕ)
        ws = node_writes n front ((key, node) ∷ back)

        closing : Script
        closing = perform (Mark BlockClose) (unlock_node h n (returns 1))

        counted : Script
        counted = perform (Store (count_cell n) (length (front ++ (key, node) ∷ back))) closing

        few : length (front ++ (key, node) ∷ back) ≤ 4
        few = (let p = length_join front ((key, node) ∷ back) in let q = length_join front back in
            let e = ap length parts.parts in omega (arith, p, q, e, room))

        fits : length front + length ((key, node) ∷ back) ≤ 4
        fits = (let p = length_join front ((key, node) ∷ back) in omega (arith, p, few))

        close : InBlock h (OfTree Insert) true k g m n (node_writes n front ((key, node) ∷ back))
            closing
        close c z r = (
          let_go,
          c,
          record {
            reaches = tt;
            grows = w.grows;
            leaves = w.leaves;
            tree = w.tree;
            top = λ quiet is quiet'. w.top is;
            closed = λ out quiet. cc;
            alone = λ out. cc;
            ahead = λ quiet out. cc;
            wrote = λ quiet out. cc;
            within = λ inside goes same. cc;
            taken = λ v mine. cc;
            hung = λ v mine. cc;
            leads = λ state shows. rewritten_state h.size c z
                (written (node_writes n front ((key, node) ∷ back)) z) state state n
                (front ++ (key, node) ∷ back) r.tree shows
                is_c.linked rw shows.formed
                (λ leaf q over. absurd (let e = is_c.level_is in omega (arith, leaf, e)))
                (λ q v linked leaf apart over. refl);
            pending = refl;
            out = refl;
            called = refl;
            answers = refl;
          },
          λ d v r'. unlocked_end h args let_go d v (lock_of h n) r'.tree
              (unseen_stays h s let_go c (written (node_writes n front ((key, node) ∷ back)) z) d v
              (record { fresh = λ x mine. cc; hanging = λ x mine. cc; quiet = refl }) r')
              ab.up.called_is,
        )
          where
            let_go : TreeLocals
            let_go = record {
              fresh = None;
              hanging = None;
              pending = node_writes n front
                  ((key, node) ∷ back);
              out = false;
              called = k.called;
              answered = k.answered;
            }

            is_c : IsIn c z (level + 1) n key
            is_c = still_in h s k g m c z (level + 1) n key ab.is ab.at.held r

            unseen_c : OwnsUnseen h k c z
            unseen_c = unseen_stays h s k g m c z ab.at.unseen r

            same_c : entries_at z n ≡ entries_at m n
            same_c = entries_kept h s k g m n c z ab.tree ab.at r

            up_c : Ascending k c z (insert_of args) level key node
            up_c = still_ascending h s k g m c z (insert_of args) level key node ab.at.unseen ab.up
                r

            rw : Rewritten h.size z (written (node_writes n front ((key, node) ∷ back)) z) n
                (front ++ (key, node) ∷ back)
            rw = node_rewritten h.size z n (count_at z n) front back ((key, node) ∷ back)
                (linked_low h.size c z r.tree n is_c.linked) (same_c ∙ parts.parts) few

            w : Rewrites h inside (with_pending k ws) c z
                (written (node_writes n front ((key, node) ∷ back)) z)
            w = rewrites h inside (with_pending k ws) c z
                (written (node_writes n front ((key, node) ∷ back)) z) n
                (front ++ (key, node) ∷ back) r.tree
                (unseen_with h k ws c z unseen_c) is_c.linked ab.at.held rw
                (uncode h.size c z (level_at z n) (c.low n) (bound_at z n)
                (front ++ (key, node) ∷ back)
                (new_entries h k c z (insert_of args) level key node n front back
                (entries_at m n) r.tree unseen_c up_c is_c same_c parts))
                (λ x of_x other hangs some. none_leads k c z node n key front back ab.up.hanging
                is_c.linked (same_c ∙ parts.parts) x other hangs some)

        block : InBlock h (OfTree Insert) true k g m n []
            (write_entries n (length front) ((key, node) ∷ back) counted)
        block = store_entries h (OfTree Insert) true k g m n (length front) ((key, node) ∷ back)
            [] counted ab.tree ab.at ab.low_level fits
            (store_in_node h (OfTree Insert) true k g m n 1 (length (front ++ (key, node) ∷ back))
            (entry_writes n (length front) ((key, node) ∷ back) []) closing
            ab.tree ab.at ab.low_level (omega arith) (λ e. omega (arith, e)) close)

-- an ascent of this script does right from any node that hangs
pub record RoundsRight (h : Header) (args : Args) (next : ℕ → ℕ → ℕ → Script) : Type 0 where
  pub right : (k : TreeLocals) (g : Shape) (m : Memory) (level key node : ℕ) → IsLinked h.size g m
      → OwnsUnseen h k g m
      → Ascending k g m (insert_of args) level key node
      → TreeRight h (holding [] (OfTree Insert) true false) k g m (next level key node)

-- in a full node
pub full_above : (h : Header) (args : Args) (k : TreeLocals) (g : Shape) (m : Memory)
    (level key node n : ℕ) (next : ℕ → ℕ → ℕ → Script)
    → Above h args k g m level key node n → length (entries_at m n) ≡ 4 → RoundsRight h args next
    → Onward h (holding (lock_of h n ∷ []) (OfTree Insert) true false) k g m
    (with_unused h (unlock_node h n (returns 1)) (λ new.
    split_entry h (loaded_at m n) key node new BlockClose
    (next (level + 1) (split_key (loaded_at m n) key node) new)))
full_above h args k g m level key node n next ab full rounds =
    unused_right h (OfTree Insert) true (lock_of h n) k g m (unlock_node h n (returns 1)) splitting
    below ab.tree ab.at.unseen ab.up.fresh
    (λ b y r. unlocked_end h args k b y (lock_of h n) r.tree
    (unseen_stays h s k g m b y ab.at.unseen r) ab.up.called_is)
    some_right
  where
    s : Situation
    s = holding (lock_of h n ∷ []) (OfTree Insert) true false

    splitting : ℕ → Script
    splitting u = split_entry h (loaded_at m n) key node u BlockClose
        (next (level + 1) (split_key (loaded_at m n) key node) u)

    below : lock_of h n < used_lock h
    below = (let fits = linked_low h.size g m ab.tree n ab.at.linked in omega arith)

    some_right : (u : ℕ) (ws : List (ℕ × ℕ)) (b : Shape) (y : Memory) → TreeRely h s k g m b y
        → OwnsUnseen h (with_fresh k u ws) b y
        → TreeRight h s (with_fresh k u ws) b y (splitting u)
    some_right u ws b y r unseen =
        subst (λ arrived. TreeRight h s k' b y
        (split_entry h arrived key node u BlockClose
        (next (level + 1) (split_key arrived key node) u)))
        (loaded_same h s k g m n b y ab.tree ab.at r)
        (with_place place.0 place.1 place.2)
      where
        k' : TreeLocals
        k' = with_fresh k u ws

        at' : AtNode h s k' b y n
        at' = record {
          linked = r.grows.linked n ab.at.linked;
          held = ab.at.held;
          out = refl;
          unseen = unseen;
        }

        same : entries_at y n ≡ entries_at m n
        same = entries_kept h s k g m n b y ab.tree ab.at r

        is' : IsIn b y (level + 1) n key
        is' = still_in h s k g m b y (level + 1) n key ab.is ab.at.held r

        up' : Ascending k b y (insert_of args) level key node
        up' = still_ascending h s k g m b y (insert_of args) level key node ab.at.unseen ab.up r

        place : (front : Entries) × (back : Entries) × IsBetween key (entries_at y n) front back
        place = between key (entries_at y n) (r.tree.entries n at'.linked).rise
            (key_apart h k b y (insert_of args) level key node n r.tree
            (unseen_stays h s k g m b y ab.at.unseen r) up' is'.linked is'.level_is)

        low_level : level_at y n ≤ b.top
        low_level = (let e = r.grows.level n ab.at.linked in let top = r.grows.top in let was =
            ab.low_level in omega arith)

        u_low : u < h.size
        u_low = (let fit = (unseen.fresh u refl).1 in let last = r.tree.last_low in omega arith)

        not_n : u ≢ n
        not_n e = never (unseen.fresh u refl).0 (ap b.linked e ∙ at'.linked)

        with_place : (front back : Entries) → IsBetween key (entries_at y n) front back
            → TreeRight h s k' b y
            (split_entry h (loaded_at y n) key node u BlockClose
            (next (level + 1) (split_key (loaded_at y n) key node) u))
        with_place front back parts =
            subst (λ place. TreeRight h s k' b y
            (perform (Mark BlockOpen)
            (split (loaded_at y n) place (with_entry (entries_at y n) key node) u
            (perform (Mark BlockClose)
            (unlock_node h n
            (next (level + 1) (first_key (upper_half (with_entry (entries_at y n) key node)))
            u))))))
            (sym (place_below_is (entries_at y n) front back key parts))
            (subst (λ xs. TreeRight h s k' b y
            (perform (Mark BlockOpen) (split (loaded_at y n) (length front) xs u
            (perform (Mark BlockClose)
            (unlock_node h n (next (level + 1) (first_key (upper_half xs)) u))))))
            (sym (with_entry_is (entries_at y n) front back key node parts))
            (tree_open h (lock_of h n ∷ []) (OfTree Insert) true k' b y
            (split (loaded_at y n) (length front) (front ++ (key, node) ∷ back) u closing) r.tree
            unseen
            (λ c z r'. block c z (rely_with h (lock_of h n ∷ []) (OfTree Insert) true true false k'
            [] b c y z r'))))
          where
            new_key : ℕ
            new_key = first_key (upper_half (front ++ (key, node) ∷ back))

            closing : Script
            closing = perform (Mark BlockClose)
                (unlock_node h n
                (next (level + 1) (first_key (upper_half (front ++ (key, node) ∷ back))) u))

            writes : List (ℕ × ℕ)
            writes = split_writes n u (level_at y n) (bound_at y n) (right_at y n) (length front)
                (front ++ (key, node) ∷ back)

            four : length front + length back ≡ 4
            four = (let p = length_join front back in let e = ap length parts.parts in let f =
                ap length same in omega (arith, p, e, f, full))

            count_four : count_at y n ≡ 4
            count_four = sym (length-entries y n 0 (count_at y n)) ∙ ap length same ∙ full

            five_long : length (front ++ (key, node) ∷ back) ≡ 5
            five_long = (let p = length_join front ((key, node) ∷ back) in omega (arith, p, four))

            lengths : (length (lower_half (front ++ (key, node) ∷ back)) ≡ 3)
                × (length (upper_half (front ++ (key, node) ∷ back)) ≡ 2)
            lengths = three_two (front ++ (key, node) ∷ back) five_long

            close : InBlock h (OfTree Insert) true k' b y n
                (split_writes n u (level_at y n) (bound_at y n) (right_at y n) (length front)
                (front ++ (key, node) ∷ back)) closing
            close c z r' = (
              hung_locals,
              with_node c u (first_key (upper_half (front ++ (key, node) ∷ back))),
              record {
                reaches = tt;
                grows = w.grows;
                leaves = w.leaves;
                tree = w.tree;
                top = λ quiet is quiet'. w.top is;
                closed = λ out quiet. cc;
                alone = λ out. cc;
                ahead = λ quiet out. cc;
                wrote = λ quiet out. cc;
                within = λ inside goes same. cc;
                taken = λ v mine. cc;
                hung = λ v mine. subst (λ v. ((with_node c u new_key).linked v ≡ true)
                    × Hangs (with_node c u new_key) end v
                    × ((k.hanging ≡ Some v) ⊎ (c.linked v ≡ false)))
                    (same_Some u v mine) (w.hangs.0, w.hangs.1, inr (unseen_c.fresh u refl).0);
                leads = λ state shows.
                    split_state h.size c z end n u (front ++ (key, node) ∷ back) r'.tree is_c.linked
                    (unseen_c.fresh u refl).0 (unseen_c.fresh u refl).1 sp ha
                    state state shows.formed shows
                    (λ leaf q over. absurd (let e = is_c.level_is in omega (arith, leaf, e)))
                    (λ q v linked leaf off over. refl);
                pending = refl;
                out = refl;
                called = refl;
                answers = refl;
              },
              λ d v r''. tree_give_last h (OfTree Insert) true hung_locals d v (lock_of h n)
                  (next (level + 1) new_key u) r''.tree
                  (unseen_stays h s hung_locals (with_node c u new_key) end d v unseen_after r'')
                  (λ e t r3. rounds.right hung_locals e t (level + 1) new_key u r3.tree
                  (unseen_stays h (holding [] (OfTree Insert) true false) hung_locals d v e t
                  (unseen_stays h s hung_locals (with_node c u new_key) end d v unseen_after r'')
                  r3)
                  (record {
                    called_is = ab.up.called_is;
                    fresh = refl;
                    hanging = refl;
                    level_is = r3.grows.level u (r''.grows.linked u w.hangs.0)
                        ∙ r''.grows.level u w.hangs.0 ∙ sp.new_level ∙ is_c.level_is;
                    low_is = r3.grows.low u (r''.grows.linked u w.hangs.0)
                        ∙ r''.grows.low u w.hangs.0
                        ∙ new_low c.low u new_key;
                  })),
            )
              where
                hung_locals : TreeLocals
                hung_locals = record {
                  fresh = None;
                  hanging = Some u;
                  pending = split_writes n u (level_at y n) (bound_at y n) (right_at y n)
                      (length front) (front ++ (key, node) ∷ back);
                  out = false;
                  called = k.called;
                  answered = k.answered;
                }

                end : Memory
                end = written (split_writes n u (level_at y n) (bound_at y n) (right_at y n)
                    (length front) (front ++ (key, node) ∷ back)) z

                inside : Situation
                inside = holding (lock_of h n ∷ []) (OfTree Insert) true true

                unseen_now : OwnsUnseen h k' c z
                unseen_now = unseen_stays h s k' b y c z unseen r'

                unseen_c : OwnsUnseen h (with_pending k' writes) c z
                unseen_c = unseen_with h k' writes c z unseen_now

                is_c : IsIn c z (level + 1) n key
                is_c = still_in h s k' b y c z (level + 1) n key is' at'.held r'

                same_c : entries_at z n ≡ entries_at y n
                same_c = entries_kept h s k' b y n c z r.tree at' r'

                -- as one that hangs for the locals without the node that was taken
                plain : OwnsUnseen h k c z
                plain = record {
                  fresh = λ v mine. absurd (none_isnt v (sym ab.up.fresh ∙ mine));
                  hanging = unseen_now.hanging;
                  quiet = (unseen_stays h s k g m b y ab.at.unseen r).quiet;
                }
                  where
                    none_isnt : (v : ℕ) → ◌≡◌ {A = Option ℕ} None (Some v) → ⊥
                    none_isnt v e = cc

                up_c : Ascending k c z (insert_of args) level key node
                up_c = record {
                  called_is = ab.up.called_is;
                  fresh = ab.up.fresh;
                  hanging = ab.up.hanging;
                  level_is = r'.grows.level node (unseen.hanging node ab.up.hanging).0
                      ∙ up'.level_is;
                  low_is = r'.grows.low node (unseen.hanging node ab.up.hanging).0 ∙ up'.low_is;
                }

                sp : IsSplitAt h.size z
                    (written (split_writes n u (level_at y n) (bound_at y n) (right_at y n)
                    (length front) (front ++ (key, node) ∷ back)) z) n u
                    (lower_half (front ++ (key, node) ∷ back))
                    (upper_half (front ++ (key, node) ∷ back))
                    (first_key (upper_half (front ++ (key, node) ∷ back)))
                sp = split_stands h.size z n u (level_at y n) (bound_at y n) (right_at y n) front
                    back (key, node)
                    (linked_low h.size c z r'.tree n is_c.linked) u_low not_n
                    (r'.held n 0 at'.linked at'.held (omega arith))
                    (r'.held n 2 at'.linked at'.held (omega arith))
                    (r'.held n 3 at'.linked at'.held (omega arith))
                    (r'.held n 1 at'.linked at'.held (omega arith) ∙ count_four)
                    (same_c ∙ parts.parts) lengths.0 lengths.1

                ha : AreHalves h.size (coded c z (level_at z n)) c.low (level_at z n) (c.low n)
                    (bound_at z n) (front ++ (key, node) ∷ back)
                ha = halves h.size (coded c z (level_at z n)) c.low (level_at z n) (c.low n)
                    (bound_at z n) (front ++ (key, node) ∷ back) five_long
                    (new_entries h k c z (insert_of args) level key node n front back
                    (entries_at y n) r'.tree plain up_c is_c same_c parts)

                w : Splits h inside (with_pending k' writes) c z
                    (with_node c u (first_key (upper_half (front ++ (key, node) ∷ back))))
                    (written (split_writes n u (level_at y n) (bound_at y n) (right_at y n)
                    (length front) (front ++ (key, node) ∷ back)) z) u
                w = splits h inside (with_pending k' writes) c z
                    (written (split_writes n u (level_at y n) (bound_at y n) (right_at y n)
                    (length front) (front ++ (key, node) ∷ back)) z) n u
                    (front ++ (key, node) ∷ back) r'.tree unseen_c is_c.linked at'.held refl sp ha
                    (λ x of_x other hangs some. none_leads k c z node n key front back ab.up.hanging
                    is_c.linked (same_c ∙ parts.parts) x other hangs some)

                unseen_after : OwnsUnseen h hung_locals
                    (with_node c u (first_key (upper_half (front ++ (key, node) ∷ back))))
                    (written (split_writes n u (level_at y n) (bound_at y n) (right_at y n)
                    (length front) (front ++ (key, node) ∷ back)) z)
                unseen_after = record {
                  fresh = λ v mine. cc;
                  hanging = λ v mine. subst (λ v. ((with_node c u new_key).linked v ≡ true)
                      × Hangs (with_node c u new_key) end v) (same_Some u v mine) w.hangs;
                  quiet = refl;
                }

            block : InBlock h (OfTree Insert) true k' b y n []
                (split (loaded_at y n) (length front) (front ++ (key, node) ∷ back) u closing)
            block = split_stores h (OfTree Insert) true k' b y n u front back
                (key, node) closing r.tree at' low_level refl u_low four lengths.0 lengths.1 close
