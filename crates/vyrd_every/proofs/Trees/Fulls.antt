-- What an insert does in a full leaf, where its ascent does right: there is no node and nothing
-- changes, or the leaf is split.
use Rattle.vyrd_every.proofs.Prelude
use Prelude.{◌≡◌, ◌≢◌, ℕ, ◌+◌, ◌<◌, ◌≤◌, ◌^◌, ◌⊎◌, inr, true, false, cond, not, List, [], ◌∷◌, ◌++◌}
use Prelude.{Option, Some, None, length, refl, ap, ◌∙◌, sym, subst, arith, then_some, Header}
use Prelude.{Insert, Args, BlockOpen, BlockCommit, Called, amount_of, with_amount, isnt_same, Mark}
use Prelude.{Correct, Memory, Script, perform, returns, Situation, isnt_there, lock_of, used_lock}
use Prelude.{unlock_node, with_entry, split, split_entry, split_key, lower_half, upper_half}
use Prelude.{first_key, ascend, changes_nothing, holding, level_at, count_at, bound_at, right_at}
use Prelude.{IsLeafEntry, entries_at, Covers, Entries, gives, gives_none, entry_gives_it}
use Prelude.{entry_gives_none, between, IsBetween, length_join, entries_added, gives_around}
use Prelude.{with_entry_is, place_below_is, AreHalves, halves, length-entries, loaded_at}
use Prelude.{changed_inside, written, WillReturn, Shape, HasEntries, IsLinked, Hangs, TreeLocals}
use Prelude.{TreeRely, TreeRight, never, new_low}
use Rattle.std.specs.List.{AllByRecursion as Each}
use Rattle.vyrd_base.specs.declared.subject.Method.TheVariants.{Tree as OfTree}
use Rattle.vyrd_base.proofs.AmountLaws.{amount_of-with_amount, IsAmounts-with_amount}
use Rattle.vyrd_every.proofs.Trees.Parts.{OwnsUnseen, unseen_stays, tree_give_last}
use Rattle.vyrd_every.proofs.Trees.Walks.{AtNode}
use Rattle.vyrd_every.proofs.Trees.Order.{one_cover_in}
use Rattle.vyrd_every.proofs.Trees.Kept.{coded, code, linked_low}
use Rattle.vyrd_every.proofs.Trees.Blocks.{with_pending, unseen_with, rely_with, tree_open, InBlock}
use Rattle.vyrd_every.proofs.Trees.Blocks.{entries_kept}
use Rattle.vyrd_every.proofs.Trees.Leafs.{IsIn, still_in, absent_in, IsBare, nothing_right}
use Rattle.vyrd_every.proofs.Trees.Inserts.{FullRight}
use Rattle.vyrd_every.proofs.Trees.Splits.{with_node, IsSplitAt, split_state}
use Rattle.vyrd_every.proofs.Trees.Unused.{with_fresh, unused_right}
use Rattle.vyrd_every.proofs.Trees.SplitBlocks.{split_writes, split_stands, split_stores, Splits}
use Rattle.vyrd_every.proofs.Trees.SplitBlocks.{splits}

-- where an ascent is: a linked node hangs, whose level and low are these
pub record Ascending (k : TreeLocals) (g : Shape) (m : Memory) (called : Called)
    (level key node : ℕ) : Type 0 where
  pub called_is : k.called ≡ Some called
  pub fresh : k.fresh ≡ None
  pub hanging : k.hanging ≡ Some node
  pub level_is : level_at m node ≡ level
  pub low_is : g.low node ≡ key

-- an ascent of an insert does right, and the insert returns 1 after it
pub record AscentRight (h : Header) (args : Args) : Type 0 where
  pub right : (k : TreeLocals) (g : Shape) (m : Memory) (level key node : ℕ) → IsLinked h.size g m
      → OwnsUnseen h k g m
      → Ascending k g m (record { method = OfTree Insert; args = args }) level key node
      → TreeRight h (holding [] (OfTree Insert) true false) k g m
      (ascend h Correct 16 level key node (returns 1))
  pub returns_one : (level key node : ℕ)
      → WillReturn 1 (ascend h Correct 16 level key node (returns 1))

pub three_two : (five : Entries) → length five ≡ 5 → (length (lower_half five) ≡ 3)
    × (length (upper_half five) ≡ 2)
three_two five len = search arith

-- the node is loaded the same as long as its lock is held
pub loaded_same : (h : Header) (s : Situation) (k : TreeLocals) (g : Shape) (m : Memory) (n : ℕ)
    (g' : Shape) (m' : Memory) → IsLinked h.size g m → AtNode h s k g m n
    → TreeRely h s k g m g' m' → loaded_at m' n ≡ loaded_at m n
loaded_same h s k g m n g' m' tree at rely =
    cc (
      rely.held n 0 at.linked at.held (omega arith),
      rely.held n 2 at.linked at.held
          (omega arith),
      rely.held n 3 at.linked at.held (omega arith),
      entries_kept h s k g m n g' m' tree at rely,
    )

pub full_right : (h : Header) (args : Args) (k : TreeLocals) (g : Shape) (m : Memory)
    → args.a < 2 ^ 32 → args.b < 2 ^ 32
    → IsBare k (record { method = OfTree Insert; args = args }) → AscentRight h args
    → FullRight h args k g m
full_right h args k g m small_key small bare ascent n a x begun at is full apart =
    unused_right h (OfTree Insert) false (lock_of h n) k a x (changes_nothing h n) splitting below
    begun.tree at.unseen bare.fresh
    (λ b y r. nothing_right h called k b y n r.tree (unseen_stays h s k a x b y at.unseen r) bare
    refl (λ state shows. refl))
    some_right
  where
    called : Called
    called = record { method = OfTree Insert; args = args }

    s : Situation
    s = holding (lock_of h n ∷ []) (OfTree Insert) false false

    after : ℕ → ℕ → Script
    after key u = ascend h Correct 16 0 key u (returns 1)

    splitting : ℕ → Script
    splitting u = split_entry h (loaded_at x n) args.a args.b u BlockCommit
        (after (split_key (loaded_at x n) args.a args.b) u)

    below : lock_of h n < used_lock h
    below = (let fits = linked_low h.size a x begun.tree n at.linked in omega arith)

    some_right : (u : ℕ) (ws : List (ℕ × ℕ)) (b : Shape) (y : Memory) → TreeRely h s k a x b y
        → OwnsUnseen h (with_fresh k u ws) b y
        → TreeRight h s (with_fresh k u ws) b y (splitting u)
    some_right u ws b y r unseen =
        subst (λ arrived. TreeRight h s k' b y
        (split_entry h arrived args.a args.b u BlockCommit
        (after (split_key arrived args.a args.b) u)))
        (loaded_same h s k a x n b y begun.tree at r)
        (with_place place.0 place.1 place.2)
      where
        k' : TreeLocals
        k' = with_fresh k u ws

        at' : AtNode h s k' b y n
        at' = record {
          linked = r.grows.linked n at.linked;
          held = at.held;
          out = refl;
          unseen = unseen;
        }

        same : entries_at y n ≡ entries_at x n
        same = entries_kept h s k a x n b y begun.tree at r

        apart' : Each (λ entry. entry.0 ≢ args.a) (entries_at y n)
        apart' = subst (Each (λ entry. entry.0 ≢ args.a)) (sym same) apart

        place : (front : Entries) × (back : Entries) × IsBetween args.a (entries_at y n) front back
        place = between args.a (entries_at y n) (r.tree.entries n at'.linked).rise apart'

        is' : IsIn b y 0 n args.a
        is' = still_in h s k a x b y 0 n args.a is at.held r

        low_level : level_at y n ≤ b.top
        low_level = (let leaf = is'.level_is in omega arith)

        u_low : u < h.size
        u_low = (let fit = (unseen.fresh u refl).1 in let last = r.tree.last_low in omega arith)

        not_n : u ≢ n
        not_n e = never (unseen.fresh u refl).0 (ap b.linked e ∙ at'.linked)

        with_place : (front back : Entries) → IsBetween args.a (entries_at y n) front back
            → TreeRight h s k' b y
            (split_entry h (loaded_at y n) args.a args.b u BlockCommit
            (after (split_key (loaded_at y n) args.a args.b) u))
        with_place front back parts =
            subst (λ place. TreeRight h s k' b y
            (perform (Mark BlockOpen)
            (split (loaded_at y n) place (with_entry (entries_at y n) args.a args.b) u
            (perform (Mark BlockCommit)
            (unlock_node h n
            (after (first_key (upper_half (with_entry (entries_at y n) args.a args.b))) u))))))
            (sym (place_below_is (entries_at y n) front back args.a parts))
            (subst (λ xs. TreeRight h s k' b y
            (perform (Mark BlockOpen) (split (loaded_at y n) (length front) xs u
            (perform (Mark BlockCommit) (unlock_node h n (after (first_key (upper_half xs)) u))))))
            (sym (with_entry_is (entries_at y n) front back args.a args.b parts))
            (tree_open h (lock_of h n ∷ []) (OfTree Insert) false k' b y
            (split (loaded_at y n) (length front) five u closing) r.tree unseen
            (λ c z r'. block c z (rely_with h (lock_of h n ∷ []) (OfTree Insert) false true false k'
            [] b c y z r'))))
          where
            five : Entries
            five = front ++ (args.a, args.b) ∷ back

            key : ℕ
            key = first_key (upper_half (front ++ (args.a, args.b) ∷ back))

            closing : Script
            closing = perform (Mark BlockCommit)
                (unlock_node h n
                (after (first_key (upper_half (front ++ (args.a, args.b) ∷ back))) u))

            writes : List (ℕ × ℕ)
            writes = split_writes n u (level_at y n) (bound_at y n) (right_at y n) (length front)
                (front ++ (args.a, args.b) ∷ back)

            new_leaf : IsLeafEntry (args.a, args.b)
            new_leaf = record { key_low = small_key; value_low = small }

            four : length front + length back ≡ 4
            four = (let p = length_join front back in let e = ap length parts.parts in let f =
                ap length same in omega (arith, p, e, f, full))

            count_four : count_at y n ≡ 4
            count_four = sym (length-entries y n 0 (count_at y n)) ∙ ap length same ∙ full

            five_long : length (front ++ (args.a, args.b) ∷ back) ≡ 5
            five_long = search (length_join, back, four, arith)

            lengths : (length (lower_half (front ++ (args.a, args.b) ∷ back)) ≡ 3)
                × (length (upper_half (front ++ (args.a, args.b) ∷ back)) ≡ 2)
            lengths = three_two (front ++ (args.a, args.b) ∷ back) five_long

            gives_it : gives args.a (front ++ (args.a, args.b) ∷ back) ≡ 2 ^ 32 + args.b
            gives_it =
                let around = gives_around args.a front back (args.a, args.b) in
                let it = entry_gives_it args.a (args.a, args.b) new_leaf refl in
                let nothing = gives_none args.a (entries_at y n)
                ((r.tree.entries n at'.linked).leaf is'.level_is) apart' in
                let p = ap (gives args.a) parts.parts in
                omega (arith, around, it, nothing, p)

            gives_others : (q : ℕ) → q ≢ args.a → gives q (front ++ (args.a, args.b) ∷ back)
                ≡ gives q (entries_at y n)
            gives_others q other =
                let around = gives_around q front back (args.a, args.b) in
                let it = entry_gives_none q (args.a, args.b) new_leaf (λ e. other (sym e)) in
                let p = ap (gives q) parts.parts in
                omega (arith, around, it, p)

            close : InBlock h (OfTree Insert) false k' b y n
                (split_writes n u (level_at y n) (bound_at y n) (right_at y n) (length front)
                (front ++ (args.a, args.b) ∷ back)) closing
            close c z r' = (
              hung_locals,
              with_node c u (first_key (upper_half (front ++ (args.a, args.b) ∷ back))),
              record {
                reaches = tt;
                grows = w.grows;
                leaves = w.leaves;
                tree = w.tree;
                top = λ quiet is quiet'. w.top is;
                closed = λ out quiet. cc;
                alone = λ out. cc;
                ahead = λ quiet out. cc;
                wrote = λ quiet out. cc;
                within = λ inside goes same. cc;
                taken = λ v mine. cc;
                hung = λ v mine. subst (λ v. ((with_node c u key).linked v ≡ true)
                    × Hangs (with_node c u key) end v
                    × ((k.hanging ≡ Some v) ⊎ (c.linked v ≡ false)))
                    (some_same u v mine) (w.hangs.0, w.hangs.1, inr (unseen_c.fresh u refl).0);
                leads = λ state shows. record {
                  called = called;
                  is_called = bare.called_is;
                  reply = 1;
                  returns = λ answer is. ascent.returns_one 0 key u;
                  next = with_amount state args.a (2 ^ 32 + args.b);
                  allowed = ap (λ b. then_some (not b) (with_amount state args.a (2 ^ 32 + args.b)))
                      (isnt_there state args.a
                      (absent_in h.size c z state n args.a r'.tree shows is_c
                      (subst (Each (λ v. v.0 ≢ args.a)) (sym same_c) apart')));
                  means = split_state h.size c z end n u (front ++ (args.a, args.b) ∷ back) r'.tree
                      is_c.linked (unseen_c.fresh u refl).0 (unseen_c.fresh u refl).1 sp ha
                      state (with_amount state args.a (2 ^ 32 + args.b))
                      (IsAmounts-with_amount state args.a (2 ^ 32 + args.b) shows.formed) shows
                      (λ leaf q over. changed_inside state args.a (2 ^ 32 + args.b) q
                      (entries_at z n) (front ++ (args.a, args.b) ∷ back) gives_it
                      (λ other. gives_others q other ∙ ap (gives q) (sym same_c))
                      (shows.shows q n is_c.linked is_c.level_is over))
                      (λ q v linked leaf off over. amount_of-with_amount state args.a
                      (2 ^ 32 + args.b) q
                      ∙ ap (λ b. cond b (2 ^ 32 + args.b) (amount_of state q))
                      (isnt_same q args.a
                      (λ e. off (one_cover_in h.size c z r'.tree v n args.a linked is_c.linked
                      (leaf ∙ sym is_c.level_is)
                      (subst (Covers z c.low v) e over) is_c.covers))));
                };
                pending = refl;
                out = refl;
                called = refl;
                answers = refl;
              },
              λ d v r''. tree_give_last h (OfTree Insert) true hung_locals d v (lock_of h n)
                  (after key u) r''.tree
                  (unseen_stays h (holding (lock_of h n ∷ []) (OfTree Insert) true false)
                  hung_locals (with_node c u key) end d v unseen_after r'')
                  (λ e t r3. ascent.right hung_locals e t 0 key u r3.tree
                  (unseen_stays h (holding [] (OfTree Insert) true false) hung_locals d v e t
                  (unseen_stays h (holding (lock_of h n ∷ []) (OfTree Insert) true false)
                  hung_locals (with_node c u key) end d v unseen_after r'') r3)
                  (record {
                    called_is = bare.called_is;
                    fresh = refl;
                    hanging = refl;
                    level_is = r3.grows.level u (r''.grows.linked u w.hangs.0)
                        ∙ r''.grows.level u w.hangs.0 ∙ sp.new_level ∙ is_c.level_is;
                    low_is = r3.grows.low u (r''.grows.linked u w.hangs.0)
                        ∙ r''.grows.low u w.hangs.0
                        ∙ new_low c.low u key;
                  })),
            )
              where
                hung_locals : TreeLocals
                hung_locals = record k {
                  fresh = None;
                  hanging = Some u;
                  pending = split_writes n u
                      (level_at y n) (bound_at y n) (right_at y n) (length front) (front ++ (
                        args.a,
                        args.b,
                      ) ∷ back);
                  out = false;
                }

                end : Memory
                end = written (split_writes n u (level_at y n) (bound_at y n) (right_at y n)
                    (length front) (front ++ (args.a, args.b) ∷ back)) z

                some_same : (p q : ℕ) → ◌≡◌ {A = Option ℕ} (Some p) (Some q) → p ≡ q
                some_same p q e = cc

                inside : Situation
                inside = holding (lock_of h n ∷ []) (OfTree Insert) false true

                unseen_c : OwnsUnseen h (with_pending k' writes) c z
                unseen_c = unseen_with h k' writes c z (unseen_stays h s k' b y c z unseen r')

                is_c : IsIn c z 0 n args.a
                is_c = still_in h s k' b y c z 0 n args.a is' at'.held r'

                same_c : entries_at z n ≡ entries_at y n
                same_c = entries_kept h s k' b y n c z r.tree at' r'

                sp : IsSplitAt h.size z
                    (written (split_writes n u (level_at y n) (bound_at y n) (right_at y n)
                    (length front) (front ++ (args.a, args.b) ∷ back)) z) n u
                    (lower_half (front ++ (args.a, args.b) ∷ back))
                    (upper_half (front ++ (args.a, args.b) ∷ back))
                    (first_key (upper_half (front ++ (args.a, args.b) ∷ back)))
                sp = split_stands h.size z n u (level_at y n) (bound_at y n) (right_at y n) front
                    back (args.a, args.b)
                    (linked_low h.size c z r'.tree n is_c.linked) u_low not_n
                    (r'.held n 0 at'.linked at'.held (omega arith))
                    (r'.held n 2 at'.linked at'.held (omega arith))
                    (r'.held n 3 at'.linked at'.held (omega arith))
                    (r'.held n 1 at'.linked at'.held (omega arith) ∙ count_four)
                    (same_c ∙ parts.parts) lengths.0 lengths.1

                ha : AreHalves h.size (coded c z (level_at z n)) c.low (level_at z n) (c.low n)
                    (bound_at z n) (front ++ (args.a, args.b) ∷ back)
                ha = halves h.size (coded c z (level_at z n)) c.low (level_at z n) (c.low n)
                    (bound_at z n) (front ++ (args.a, args.b) ∷ back) five_long
                    (entries_added h.size (coded c z (level_at z n)) c.low (level_at z n) (c.low n)
                    (bound_at z n) (entries_at y n) front back (args.a, args.b)
                    (code h.size c z (level_at z n) (c.low n) (bound_at z n) (entries_at y n)
                    (linked_low h.size c z r'.tree)
                    (subst (HasEntries c z (level_at z n) (c.low n) (bound_at z n)) same_c
                    (r'.tree.entries n is_c.linked)))
                    parts (is_c.covers.from, is_c.covers.to) (λ none. new_leaf)
                    (λ some. absurd (some is_c.level_is)) (λ some. absurd (some is_c.level_is)))

                w : Splits h inside (with_pending k' writes) c z
                    (with_node c u (first_key (upper_half (front ++ (args.a, args.b) ∷ back))))
                    (written (split_writes n u (level_at y n) (bound_at y n) (right_at y n)
                    (length front) (front ++ (args.a, args.b) ∷ back)) z) u
                w = splits h inside (with_pending k' writes) c z
                    (written (split_writes n u (level_at y n) (bound_at y n) (right_at y n)
                    (length front) (front ++ (args.a, args.b) ∷ back)) z) n u
                    (front ++ (args.a, args.b) ∷ back) r'.tree unseen_c is_c.linked at'.held refl sp
                    ha (λ v of_v other hangs some. absurd (some is_c.level_is))

                unseen_after : OwnsUnseen h hung_locals
                    (with_node c u (first_key (upper_half (front ++ (args.a, args.b) ∷ back))))
                    (written (split_writes n u (level_at y n) (bound_at y n) (right_at y n)
                    (length front) (front ++ (args.a, args.b) ∷ back)) z)
                unseen_after = record {
                  fresh = λ v mine. cc;
                  hanging = λ v mine. rw (← some_same u v mine) w.hangs;
                  quiet = refl;
                }

            block : InBlock h (OfTree Insert) false k' b y n []
                (split (loaded_at y n) (length front) (front ++ (args.a, args.b) ∷ back) u closing)
            block = split_stores h (OfTree Insert) false k' b y n u front back
                (args.a, args.b) closing r.tree at' low_level refl u_low four lengths.0 lengths.1
                close
