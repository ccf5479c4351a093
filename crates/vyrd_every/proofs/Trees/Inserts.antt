-- What an insert does in the leaf of its key: another value for a key that is there, or an entry if
-- there is room. What it does in a full leaf is taken from elsewhere.
use Rattle.vyrd_every.proofs.Prelude
use Prelude.{◌≡◌, ◌≢◌, ℕ, ◌+◌, ◌*◌, ◌<◌, ◌≤◌, ◌^◌, ◌⊎◌, inl, inr, Bool, true, false, cond, not}
use Prelude.{List, [], ◌∷◌, ◌++◌, Option, Some, None, length, refl, ap, ◌∙◌, sym, subst, arith}
use Prelude.{nat_lt, then_some, Header, Insert, Args, BlockCommit, Called, Amounts, with_amount}
use Prelude.{is_below, isnt_below, Store, Mark, Correct, Memory, with_cell, other_cell, Script}
use Prelude.{perform, returns, gives_up, Situation, is_there, isnt_there, value_cell, lock_of}
use Prelude.{unlock_node, with_unused, add_entry, rewrite, with_entry, split_entry, split_key}
use Prelude.{ascend, changes_nothing, place_of, insert_entry, holding, le_or, level_at, count_at}
use Prelude.{bound_at, IsLeafEntry, entries_at, entries_from, Entries, gives, gives-append}
use Prelude.{gives_none, gives_one, entry_gives_it, entry_gives_none, between, IsBetween}
use Prelude.{found_around, not_found, IsAround, each_back, length_join, entries_added, gives_around}
use Prelude.{with_entry_is, place_below_is, length-entries, Rewritten, loaded_at, written, Shape}
use Prelude.{HasEntries, IsLinked, ShowsState, TreeLocals, TreeRely, TreeRight, TreeCommits}
use Rattle.std.specs.List.{AllByRecursion as Each}
use Rattle.vyrd_base.specs.declared.subject.Method.TheVariants.{Tree as OfTree}
use Rattle.vyrd_tree.specs.Procedures.{replace_value, insert_new, insert_in}
use Rattle.vyrd_tree.specs.Laws.Alone.EntriesStaySound.{entries_replaced}
use Rattle.vyrd_tree.specs.Laws.Alone.Inserted.{value_stored}
use Rattle.vyrd_every.proofs.Trees.Parts.{OwnsUnseen, unseen_stays, tree_rely_more}
use Rattle.vyrd_every.proofs.Trees.Walks.{AtNode, Onward, Arrives}
use Rattle.vyrd_every.proofs.Trees.Kept.{coded, code, uncode, linked_low}
use Rattle.vyrd_every.proofs.Trees.Blocks.{with_pending, rely_with, tree_open, store_in_node}
use Rattle.vyrd_every.proofs.Trees.Blocks.{node_writes, entries_kept}
use Rattle.vyrd_every.proofs.Trees.Leafs.{IsIn, still_in, present_in, absent_in, changed_in, IsBare}
use Rattle.vyrd_every.proofs.Trees.Leafs.{tree_returns, tree_mutates, commit_block, rewrite_right}
use Rattle.vyrd_every.proofs.Trees.Leafs.{walk_down_right}

-- what an insert does in a full leaf of its key, where the key isn't there
abbrev pub FullRight : Header → Args → TreeLocals → Shape → Memory → Type 0
FullRight h args k g m = (n : ℕ) (a : Shape) (x : Memory)
    → TreeRely h (holding [] (OfTree Insert) false false) k g m a x
    → AtNode h (holding (lock_of h n ∷ []) (OfTree Insert) false false) k a x n
    → IsIn a x 0 n args.a → length (entries_at x n) ≡ 4
    → Each (λ entry. entry.0 ≢ args.a) (entries_at x n)
    → Onward h (holding (lock_of h n ∷ []) (OfTree Insert) false false) k a x
    (with_unused h (changes_nothing h n) (λ new.
    split_entry h (loaded_at x n) args.a args.b new BlockCommit
    (ascend h Correct 16 0 (split_key (loaded_at x n) args.a args.b) new (returns 1))))

-- an insert, where it does right in a full leaf
pub insert_right : (h : Header) (args : Args) (k : TreeLocals) (g : Shape) (m : Memory)
    → args.a < 2 ^ 32 → args.b < 2 ^ 32 → IsLinked h.size g m → OwnsUnseen h k g m
    → IsBare k (record { method = OfTree Insert; args = args }) → FullRight h args k g m
    → TreeRight h (holding [] (OfTree Insert) false false) k g m
    (insert_entry h Correct args.a args.b)
insert_right h args k g m small_key small tree unseen bare full =
    walk_down_right h (OfTree Insert) false args.a k g m gives_up
    (λ at. insert_in h Correct args.a args.b at (place_of args.a at.entries)) tree unseen arrives
  where
    called : Called
    called = record { method = OfTree Insert; args = args }

    arrives : Arrives h (OfTree Insert) false k g m args.a 0
        (λ at. insert_in h Correct args.a args.b at (place_of args.a at.entries))
    arrives n a x begun at leaf over = by_place (place_of args.a (entries_at x n)) refl
      where
        s : Situation
        s = holding (lock_of h n ∷ []) (OfTree Insert) false false

        is : IsIn a x 0 n args.a
        is = record { linked = at.linked; level_is = leaf; covers = over }

        low_level : level_at x n ≤ a.top
        low_level = omega (arith, leaf)

        few : count_at x n ≤ 4
        few = begun.tree.few n at.linked

        done : (reply : ℕ) (ws : List (ℕ × ℕ)) (b : Shape) (y : Memory) → IsLinked h.size b y
            → OwnsUnseen h (with_pending k ws) b y
            → TreeRight h (holding [] (OfTree Insert) true false) (with_pending k ws) b y
            (returns reply)
        done reply ws b y t unseen' = tree_returns h (with_pending k ws) b y true called reply t
            unseen'
            (record { fresh = bare.fresh; hanging = bare.hanging; called_is = bare.called_is })
            (tree_mutates (with_pending k ws) called reply bare.called_is refl)

        replaced : (i : ℕ) (front : Entries) (entry : ℕ × ℕ) (back : Entries) → length front ≡ i
            → IsAround args.a (entries_at x n) front entry back
            → Onward h s k a x (replace_value h n i args.b)
        replaced i front entry back len around =
            subst (λ i. Onward h s k a x (replace_value h n i args.b)) len
            (λ b y r.
            tree_open h (lock_of h n ∷ []) (OfTree Insert) false k b y
            (perform (Store (value_cell n (length front)) args.b) closing) r.tree
            (unseen_stays h s k a x b y at.unseen r)
            (λ c z r'. store_in_node h (OfTree Insert) false k a x n (8 + length front) args.b
            [] closing begun.tree at low_level (omega (arith, place)) (λ e. omega (arith, e))
            (commit_block h called k a x n (front ++ (entry.0, args.b) ∷ back) ws
            (returns 2) begun.tree at leaf rewritten right commits (done 2 ws))
            c z (tree_rely_more h s k a b c x y z r
            (rely_with h (lock_of h n ∷ []) (OfTree Insert) false true false k [] b c y z r'))))
          where
            closing : Script
            closing = perform (Mark BlockCommit) (unlock_node h n (returns 2))

            ws : List (ℕ × ℕ)
            ws = (12 * n + (8 + length front), args.b) ∷ []

            before : HasEntries a x (level_at x n) (a.low n) (bound_at x n) (front ++ entry ∷ back)
            before = grind (arith, around.parts, begun.tree.entries n at.linked)

            leaves : Each IsLeafEntry (entry ∷ back)
            leaves = each_back IsLeafEntry front (entry ∷ back) (before.leaf leaf)

            new_leaf : IsLeafEntry (entry.0, args.b)
            new_leaf = record { key_low = leaves.0.key_low; value_low = small }

            one : (gives args.a front ≡ 0) × (gives args.a back ≡ 0)
                × (gives args.a (entry ∷ back) ≡ 2 ^ 32 + entry.1)
            one = gives_one args.a front entry back before.rise (before.leaf leaf) around.key_is

            plus : {a b c d e : ℕ} → a ≡ e → b ≡ c + d → c ≡ 0 → d ≡ 0 → a + b ≡ e
            plus f g i j = omega arith

            place : length front < 4
            place =
                grind (
                  arith,
                  length_join front (entry ∷ back),
                  around.parts,
                  length-entries x n 0
                      (count_at x n),
                )

            rewritten : (b : Shape) (y : Memory) → TreeRely h s k a x b y
                → Rewritten h.size y (with_cell y (12 * n + (8 + length front)) args.b) n
                (front ++ (entry.0, args.b) ∷ back)
            rewritten b y r = record {
              others = λ cell low off. other_cell y (12 * n + (8 + length front)) args.b cell
                  (not_value cell off);
              bound_is = other_cell y (12 * n + (8 + length front)) args.b (12 * n + 2)
                  (omega arith);
              right_is = other_cell y (12 * n + (8 + length front)) args.b (12 * n + 3)
                  (omega arith);
              few = (let e = count_end in let few = r.tree.few n (r.grows.linked n at.linked) in
                  omega arith);
              entries = ap (entries_from (with_cell y (12 * n + (8 + length front)) args.b) n 0)
                  count_end
                  ∙ (let zero_plus : 0 + length front ≡ length front = omega arith in
                  subst (λ p. entries_from (with_cell y (12 * n + (8 + p)) args.b) n 0
                  (count_at y n) ≡ front ++ (entry.0, args.b) ∷ back) zero_plus
                  (value_stored y n 0 (count_at y n) args.b front entry back
                  (let few = r.tree.few n (r.grows.linked n at.linked) in omega arith)
                  (entries_kept h s k a x n b y begun.tree at r ∙ around.parts)));
            }
              where
                not_value : (cell : ℕ) → (cell < 12 * n + 1) ⊎ (12 * n + 12 ≤ cell) → cell ≢ 12 * n
                    + (8 + length front)
                not_value cell (inl lt) = omega (arith, lt)
                not_value cell (inr le) = omega (arith, le, place)

                count_end : count_at (with_cell y (12 * n + (8 + length front)) args.b) n
                    ≡ count_at y n
                count_end = grind (arith, other_cell)

            right : (b : Shape) (y : Memory) → TreeRely h s k a x b y
                → HasEntries b y (level_at y n) (b.low n) (bound_at y n)
                (front ++ (entry.0, args.b) ∷ back)
            right b y r =
                uncode h.size b y (level_at y n) (b.low n) (bound_at y n)
                (front ++ (entry.0, args.b) ∷ back)
                (entries_replaced h.size (coded b y (level_at y n)) b.low (level_at y n) (b.low n)
                (bound_at y n) front back entry args.b
                (r.grows.level n at.linked ∙ leaf) small
                (code h.size b y (level_at y n) (b.low n) (bound_at y n) (front ++ entry ∷ back)
                (linked_low h.size b y r.tree)
                (subst (HasEntries b y (level_at y n) (b.low n) (bound_at y n))
                (entries_kept h s k a x n b y begun.tree at r ∙ around.parts)
                (r.tree.entries n (r.grows.linked n at.linked)))))

            commits : (b : Shape) (y : Memory) → TreeRely h s k a x b y → (state : Amounts)
                → ShowsState b y state
                → Rewritten h.size y (with_cell y (12 * n + (8 + length front)) args.b) n
                (front ++ (entry.0, args.b) ∷ back)
                → TreeCommits (with_pending k ws) (unlock_node h n (returns 2)) b
                (with_cell y (12 * n + (8 + length front)) args.b) state
            commits b y r state shows rw = record {
              called = called;
              is_called = bare.called_is;
              reply = 2;
              returns = λ answer is. refl;
              next = with_amount state args.a (2 ^ 32 + args.b);
              allowed = ap (λ b. then_some b (with_amount state args.a (2 ^ 32 + args.b)))
                  (is_there state args.a
                  (let e = present_in h.size b y state n args.a front back entry r.tree shows
                  (still_in h s k a x b y 0 n args.a is at.held r)
                  (record {
                    parts = entries_kept h s k a x n b y begun.tree at r
                        ∙ around.parts;
                    key_is = around.key_is;
                  }) in omega (arith, e)));
              means = changed_in h.size b y (with_cell y (12 * n + (8 + length front)) args.b) state
                  n args.a (2 ^ 32 + args.b) (front ++ (entry.0, args.b) ∷ back)
                  r.tree shows (still_in h s k a x b y 0 n args.a is at.held r) rw
                  (gives_around args.a front back (entry.0, args.b)
                  ∙ plus (entry_gives_it args.a (entry.0, args.b) new_leaf (sym around.key_is))
                  (gives-append args.a front back) one.0 one.1)
                  (λ q apart. (let e = gives_around q front back (entry.0, args.b) in let f =
                  gives_around q front back entry in
                  let p = ap (gives q) (entries_kept h s k a x n b y begun.tree at r
                  ∙ around.parts) in
                  let c = entry_gives_none q (entry.0, args.b) new_leaf
                  (λ e. apart (sym e ∙ around.key_is)) in
                  let d = entry_gives_none q entry leaves.0 (λ e. apart (sym e ∙ around.key_is)) in
                  omega (arith, e, f, p, c, d)));
            }

        added : Each (λ entry. entry.0 ≢ args.a) (entries_at x n)
            → Onward h s k a x (insert_new h Correct args.a args.b (loaded_at x n))
        added apart = by_length (le_or 4 (length (entries_at x n)))
          where
            count_is : length (entries_at x n) ≡ count_at x n
            count_is = length-entries x n 0 (count_at x n)

            by_room : Bool → Script
            by_room room = cond room
                (add_entry h (loaded_at x n) args.a args.b BlockCommit (returns 1))
                (with_unused h (changes_nothing h n) (λ new.
                split_entry h (loaded_at x n) args.a args.b new BlockCommit
                (ascend h Correct 16 0 (split_key (loaded_at x n) args.a args.b) new (returns 1))))

            new_leaf : IsLeafEntry (args.a, args.b)
            new_leaf = record { key_low = small_key; value_low = small }

            with_room : length (entries_at x n) < 4 → (front : Entries) (back : Entries)
                → IsBetween args.a (entries_at x n) front back
                → Onward h s k a x
                (add_entry h (loaded_at x n) args.a args.b BlockCommit (returns 1))
            with_room less front back parts =
                subst (λ place. Onward h s k a x
                (rewrite h n place (with_entry (entries_at x n) args.a args.b) BlockCommit
                (returns 1)))
                (sym (place_below_is (entries_at x n) front back args.a parts))
                (subst (λ xs. Onward h s k a x
                (rewrite h n (length front) xs BlockCommit (returns 1)))
                (sym (with_entry_is (entries_at x n) front back args.a args.b parts))
                (rewrite_right h called k a x n front back ((args.a, args.b) ∷ back)
                (returns 1) begun.tree at leaf parts.parts one_more right commits
                (done 1 (node_writes n front ((args.a, args.b) ∷ back)))))
              where
                one_more : length (front ++ (args.a, args.b) ∷ back) ≤ 4
                one_more = grind (arith, length_join, back)

                right : (b : Shape) (y : Memory) → TreeRely h s k a x b y
                    → HasEntries b y (level_at y n) (b.low n) (bound_at y n)
                    (front ++ (args.a, args.b) ∷ back)
                right b y r =
                    let here = still_in h s k a x b y 0 n args.a is at.held r in
                    uncode h.size b y (level_at y n) (b.low n) (bound_at y n)
                    (front ++ (args.a, args.b) ∷ back)
                    (entries_added h.size (coded b y (level_at y n)) b.low (level_at y n) (b.low n)
                    (bound_at y n) (entries_at x n) front back (args.a, args.b)
                    (code h.size b y (level_at y n) (b.low n) (bound_at y n) (entries_at x n)
                    (linked_low h.size b y r.tree)
                    (subst (HasEntries b y (level_at y n) (b.low n) (bound_at y n))
                    (entries_kept h s k a x n b y begun.tree at r)
                    (r.tree.entries n (r.grows.linked n at.linked))))
                    parts (here.covers.from, here.covers.to) (λ none. new_leaf)
                    (λ some. absurd (some here.level_is)) (λ some. absurd (some here.level_is)))

                commits : (b : Shape) (y : Memory) → TreeRely h s k a x b y → (state : Amounts)
                    → ShowsState b y state
                    → Rewritten h.size y (written (node_writes n front ((args.a, args.b) ∷ back)) y)
                    n (front ++ (args.a, args.b) ∷ back)
                    → TreeCommits (with_pending k (node_writes n front ((args.a, args.b) ∷ back)))
                    (unlock_node h n (returns 1)) b
                    (written (node_writes n front ((args.a, args.b) ∷ back)) y) state
                commits b y r state shows rw = record {
                  called = called;
                  is_called = bare.called_is;
                  reply = 1;
                  returns = λ answer is. refl;
                  next = with_amount state args.a (2 ^ 32 + args.b);
                  allowed = ap (λ b. then_some (not b) (with_amount state args.a (2 ^ 32 + args.b)))
                      (isnt_there state args.a
                      (absent_in h.size b y state n args.a r.tree shows here
                      (subst (Each (λ z. z.0 ≢ args.a)) (sym same) apart)));
                  means = changed_in h.size b y
                      (written (node_writes n front ((args.a, args.b) ∷ back)) y) state n args.a
                      (2 ^ 32 + args.b)
                      (front ++ (args.a, args.b) ∷ back) r.tree shows here rw gives_it gives_others;
                }
                  where
                    here : IsIn b y 0 n args.a
                    here = still_in h s k a x b y 0 n args.a is at.held r

                    same : entries_at y n ≡ entries_at x n
                    same = entries_kept h s k a x n b y begun.tree at r

                    gives_it : gives args.a (front ++ (args.a, args.b) ∷ back) ≡ 2 ^ 32 + args.b
                    gives_it =
                        grind (
                          arith,
                          gives_around args.a front back (args.a, args.b),
                          entry_gives_it args.a (args.a, args.b) new_leaf refl,
                          gives_none args.a
                              (entries_at x n) ((begun.tree.entries n at.linked).leaf leaf) apart,
                          parts.parts,
                        )

                    gives_others : (q : ℕ) → q ≢ args.a → gives q (front ++ (args.a, args.b) ∷ back)
                        ≡ gives q (entries_at y n)
                    gives_others q other =
                        let around = gives_around q front back (args.a, args.b) in
                        let it = entry_gives_none q (args.a, args.b) new_leaf
                        (λ e. other (sym e)) in
                        let p = ap (gives q) (same ∙ parts.parts) in
                        omega (arith, around, it, p)

            by_length : (4 ≤ length (entries_at x n)) ⊎ (length (entries_at x n) < 4)
                → Onward h s k a x (by_room (nat_lt (length (entries_at x n)) 4))
            by_length (inr less) =
                let place = between args.a (entries_at x n) (begun.tree.entries n at.linked).rise
                apart in
                subst (λ b. Onward h s k a x (by_room b))
                (sym (is_below (length (entries_at x n)) 4 less))
                (with_room less place.0 place.1 place.2)
            by_length (inl more) =
                subst (λ b. Onward h s k a x (by_room b))
                (sym (isnt_below (length (entries_at x n)) 4 more))
                (full n a x begun at is (omega (arith, more, count_is, few)) apart)

        by_place : (o : Option ℕ) → place_of args.a (entries_at x n) ≡ o
            → Onward h s k a x
            (insert_in h Correct args.a args.b (loaded_at x n) (place_of args.a (entries_at x n)))
        by_place None e = grind (arith, added (not_found args.a (entries_at x n) e))
        by_place (Some i) e =
            let found = found_around args.a (entries_at x n) i e in
            subst (λ o. Onward h s k a x (insert_in h Correct args.a args.b (loaded_at x n) o))
            (sym e) (replaced i found.0 found.1 found.2 found.3 found.4)
