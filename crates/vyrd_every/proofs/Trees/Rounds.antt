-- The rounds of an ascent, where a new root does right.
use Rattle.vyrd_every.proofs.Prelude
use Prelude.{◌≡◌, ℕ, zero, suc, ◌+◌, ◌<◌, ◌≤◌, ◌⊎◌, inl, inr, Bool, true, false, cond, [], ◌∷◌}
use Prelude.{length, refl, ap, ◌∙◌, sym, subst, arith, nat_lt, nat_le, Header, Insert, Args}
use Prelude.{BlockClose, is_at_most, same_number, is_below, isnt_below, isnt_at_most, Load, Correct}
use Prelude.{Memory, Script, step, returns, Situation, holds, level_cell, root_cell, root_lock}
use Prelude.{lock_of, unlock_node, unlock_root, walk_from, with_unused, add_entry, split_entry}
use Prelude.{split_key, grow_root, add_child, ascend_once, ascend, holding, le_or, level_at}
use Prelude.{count_at, root_in, entries_at, length-entries, loaded_at, Shape, IsLinked, TreeLocals}
use Prelude.{TreeRely, TreeRight}
use Rattle.vyrd_base.specs.declared.subject.Method.TheVariants.{Tree as OfTree}
use Rattle.vyrd_every.proofs.Trees.Parts.{OwnsUnseen, unseen_stays, tree_load, tree_take}
use Rattle.vyrd_every.proofs.Trees.Parts.{tree_give_last}
use Rattle.vyrd_every.proofs.Trees.Walks.{Onward, walk_right}
use Rattle.vyrd_every.proofs.Trees.Kept.{linked_low}
use Rattle.vyrd_every.proofs.Trees.Fulls.{Ascending}
use Rattle.vyrd_every.proofs.Trees.Ascents.{insert_of, ended_right, still_ascending, Above}
use Rattle.vyrd_every.proofs.Trees.Ascents.{room_right, RoundsRight, full_above}

-- With the root's lock held, where the root is on the level of the node that hangs: a new root does
-- right.
pub record GrowthRight (h : Header) (args : Args) : Type 0 where
  pub right : (k : TreeLocals) (g : Shape) (m : Memory) (level key node root : ℕ)
      → IsLinked h.size g m → OwnsUnseen h k g m
      → Ascending k g m (insert_of args) level key node → m (root_cell h) ≡ root → level_at m root
      ≡ level → g.top ≡ level_at m (root_in h.size m)
      → TreeRight h (holding (root_lock h ∷ []) (OfTree Insert) true false) k g m
      (grow_root h level key node root (returns 1))

-- where the walk of a round has arrived
arrived_right : (h : Header) (args : Args) (k : TreeLocals) (g : Shape) (m : Memory)
    (level key node n : ℕ) (next : ℕ → ℕ → ℕ → Script)
    → Above h args k g m level key node n → RoundsRight h args next
    → Onward h (holding (lock_of h n ∷ []) (OfTree Insert) true false) k g m
    (add_child h level key node (loaded_at m n) (returns 1) next)
arrived_right h args k g m level key node n next ab rounds =
    subst (Goal (nat_lt (length (entries_at m n)) 4))
    (sym (isnt_at_most (level_at m n) level (let e = ab.is.level_is in omega arith)))
    (by_room (le_or 4 (length (entries_at m n))))
  where
    s : Situation
    s = holding (lock_of h n ∷ []) (OfTree Insert) true false

    Goal : Bool → Bool → Type 0
    Goal room low = Onward h s k g m
        (cond low (unlock_node h n (returns 1))
        (cond room (add_entry h (loaded_at m n) key node BlockClose (returns 1))
        (with_unused h (unlock_node h n (returns 1)) (λ new.
        split_entry h (loaded_at m n) key node new BlockClose
        (next (level + 1) (split_key (loaded_at m n) key node) new)))))

    few : length (entries_at m n) ≤ 4
    few = (let few = ab.tree.few n ab.at.linked in let e = length-entries m n 0 (count_at m n) in
        omega arith)

    by_room : (4 ≤ length (entries_at m n)) ⊎ (length (entries_at m n) < 4)
        → Goal (nat_lt (length (entries_at m n)) 4) false
    by_room (inl more) = rw (isnt_below (length (entries_at m n)) 4 more)
        (full_above h args k g m level key node n next ab (omega (arith, more, few)) rounds)
    by_room (inr less) = rw (is_below (length (entries_at m n)) 4 less)
        (room_right h args k g m level key node n ab less)

-- one round
round_right : (h : Header) (args : Args) (next : ℕ → ℕ → ℕ → Script) → GrowthRight h args
    → RoundsRight h args next
    → RoundsRight h args (λ level key node. ascend_once h Correct level key node (returns 1) next)
round_right h args next growth rounds = record { right = begin }
  where
    begin : (k : TreeLocals) (g : Shape) (m : Memory) (level key node : ℕ) → IsLinked h.size g m
        → OwnsUnseen h k g m
        → Ascending k g m (insert_of args) level key node
        → TreeRight h (holding [] (OfTree Insert) true false) k g m
        (ascend_once h Correct level key node (returns 1) next)
    begin k g m level key node tree unseen up =
        tree_take h free k g m (root_lock h) under tree unseen (λ held e. cc)
        (λ a x r.
        let unseen_a = unseen_stays h s k g m a x unseen r in
        let up_a = still_ascending h s k g m a x (insert_of args) level key node unseen up r in
        tree_load h s k a x (root_cell h) by_root r.tree unseen_a (inr (inl refl)) refl
        (λ b y r'. rooted b y (x (root_cell h)) r'.tree (unseen_stays h s k a x b y unseen_a r')
        (still_ascending h s k a x b y (insert_of args) level key node unseen_a up_a r')
        (r'.root root_held).0))
      where
        free : Situation
        free = holding [] (OfTree Insert) true false

        s : Situation
        s = holding (root_lock h ∷ []) (OfTree Insert) true false

        root_held : holds s (root_lock h) ≡ true
        root_held = cc (same_number (root_lock h))

        walk : ℕ → Script
        walk root = walk_from h Correct key (level + 1) h.size root (returns 1)
            (λ at. add_child h level key node at (returns 1) next)

        by_top : ℕ → ℕ → Script
        by_top root top = cond (nat_le top level) (grow_root h level key node root (returns 1))
            (unlock_root h (walk root))

        by_root : ℕ → Script
        by_root root = cond (nat_lt root h.size) (step (Load (level_cell root)) (by_top root))
            (unlock_root h (returns 1))

        under : Script
        under = step (Load (root_cell h)) by_root

        rooted : (b : Shape) (y : Memory) (root : ℕ) → IsLinked h.size b y → OwnsUnseen h k b y
            → Ascending k b y (insert_of args) level key node
            → y (root_cell h) ≡ root → TreeRight h s k b y (by_root root)
        rooted b y root tree unseen up is =
            rw (is_below root h.size (linked_low h.size b y tree root linked))
            (tree_load h s k b y (level_cell root) (by_top root) tree unseen
            (inl (record {
              node = root;
              place = 0;
              is = refl;
              low = omega arith;
              linked = linked;
              may = inr refl;
            })) refl
            (λ c z r. topped c z (level_at y root) r.tree (unseen_stays h s k b y c z unseen r)
            (still_ascending h s k b y c z (insert_of args) level key node unseen up r)
            ((r.root root_held).0 ∙ is) (r.grows.level root linked)
            (r.calm root_held unseen.quiet)))
          where
            linked : b.linked root ≡ true
            linked = ap b.linked (sym is) ∙ tree.root_linked

            topped : (c : Shape) (z : Memory) (top : ℕ) → IsLinked h.size c z → OwnsUnseen h k c z
                → Ascending k c z (insert_of args) level key node
                → z (root_cell h) ≡ root → level_at z root ≡ top
                → c.top ≡ level_at z (root_in h.size z)
                → TreeRight h s k c z (by_top root top)
            topped c z top tree unseen up is top_is calm = by_level (le_or top level)
              where
                Goal : Bool → Type 0
                Goal low = TreeRight h s k c z
                    (cond low (grow_root h level key node root (returns 1))
                    (unlock_root h (walk root)))

                root_linked : c.linked root ≡ true
                root_linked = ap c.linked (sym is) ∙ tree.root_linked

                root_level : level_at z (root_in h.size z) ≡ top
                root_level = ap (level_at z) is ∙ top_is

                by_level : (top ≤ level) ⊎ (level < top) → Goal (nat_le top level)
                by_level (inl low) = subst Goal (sym (is_at_most top level low))
                    (growth.right k c z level key node root tree unseen up is
                    (let high = tree.highest node (unseen.hanging node up.hanging).0 in let at =
                    up.level_is in omega (arith, low, root_level, top_is, high, at)) calm)
                by_level (inr above) = subst Goal (sym (isnt_at_most top level above))
                    (tree_give_last h (OfTree Insert) true k c z (root_lock h)
                    (walk root) tree unseen
                    (λ d w r. walk_right h (OfTree Insert) true key (level + 1) k d w (returns 1)
                    (λ at. add_child h level key node at (returns 1) next)
                    (unseen_stays h free k c z d w unseen r)
                    (λ n e v r' at level_is over. arrived_right h args k e v level key node n next
                    (record {
                      tree = r'.tree;
                      at = at;
                      is = record { linked = at.linked; level_is = level_is; covers = over };
                      up = still_ascending h free k d w e v (insert_of args) level key node
                          (unseen_stays h free k c z d w unseen r)
                          (still_ascending h free k c z d w (insert_of args) level key node unseen
                          up r) r';
                      low_level = (let one = r.grows.top in let two = r'.grows.top in
                          omega (arith, level_is, above, root_level, calm, one, two));
                    }) rounds)
                    h.size root (λ x. false) d w (same d w r) (record {
                      linked = r.grows.linked root root_linked;
                      from = (let low = r.grows.low root root_linked in let first =
                          tree.root_first in let here = ap c.low is in omega arith);
                      high = (let here = r.grows.level root root_linked in
                          omega (arith, above, top_is, here));
                      behind = λ x e. cc;
                      enough = omega arith;
                    })))
                  where
                    same : (d : Shape) (w : Memory) → TreeRely h free k c z d w
                        → TreeRely h free k d w d w
                    same d w r = record {
                      grows = record {
                        linked = λ n l. l;
                        low = λ n l. refl;
                        level = λ n l. refl;
                        top = omega arith;
                      };
                      held = λ n place linked held low. refl;
                      fresh = λ n mine. refl;
                      used = λ n mine le. le;
                      hanging = λ n mine hangs. hangs;
                      root = λ held. (refl, refl);
                      count = λ held. refl;
                      tree = r.tree;
                      calm = r.calm;
                    }

-- an ascent with this many rounds left
pub rounds_right : (h : Header) (args : Args) → GrowthRight h args → (left : ℕ)
    → RoundsRight h args (λ level key node. ascend h Correct left level key node (returns 1))
rounds_right h args growth zero =
    record {
      right = λ k g m level key node tree unseen up. ended_right h args k g m tree unseen
          up.called_is;
    }
rounds_right h args growth (suc left) =
    round_right h args (λ level key node. ascend h Correct left level key node (returns 1)) growth
    (rounds_right h args growth left)
