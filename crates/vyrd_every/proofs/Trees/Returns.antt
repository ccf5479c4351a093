-- Whatever an ascent finds, the insert returns 1 after it. So every insert does right.
use Rattle.vyrd_every.proofs.Prelude
use Prelude.{ℕ, zero, suc, ◌+◌, ◌<◌, ◌^◌, Bool, true, false, cond, List, [], ◌∷◌, length, refl}
use Prelude.{◌==◌, nat_lt, nat_le, min, drop, Header, Insert, Args, BlockOpen, BlockClose, Correct}
use Prelude.{Store, Mark, Memory, Script, perform, returns, root_cell, unlock_node, unlock_root}
use Prelude.{Arrived, load_keys, load_values, to_child, load_rest, is_past, walk_from, with_unused}
use Prelude.{write_entries, write_node, with_entry, place_below, split_entry, split_key, lower_half}
use Prelude.{upper_half, add_child, ascend_once, ascend, insert_entry, holding, WillReturn, Shape}
use Prelude.{IsLinked, TreeLocals, TreeRight}
use Rattle.vyrd_base.specs.declared.subject.Method.TheVariants.{Tree as OfTree}
use Rattle.vyrd_every.proofs.Trees.Parts.{OwnsUnseen}
use Rattle.vyrd_every.proofs.Trees.Leafs.{IsBare}
use Rattle.vyrd_every.proofs.Trees.Inserts.{insert_right}
use Rattle.vyrd_every.proofs.Trees.Fulls.{AscentRight, full_right}
use Rattle.vyrd_every.proofs.Trees.Ascents.{insert_of}
use Rattle.vyrd_every.proofs.Trees.Rounds.{rounds_right}
use Rattle.vyrd_every.proofs.Trees.Roots.{growth_right}

either : (r : ℕ) (b : Bool) (x y : Script) → WillReturn r x → WillReturn r y
    → WillReturn r (cond b x y)
either r true x y p q = p
either r false x y p q = q

keys_return : (r left node place : ℕ) (loaded : List ℕ → Script)
    → ((keys : List ℕ) → WillReturn r (loaded keys))
    → WillReturn r (load_keys left node place loaded)
keys_return r zero node place loaded all = all []
keys_return r (suc left) node place loaded all = λ key is. keys_return r left node (place + 1)
    (λ keys. loaded (key ∷ keys)) (λ keys. all (key ∷ keys))

values_return : (r : ℕ) (keys : List ℕ) (node place : ℕ) (loaded : List (ℕ × ℕ) → Script)
    → ((entries : List (ℕ × ℕ)) → WillReturn r (loaded entries))
    → WillReturn r (load_values keys node place loaded)
values_return r [] node place loaded all = all []
values_return r (key ∷ keys) node place loaded all =
    λ value is. values_return r keys node (place + 1) (λ entries. loaded ((key, value) ∷ entries))
    (λ entries. all ((key, value) ∷ entries))

writes_return : (r node place : ℕ) (xs : List (ℕ × ℕ)) (later : Script) → WillReturn r later
    → WillReturn r (write_entries node place xs later)
writes_return r node place [] later rest = rest
writes_return r node place ((key, value) ∷ xs) later rest = λ a is b is'. writes_return r node
    (place + 1) xs later rest

unused_return : (h : Header) (r : ℕ) (none : Script) (found : ℕ → Script) → WillReturn r none
    → ((u : ℕ) → WillReturn r (found u))
    → WillReturn r (with_unused h none found)
unused_return h r none found ends some = λ a is used is'. either r (nat_le h.size (used + 1)) _ _
    (λ b is''. ends) (λ b is'' c is3. some (used + 1))

walk_returns : (h : Header) (r key toward left node : ℕ) (lost : Script)
    (arrived : Arrived → Script) → WillReturn r lost
    → ((at : Arrived) → WillReturn r (arrived at))
    → WillReturn r (walk_from h Correct key toward left node lost arrived)
walk_returns h r key toward zero node lost arrived ends some = ends
walk_returns h r key toward (suc left) node lost arrived ends some =
    visits (λ next. walk_returns h r key toward left next lost arrived ends some)
  where
    visits : ((next : ℕ) → WillReturn r (walk_from h Correct key toward left next lost arrived))
        → WillReturn r (walk_from h Correct key toward (suc left) node lost arrived)
    visits visit =
        either r (nat_lt node h.size) _ _ (λ a is level is1 count is2 bound is3 right is4.
        either r (is_past bound key) _ _ (λ b is5. visit right)
        (either r (nat_lt toward level) _ _
        (keys_return r (min count 4) node 0
        (λ keys. to_child h key node (min count 4) keys lost
        (λ next. walk_from h Correct key toward left next lost arrived))
        (λ keys. either r (min count 4 == 0) _ _ (λ c is6. ends) (λ child is6 c is7. visit child)))
        (keys_return r (min count 4) node 0 (λ keys. load_rest node level bound right keys arrived)
        (λ keys. values_return r keys node 0
        (λ entries. arrived
        (record { node = node; level = level; bound = bound; right = right; entries = entries }))
        (λ entries. some _))))) ends

new_returns : (r node level bound right : ℕ) (xs : List (ℕ × ℕ)) (later : Script)
    → WillReturn r later → WillReturn r (write_node node level bound right xs later)
new_returns r node level bound right xs later rest = λ a i b j c k d l. writes_return r node 0 xs
    later rest

child_returns : (h : Header) (r level key node : ℕ) (at : Arrived) (ended : Script)
    (next : ℕ → ℕ → ℕ → Script) → WillReturn r ended
    → ((level key node : ℕ) → WillReturn r (next level key node))
    → WillReturn r (add_child h level key node at ended next)
child_returns h r level key node at ended next ends some =
    either r (nat_le at.level level) _ _ (λ a is. ends)
    (either r (nat_lt (length at.entries) 4) _ _
    (λ a is. writes_return r at.node (place_below key at.entries)
    (drop (place_below key at.entries) (with_entry at.entries key node)) _
    (λ b is' c is'' d is3. ends))
    (unused_return h r (unlock_node h at.node ended)
    (λ new. split_entry h at key node new BlockClose (next (level + 1) (split_key at key node) new))
    (λ a is. ends)
    (λ u a is. new_returns r u at.level at.bound at.right
    (upper_half (with_entry at.entries key node)) _
    (writes_return r at.node (place_below key at.entries)
    (drop (place_below key at.entries) (lower_half (with_entry at.entries key node))) _
    (λ b i c j d k e l f n. some (level + 1) (split_key at key node) u)))))

once_returns : (h : Header) (r level key node : ℕ) (ended : Script) (next : ℕ → ℕ → ℕ → Script)
    → WillReturn r ended
    → ((level key node : ℕ) → WillReturn r (next level key node))
    → WillReturn r (ascend_once h Correct level key node ended next)
once_returns h r level key node ended next ends some = λ a is root is'.
    either r (nat_lt root h.size) _ _ (λ top is''. either r (nat_le top level) _ _
    (unused_return h r (unlock_root h ended)
    (λ new. perform (Mark BlockOpen) (write_node new (level + 1) 0 0 ((0, root) ∷ (key, node) ∷ [])
    (perform (Store (root_cell h) new) (perform (Mark BlockClose) (unlock_root h ended)))))
    (λ b i. ends)
    (λ u b i. new_returns r u (level + 1) 0 0 ((0, root) ∷ (key, node) ∷ [])
    (perform (Store (root_cell h) u) (perform (Mark BlockClose) (unlock_root h ended)))
    (λ c j d k e l. ends)))
    (λ b i. walk_returns h r key (level + 1) h.size root ended
    (λ at. add_child h level key node at ended next) ends
    (λ at. child_returns h r level key node at ended next ends some)))
    (λ b i. ends)

pub ascent_returns : (h : Header) (r left level key node : ℕ) (ended : Script) → WillReturn r ended
    → WillReturn r (ascend h Correct left level key node ended)
ascent_returns h r zero level key node ended ends = ends
ascent_returns h r (suc left) level key node ended ends =
    once_returns h r level key node ended
    (λ level' key' node'. ascend h Correct left level' key' node' ended) ends
    (λ level' key' node'. ascent_returns h r left level' key' node' ended ends)

-- every ascent does right
pub ascent_right : (h : Header) (args : Args) → AscentRight h args
ascent_right h args = record {
  right = (rounds_right h args (growth_right h args) 16).right;
  returns_one = λ level key node. ascent_returns h 1 16 level key node (returns 1) refl;
}

-- every insert does right, whatever the others do
pub every_insert : (h : Header) (args : Args) (k : TreeLocals) (g : Shape) (m : Memory)
    → args.a < 2 ^ 32 → args.b < 2 ^ 32 → IsLinked h.size g m → OwnsUnseen h k g m
    → IsBare k (insert_of args) → TreeRight h (holding [] (OfTree Insert) false false) k g m
    (insert_entry h Correct args.a args.b)
every_insert h args k g m small_key small tree unseen bare =
    insert_right h args k g m small_key small tree unseen bare
    (full_right h args k g m small_key small bare (ascent_right h args))
