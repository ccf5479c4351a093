-- Proofs of laws that an impl in src/ names: no contract says what is defined here.
-- Single acts of a procedure that ends in time, and its walks.
use Rattle.std.proofs.Common.{◌≡◌, ℕ, zero, suc, ◌+◌, ◌*◌, ◌≤◌, min, cond, List, [], ◌∷◌, length}
use Rattle.std.proofs.Common.{refl, ap, arith}
use Rattle.std.specs.Prelude.{◌==◌, nat_lt}
use Rattle.vyrd_base.specs.declared.header.Header.{Header}
use Rattle.vyrd_memory.specs.declared.act.Act.TheVariants.{Load, Take, Give}
use Rattle.vyrd_memory.specs.declared.op.Variant.{Variant}
use Rattle.vyrd_memory.specs.Scripts.{Script, step}
use Rattle.vyrd_memory.specs.Bounds.{EndsByReturn}
use Rattle.vyrd_memory.proofs.TimedActs.{in_more, loads_in, acts_in, either_in}
use Rattle.vyrd_tree.specs.Cells.{level_cell, count_cell, bound_cell, right_cell, key_cell}
use Rattle.vyrd_tree.specs.Cells.{value_cell, lock_of, unlock_node}
use Rattle.vyrd_tree.specs.Procedures.Walk.{Arrived, load_keys, load_values, child_place, to_child}
use Rattle.vyrd_tree.specs.Procedures.Walk.{descend, load_rest, arrive, moves_right, pass_on}
use Rattle.vyrd_tree.specs.Procedures.Walk.{visit_node, walk_from}

keys_in : (n left node place : ℕ) (loaded : List ℕ → Script)
    → ((keys : List ℕ) → length keys ≡ left → EndsByReturn n (loaded keys))
    → EndsByReturn (n + left) (load_keys left node place loaded)
keys_in n zero node place loaded ends = in_more n (n + 0) (loaded []) (omega arith) (ends [] refl)
keys_in n (suc left) node place loaded ends =
    in_more (n + left + 1) (n + suc left) (load_keys (suc left) node place loaded) (omega arith)
    (loads_in (n + left) (key_cell node place)
    (λ key. load_keys left node (place + 1) (λ keys. loaded (key ∷ keys)))
    (λ key. keys_in n left node (place + 1) (λ keys. loaded (key ∷ keys))
    (λ keys len. ends (key ∷ keys) (ap suc len))))

values_in : (n : ℕ) (keys : List ℕ) (node place : ℕ) (loaded : List (ℕ × ℕ) → Script)
    → ((entries : List (ℕ × ℕ)) → length entries ≡ length keys → EndsByReturn n (loaded entries))
    → EndsByReturn (n + length keys) (load_values keys node place loaded)
values_in n [] node place loaded ends = in_more n (n + 0) (loaded []) (omega arith) (ends [] refl)
values_in n (key ∷ keys) node place loaded ends =
    in_more (n + length keys + 1) (n + suc (length keys))
    (load_values (key ∷ keys) node place loaded) (omega arith)
    (loads_in (n + length keys) (value_cell node place)
    (λ value. load_values keys node (place + 1) (λ entries. loaded ((key, value) ∷ entries)))
    (λ value. values_in n keys node (place + 1) (λ entries. loaded ((key, value) ∷ entries))
    (λ entries len. ends ((key, value) ∷ entries) (ap suc len))))

-- at most 4 loads of keys, one of a child, and the unlock
descend_in : (n : ℕ) (h : Header) (key node count : ℕ) (lost : Script) (visit : ℕ → Script)
    → count ≤ 4 → EndsByReturn n lost → ((next : ℕ) → EndsByReturn n (visit next))
    → EndsByReturn (n + 6) (descend h key node count lost visit)
descend_in n h key node count lost visit few lost_ends visit_ends =
    in_more (n + 2 + count) (n + 6) (descend h key node count lost visit) (omega (arith, few))
    (keys_in (n + 2) count node 0 (λ keys. to_child h key node count keys lost visit) (λ keys len.
    either_in (n + 2) (count == 0) (unlock_node h node lost)
    (step (Load (value_cell node (child_place key keys)))
    (λ child. unlock_node h node (visit child)))
    (in_more (n + 1) (n + 2) (unlock_node h node lost) (omega arith)
    (acts_in n (Give (lock_of h node)) lost refl lost_ends))
    (in_more (n + 1 + 1) (n + 2)
    (step (Load (value_cell node (child_place key keys)))
    (λ child. unlock_node h node (visit child))) (omega arith)
    (loads_in (n + 1) (value_cell node (child_place key keys)) (λ child. unlock_node h node (visit
    child)) (λ child. acts_in n (Give (lock_of h node)) (visit child) refl (visit_ends child))))))

-- at most 4 loads of keys and 4 of values
arrive_in : (n node level count bound right : ℕ) (arrived : Arrived → Script) → count ≤ 4
    → ((at : Arrived) → length at.entries ≤ 4 → EndsByReturn n (arrived at))
    → EndsByReturn (n + 8) (arrive node level count bound right arrived)
arrive_in n node level count bound right arrived few ends =
    in_more (n + 4 + count) (n + 8) (arrive node level count bound right arrived)
    (omega (arith, few))
    (keys_in (n + 4) count node 0 (λ keys. load_rest node level bound right keys arrived)
    (λ keys len. in_more (n + length keys) (n + 4) (load_rest node level bound right keys arrived)
    (omega (arith, len, few))
    (values_in n keys node 0
    (λ entries. arrived
    (record { node = node; level = level; bound = bound; right = right; entries = entries }))
    (λ entries len'. ends (record {
      node = node;
      level = level;
      bound = bound;
      right = right;
      entries = entries;
    }) (omega (arith, len, len', few))))))

pub four_at_most : (n : ℕ) → min n 4 ≤ 4
four_at_most n = omega arith

-- the loads of level, count, bound and right link
abbrev pub first_loads : ℕ → (ℕ → ℕ → ℕ → ℕ → Script) → Script
first_loads node rest = step (Load (level_cell node)) (λ level.
    step (Load (count_cell node)) (λ count. step (Load (bound_cell node))
    (λ bound. step (Load (right_cell node)) (λ right. rest level count bound right))))

first_loads_in : (n node : ℕ) (rest : ℕ → ℕ → ℕ → ℕ → Script)
    → ((level count bound right : ℕ) → EndsByReturn n (rest level count bound right))
    → EndsByReturn (n + 4) (first_loads node rest)
first_loads_in n node rest ends =
    in_more (n + 1 + 1 + 1 + 1) (n + 4) (first_loads node rest) (omega arith) (loads_in
    (n + 1 + 1 + 1) (level_cell node)
    (λ level. step (Load (count_cell node)) (λ count. step (Load (bound_cell node))
    (λ bound. step (Load (right_cell node)) (λ right. rest level count bound right))))
    (λ level. loads_in (n + 1 + 1) (count_cell node)
    (λ count. step (Load (bound_cell node))
    (λ bound. step (Load (right_cell node)) (λ right. rest level count bound right)))
    (λ count. loads_in (n + 1) (bound_cell node)
    (λ bound. step (Load (right_cell node)) (λ right. rest level count bound right))
    (λ bound. loads_in n (right_cell node) (λ right. rest level count bound right)
    (ends level count bound)))))

-- a visit has the lock and four loads, and then at most 8 acts
visit_in : (n m : ℕ) (h : Header) (variant : Variant) (key toward node : ℕ) (lost : Script)
    (visit : ℕ → Script) (arrived : Arrived → Script)
    → n ≤ m → EndsByReturn m lost → ((next : ℕ) → EndsByReturn m (visit next))
    → ((at : Arrived) → length at.entries ≤ 4 → EndsByReturn n (arrived at))
    → EndsByReturn (m + 13) (visit_node h variant key toward node lost visit arrived)
visit_in n m h variant key toward node lost visit arrived le lost_ends visit_ends ends =
    in_more (m + 8 + 4 + 1) (m + 13) (visit_node h variant key toward node lost visit arrived)
    (omega arith)
    (acts_in (m + 8 + 4) (Take (lock_of h node))
    (first_loads node (λ level count bound right. pass_on h variant key toward node level count
    bound right lost visit arrived)) refl
    (first_loads_in (m + 8) node (λ level count bound right. pass_on h variant key toward node level
    count bound right lost visit arrived) passes))
  where
    passes : (level count bound right : ℕ)
        → EndsByReturn (m + 8)
        (pass_on h variant key toward node level count bound right lost visit arrived)
    passes level count bound right =
        either_in (m + 8) (moves_right variant level bound key) (unlock_node h node (visit right))
        (cond (nat_lt toward level) (descend h key node (min count 4) lost visit)
        (arrive node level (min count 4) bound right arrived))
        (in_more (m + 1) (m + 8) (unlock_node h node (visit right)) (omega arith)
        (acts_in m (Give (lock_of h node)) (visit right) refl (visit_ends right)))
        (either_in (m + 8) (nat_lt toward level) (descend h key node (min count 4) lost visit)
        (arrive node level (min count 4) bound right arrived)
        (in_more (m + 6) (m + 8) (descend h key node (min count 4) lost visit) (omega arith)
        (descend_in m h key node (min count 4) lost visit (four_at_most count) lost_ends
        visit_ends))
        (in_more (n + 8) (m + 8) (arrive node level (min count 4) bound right arrived) (omega (
          arith,
          le,
        )) (arrive_in n node level (min count 4) bound right arrived (four_at_most count) ends)))

-- a walk with this many visits left
pub walk_in : (n : ℕ) (h : Header) (variant : Variant) (key toward left node : ℕ) (lost : Script)
    (arrived : Arrived → Script)
    → EndsByReturn n lost
    → ((at : Arrived) → length at.entries ≤ 4 → EndsByReturn n (arrived at))
    → EndsByReturn (n + 13 * left) (walk_from h variant key toward left node lost arrived)
walk_in n h variant key toward zero node lost arrived lost_ends ends =
    in_more n (n + 13 * 0) lost (omega arith) lost_ends
walk_in n h variant key toward (suc left) node lost arrived lost_ends ends =
    in_more (n + 13 * left + 13) (n + 13 * suc left)
    (walk_from h variant key toward (suc left) node lost arrived) (omega arith)
    (either_in (n + 13 * left + 13) (nat_lt node h.size)
    (visit_node h variant key toward node lost
    (λ next. walk_from h variant key toward left next lost arrived) arrived) lost
    (visit_in n (n + 13 * left) h variant key toward node lost
    (λ next. walk_from h variant key toward left next lost arrived) arrived (omega arith)
    (in_more n (n + 13 * left) lost (omega arith) lost_ends)
    (λ next. walk_in n h variant key toward left next lost arrived lost_ends ends) ends)
    (in_more n (n + 13 * left + 13) lost (omega arith) lost_ends))
