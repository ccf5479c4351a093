-- What the nodes of a tree's chain give, one after the other.
use Rattle.vyrd_witness.proofs.Prelude
use Prelude.{◌≡◌, ℕ, zero, suc, ◌+◌, ◌-◌, ◌*◌, ◌^◌, ◌<◌, ◌≤◌, Bool, true, false, cond, not, ◌&&◌}
use Prelude.{◌||◌, List, [], ◌∷◌, ◌++◌, length, refl, ap, ◌∙◌, sym, get_or, set, arith, ◌==◌}
use Prelude.{flat_map, append-nil, append_assoc, given, node_parts-places, told, given_parts}
use Rattle.vyrd_base.specs.Tree.{node_parts, damage, chain_parts_from, right_of}
use Rattle.vyrd_base.proofs.PartLaws.{places_at_most, parts_after}
use Rattle.vyrd_base.proofs.SumLaws.{given-append, one_at_most}
use Rattle.vyrd_view.proofs.ChainLaws.{Marks, marked}
use Rattle.vyrd_witness.specs.Given.{leads_back, link_parts, chain_from}

-- ---- without their numbers

-- the nodes give what the chain does
pub chain_is : (size : ℕ) (words : List ℕ) (left : ℕ) (seen : List ℕ) (n : ℕ)
    → flat_map (λ part. part.1) (chain_from size words left seen n)
    ≡ chain_parts_from size words left seen n
chain_is size words zero seen n = refl
chain_is size words (suc left) seen n =
    append_assoc (node_parts words n) (link_parts size words seen n) _
    ∙ ap (λ xs. node_parts words n ++ xs)
    (by_tests (right_of words n == 0) (leads_back size words seen n)
    (chain_is size words left (n ∷ seen) (right_of words n)))
  where
    by_tests : (ends back : Bool)
        → flat_map (λ part. part.1) (chain_from size words left (n ∷ seen) (right_of words n))
        ≡ chain_parts_from size words left (n ∷ seen) (right_of words n)
        → cond {A = List (ℕ × ℕ)} (not ends && back) damage []
        ++ flat_map (λ part. part.1) (cond {A = List (ℕ × List (ℕ × ℕ))} (not ends && not back)
        (chain_from size words left (n ∷ seen) (right_of words n)) [])
        ≡ parts_after size words left seen n ends back
    by_tests ends back more = search (back, more, arith)

-- ---- how much they give

-- a node gives little
pub node_low : (words : List ℕ) (n q : ℕ) → given q (node_parts words n) ≤ 2 ^ 35
node_low words n q = search (node_parts-places, places_at_most, arith)

-- and so does the chain
pub chain_fits : (size : ℕ) (words : List ℕ) (q left : ℕ) (seen : List ℕ) (n : ℕ)
    → given q (chain_parts_from size words left seen n) ≤ left * (2 ^ 35 + 1)
chain_fits size words q zero seen n = omega arith
chain_fits size words q (suc left) seen n =
    omega (
      arith,
      given-append q (node_parts words n) (parts_after size words left seen n
          (right_of words n == 0) (leads_back size words seen n)),
      node_low words n q,
      by_tests (right_of words n == 0) (leads_back size words seen n)
          (chain_fits size words q left (n ∷ seen) (right_of words n)),
    )
  where
    by_tests : (ends back : Bool)
        → given q (chain_parts_from size words left (n ∷ seen) (right_of words n))
        ≤ left * (2 ^ 35 + 1)
        → given q (parts_after size words left seen n ends back) ≤ left * (2 ^ 35 + 1) + 1
    by_tests ends back more = search (back, more, one_at_most, arith)

-- ---- a walk along the chain

-- what was put so far, with the chain from this node on, is what is to be put
pub record NodeWalk (size : ℕ) (words : List ℕ) (q : ℕ) (old put : List (ℕ × ℕ)) (flags : List Bool)
    (left node : ℕ) : Type 0 where
  pub seen : List ℕ
  pub marks : Marks size flags seen
  pub rest : put ++ given_parts q (chain_from size words left seen node)
      ≡ old ++ given_parts q (chain_from size words size [] 0)

-- before the last turn a node is left
pub walk_left : (size : ℕ) (words : List ℕ) (q : ℕ) (old put : List (ℕ × ℕ)) (flags : List Bool)
    (turn n : ℕ) → turn < size → NodeWalk size words q old put flags (size - turn) n
    → NodeWalk size words q old put flags (suc (size - (turn + 1))) n
walk_left size words q old put flags turn n more walk = grind arith

module _ (size : ℕ) (words : List ℕ) (q : ℕ) (old put now : List (ℕ × ℕ)) (flags : List Bool)
    (left n : ℕ) (walk : NodeWalk size words q old put flags (suc left) n) (ends back : Bool)
    (own link : ℕ) (within : n < length flags) (is_end : (right_of words n == 0) ≡ ends)
    (is_back : get_or (set flags n true) (right_of words n) true ≡ back)
    (own_is : own ≡ given q (node_parts words n))
    (link_is : link ≡ given q (cond {A = List (ℕ × ℕ)} (not ends && back) damage []))
    (more : now ≡ put ++ told n (own + link)) where
  now_marked : Marks size (set flags n true) (n ∷ walk.seen)
  now_marked = marked size n flags walk.seen within walk.marks

  test_is : leads_back size words walk.seen n ≡ back
  test_is = sym (now_marked (right_of words n)) ∙ is_back

  amount_is : own + link ≡ given q (node_parts words n ++ link_parts size words walk.seen n)
  amount_is = search (given, test_is, given-append, arith)

  -- the chain behind the node
  abbrev behind : Bool → Bool → List (ℕ × List (ℕ × ℕ))
  behind e b = cond {A = List (ℕ × List (ℕ × ℕ))} (not e && not b)
      (chain_from size words left (n ∷ walk.seen) (right_of words n)) []

  onward : now ++ given_parts q (behind ends back)
      ≡ old ++ given_parts q (chain_from size words size [] 0)
  onward = search (told, given, amount_is, append_assoc, test_is, arith)

  -- the chain stops there
  pub walk_stops : (ends || back) ≡ true
      → now ≡ old ++ given_parts q (chain_from size words size [] 0)
  walk_stops stops = sym (append-nil now)
      ∙ ap (λ rest. now ++ given_parts q rest) (sym (none ends back stops)) ∙ onward
    where
      none : (e b : Bool) → (e || b) ≡ true → behind e b ≡ []
      none true b so = refl
      none false true so = refl
      none false false so = cc

  -- and there it goes on
  pub walk_on : (ends || back) ≡ false
      → NodeWalk size words q old now (set flags n true) left (right_of words n)
  walk_on on = search (now_marked, onward, arith)
