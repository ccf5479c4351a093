-- The chain of a tree's leaves, node by node, with a flag for each node that was seen.
use Rattle.vyrd_view.proofs.Prelude
use Prelude.{◌≡◌, ℕ, zero, suc, ◌+◌, ◌-◌, ◌<◌, Bool, true, false, ◌||◌, List, [], ◌∷◌, length}
use Prelude.{get_or, set, refl, ap, ◌∙◌, arith, get_or-set_same, get_or-set_other, ◌==◌, ◌≢◌}
use Prelude.{nat_le, replicate, list_any, nat_tests, Amounts, collected, right_of, node_parts}
use Prelude.{damage, chain_parts_from, chain_parts, parts_after, isnt_same, is_same, added}
use Rattle.std.proofs.Math.Bool.{or-true}
use Rattle.vyrd_base.proofs.AddedLaws.{added-append, added-collected}

-- The flags tell the nodes that were seen, and a node past the flags counts as seen.
abbrev pub Marks : ℕ → List Bool → List ℕ → Type 0
Marks size flags seen = (q : ℕ) → get_or flags q true
    ≡ (nat_le size q || list_any (λ m. m == q) seen)

-- what was added so far, with the chain from this node on, is what the whole chain shows
pub record Walk (size : ℕ) (words : List ℕ) (sums : Amounts) (flags : List Bool)
    (left node : ℕ) : Type 0 where
  pub seen : List ℕ
  pub marks : Marks size flags seen
  pub rest : added sums (chain_parts_from size words left seen node)
      ≡ collected (chain_parts size words)

pub none_marked : (n q : ℕ) → get_or (replicate n false) q true ≡ (nat_le n q || false)
none_marked zero q = grind (arith, nat_tests)
none_marked (suc n) zero = grind (arith, nat_tests)
none_marked (suc n) (suc q) = none_marked n q ∙ ap (λ b. b || false) (one_less n q)
  where
    one_less : (m k : ℕ) → nat_le m k ≡ nat_le (suc m) (suc k)
    one_less m k = grind (arith, nat_tests)

-- at the start
pub walk_begins : (size : ℕ) (words : List ℕ) (sums : Amounts) (flags : List Bool) (left : ℕ)
    → sums ≡ [] → left ≡ size → flags ≡ replicate size false
    → Walk size words sums flags left 0
walk_begins size words sums flags left empty all none =
    grind (arith, sums, left, none_marked, added, added-collected)

-- before the last turn a node is left
pub walk_left : (size : ℕ) (words : List ℕ) (sums : Amounts) (flags : List Bool) (turn n : ℕ)
    → turn < size
    → Walk size words sums flags (size - turn) n
    → Walk size words sums flags (suc (size - (turn + 1))) n
walk_left size words sums flags turn n more walk = grind arith

pub marked : (size n : ℕ) (flags : List Bool) (seen : List ℕ) → n < length flags
    → Marks size flags seen → Marks size (set flags n true) (n ∷ seen)
marked size n flags seen within marks q = by_test (n == q) refl
  where
    same_of : (n == q) ≡ true → n ≡ q
    same_of e = grind (arith, nat_tests)

    other_of : (n == q) ≡ false → q ≢ n
    other_of e = grind (arith, nat_tests)

    by_test : (b : Bool) → (n == q) ≡ b → get_or (set flags n true) q true
        ≡ (nat_le size q || ((n == q) || list_any (λ m. m == q) seen))
    by_test true e =
        cc (same_of e, get_or-set_same flags n true true within, or-true (nat_le size q))
    by_test false e = cc (get_or-set_other flags n q true true (other_of e), marks q)

-- a node, and what follows it
onward : (size : ℕ) (words : List ℕ) (sums : Amounts) (flags : List Bool) (left n : ℕ)
    (walk : Walk size words sums flags (suc left) n) (ends back : Bool)
    → n < length flags → (right_of words n == 0) ≡ ends → get_or (set flags n true)
    (right_of words n) true ≡ back
    → added (added sums (node_parts words n)) (parts_after size words left walk.seen n ends back)
    ≡ collected (chain_parts size words)
onward size words sums flags left n walk ends back within is_end is_back =
    grind (arith, sums, left, ends, back, within, marked, added, added-append)

-- at the node where the chain ends
pub walk_ends : (size : ℕ) (words : List ℕ) (sums t : Amounts) (flags : List Bool) (left n : ℕ)
    → Walk size words sums flags (suc left) n → n < length flags
    → t ≡ added sums (node_parts words n) → right_of words n ≡ 0
    → t ≡ collected (chain_parts size words)
walk_ends size words sums t flags left n walk within more ends =
    more ∙ onward size words sums flags left n walk true
    (get_or (set flags n true) (right_of words n) true) within
    (is_same (right_of words n) 0 ends) refl

-- at a link past the nodes or back to the chain
pub walk_breaks : (size : ℕ) (words : List ℕ) (sums t : Amounts) (flags : List Bool) (left n : ℕ)
    → Walk size words sums flags (suc left) n → n < length flags
    → t ≡ added sums (node_parts words n) → right_of words n ≢ 0 → get_or (set flags n true)
    (right_of words n) true ≡ true
    → added t damage ≡ collected (chain_parts size words)
walk_breaks size words sums t flags left n walk within more on back =
    ap (λ s. added s damage) more ∙ onward size words sums flags left n walk false true within
    (isnt_same (right_of words n) 0 on) back

-- at any other link
pub walk_goes_on : (size : ℕ) (words : List ℕ) (sums t : Amounts) (flags : List Bool) (left n : ℕ)
    → Walk size words sums flags (suc left) n → n < length flags
    → t ≡ added sums (node_parts words n) → right_of words n ≢ 0 → get_or (set flags n true)
    (right_of words n) true ≡ false
    → Walk size words t (set flags n true) left (right_of words n)
walk_goes_on size words sums t flags left n walk within more on new = record {
  seen = n ∷ walk.seen;
  marks = marked _ n _ _ within walk.marks;
  rest = cc (onward size words sums flags left n walk false false within
      (isnt_same (right_of words n) 0 on) new);
}

-- a node that isn't seen is within the flags
pub unseen_within : (flags : List Bool) (q : ℕ) → get_or flags q true ≡ false → q < length flags
unseen_within [] q unseen = cc
unseen_within (flag ∷ flags) zero unseen = omega arith
unseen_within (flag ∷ flags) (suc q) unseen = omega (arith, unseen_within flags q unseen)
