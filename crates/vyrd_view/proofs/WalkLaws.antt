-- A walk along the chain of leaves, which marks the nodes that it sees.
use Rattle.vyrd_view.proofs.Prelude.{◌≡◌, ℕ, suc, ◌+◌, ◌-◌, ◌<◌, Bool, true, false, ◌||◌, List, []}
use Rattle.vyrd_view.proofs.Prelude.{◌∷◌, length, length-set, get_or, set, replicate, refl, ap, ◌∙◌}
use Rattle.vyrd_view.proofs.Prelude.{sym, arith, ◌==◌, ◌≢◌, nat_le, list_any, get_or_default}
use Rattle.vyrd_view.proofs.Prelude.{or-false, right_of, isnt_same, is_same, isnt_at_most}
use Rattle.vyrd_view.proofs.Prelude.{chain_nodes_from, chain_breaks_from, is_on_chain, is_broken}
use Rattle.vyrd_view.proofs.ChainLaws.{Marks, marked, none_marked}

-- what was seen so far, with the chain from this node on, is the whole chain
pub record Walks (size : ℕ) (words : List ℕ) (flags : List Bool) (left node : ℕ) : Type 0 where
  pub seen : List ℕ
  pub marks : Marks size flags seen
  pub nodes : (q : ℕ)
      → (list_any (λ m. m == q) seen || list_any (λ m. m == q)
      (chain_nodes_from size words left seen node))
      ≡ list_any (λ m. m == q) (chain_nodes_from size words size [] 0)
  pub breaks : chain_breaks_from size words left seen node ≡ chain_breaks_from size words size [] 0

pub walks_begin : (size : ℕ) (words : List ℕ) (flags : List Bool) (left : ℕ) → left ≡ size
    → flags ≡ replicate size false
    → Walks size words flags left 0
walks_begin size words flags left all none = grind (arith, left, none_marked)

pub walks_left : (size : ℕ) (words : List ℕ) (flags : List Bool) (turn n : ℕ) → turn < size
    → Walks size words flags (size - turn) n
    → Walks size words flags (suc (size - (turn + 1))) n
walks_left size words flags turn n more walk = grind arith

-- the nodes that follow one on the chain
abbrev pub nodes_after : ℕ → List ℕ → ℕ → List ℕ → ℕ → Bool → Bool → List ℕ
nodes_after size words left seen n ends back = elim ends [
  | true ↦ []
  | false ↦ elim back [
    | true ↦ []
    | false ↦ chain_nodes_from size words left (n ∷ seen) (right_of words n)
  ]
]

-- whether the chain breaks after a node
abbrev pub breaks_after : ℕ → List ℕ → ℕ → List ℕ → ℕ → Bool → Bool → Bool
breaks_after size words left seen n ends back = elim ends [
  | true ↦ false
  | false ↦ elim back [
    | true ↦ true
    | false ↦ chain_breaks_from size words left (n ∷ seen) (right_of words n)
  ]
]

or_swap : (a b x : Bool) → ((b || a) || x) ≡ (a || (b || x))
or_swap a b x = grind arith

module _ (size : ℕ) (words : List ℕ) (flags : List Bool) (left n : ℕ)
    (walk : Walks size words flags (suc left) n) (ends back : Bool)
    (within : n < length flags) (is_end : (right_of words n == 0) ≡ ends)
    (is_back : get_or (set flags n true) (right_of words n) true ≡ back) where
  now_marked : Marks size (set flags n true) (n ∷ walk.seen)
  now_marked = marked size n flags walk.seen within walk.marks

  test_is : (nat_le size (right_of words n) || list_any (λ m. m == right_of words n)
      (n ∷ walk.seen)) ≡ back
  test_is = sym (now_marked (right_of words n)) ∙ is_back

  onward_nodes : (q : ℕ)
      → (list_any (λ m. m == q) (n ∷ walk.seen) || list_any (λ m. m == q)
      (nodes_after size words left walk.seen n ends back))
      ≡ list_any (λ m. m == q) (chain_nodes_from size words size [] 0)
  onward_nodes q = search (or_swap, test_is, arith)

  onward_breaks : breaks_after size words left walk.seen n ends back
      ≡ chain_breaks_from size words size [] 0
  onward_breaks = search (test_is, arith)

-- the marks of a walk whose chain has been seen
seen_all : (size : ℕ) (words : List ℕ) (flags : List Bool) (seen : List ℕ) → length flags ≡ size
    → Marks size flags seen
    → ((q : ℕ) → list_any (λ m. m == q) seen ≡ list_any (λ m. m == q)
    (chain_nodes_from size words size [] 0))
    → (n : ℕ) → n < size → get_or flags n false ≡ is_on_chain size words n
unfolding is_on_chain
seen_all size words flags seen count marks all n low =
    get_or_default flags n false true (omega (arith, low, count)) ∙ marks n
    ∙ ap (λ b. b || list_any (λ m. m == n) seen) (isnt_at_most size n low) ∙ all n

pub walk_over : (size : ℕ) (words : List ℕ) (flags : List Bool) (n : ℕ) → length flags ≡ size
    → Walks size words flags 0 n
    → (q : ℕ) → q < size → get_or flags q false ≡ is_on_chain size words q
walk_over size words flags n count walk q low = seen_all _ _ _ walk.seen count walk.marks
    (λ k. sym (or-false _) ∙ walk.nodes k) q low

pub unbroken_over : (size : ℕ) (words : List ℕ) (flags : List Bool) (n : ℕ)
    → Walks size words flags 0 n → false ≡ is_broken size words
unfolding is_broken
unbroken_over size words flags n walk = walk.breaks

pub walk_stops : (size : ℕ) (words : List ℕ) (flags : List Bool) (left n : ℕ) → length flags ≡ size
    → Walks size words flags (suc left) n
    → n < length flags → right_of words n ≡ 0 → (q : ℕ) → q < size
    → get_or (set flags n true) q false ≡ is_on_chain size words q
walk_stops size words flags left n count walk within ends q low =
    let is_end = is_same (right_of _ n) 0 ends in
    let back : Bool = get_or (set flags n true) (right_of words n) true in
    seen_all _ _ _ (n ∷ walk.seen) (length-set _ n _ ∙ count) (marked _ n _ _ within walk.marks)
    (λ k. sym (or-false _) ∙ onward_nodes _ _ flags left n walk true back within is_end refl k) q
    low

pub unbroken_stops : (size : ℕ) (words : List ℕ) (flags : List Bool) (left n : ℕ)
    → Walks size words flags (suc left) n
    → n < length flags → right_of words n ≡ 0 → false ≡ is_broken size words
unfolding is_broken
unbroken_stops size words flags left n walk within ends = search (onward_breaks, is_same, arith)

pub walk_breaks_off : (size : ℕ) (words : List ℕ) (flags : List Bool) (left n : ℕ) → length flags
    ≡ size → Walks size words flags (suc left) n
    → n < length flags → right_of words n ≢ 0 → get_or (set flags n true) (right_of words n) true
    ≡ true
    → (q : ℕ) → q < size → get_or (set flags n true) q false ≡ is_on_chain size words q
walk_breaks_off size words flags left n count walk within on back q low = seen_all _ _ _
    (n ∷ walk.seen) (length-set _ n _ ∙ count) (marked _ n _ _ within walk.marks)
    (λ k. sym (or-false _) ∙ onward_nodes _ _ flags left n walk false true within
    (isnt_same _ 0 on) back k) q low

pub broken_off : (size : ℕ) (words : List ℕ) (flags : List Bool) (left n : ℕ)
    → Walks size words flags (suc left) n
    → n < length flags → right_of words n ≢ 0 → get_or (set flags n true) (right_of words n) true
    ≡ true → true ≡ is_broken size words
unfolding is_broken
broken_off size words flags left n walk within on back = onward_breaks size words flags left n walk
    false true within (isnt_same _ 0 on) back

pub walk_on : (size : ℕ) (words : List ℕ) (flags : List Bool) (left n : ℕ)
    → Walks size words flags (suc left) n
    → n < length flags → right_of words n ≢ 0 → get_or (set flags n true) (right_of words n) true
    ≡ false
    → Walks size words (set flags n true) left (right_of words n)
walk_on size words flags left n walk within on new = grind (arith, left, within, marked, isnt_same)
