-- What the leaves of a tree give, entry by entry and node by node.
use Rattle.vyrd_spec.proofs.Prelude
use Prelude.{◌≡◌, ◌≢◌, ℕ, suc, ◌+◌, ◌-◌, ◌*◌, ◌^◌, ◌<◌, ◌≤◌, min, Bool, true, false, cond, ◌||◌}
use Prelude.{List, [], ◌∷◌, refl, ap, ◌∙◌, sym, arith, ◌==◌, nat_le, flat_map, slice_index}
use Prelude.{list_all, list_any, AllByRecursion, added, Amounts, amount_of, plus_amount, collected}
use Prelude.{level_of, count_of, bound_of, right_of, entries_of, entry_parts, node_parts, damage}
use Prelude.{chain_parts_from, chain_parts, last_of, low_of, is_leaf_entry, added-append}
use Prelude.{added-collected, parts_after, first_true, second_true, below_of, isnt_same}
use Prelude.{isnt_at_most, is_same, AllAmounts, entry_at}
use Rattle.vyrd_spec.proofs.RowLaws.{each_passes}
use Rattle.vyrd_spec.proofs.NodeLaws.{all_entries}
use Rattle.vyrd_spec.proofs.StepLaws.{AllAmounts-with_amount}
use Rattle.vyrd_spec.proofs.TreeWordLaws.{IsTreeOf, LeadsOn, leads_on}

-- the numbers of a leaf's entry
pub low_numbers : (key value : ℕ) → is_leaf_entry (key, value) ≡ true → (key < 2 ^ 32)
    × (value < 2 ^ 32)
low_numbers key value sound = grind (arith, below_of, first_true, second_true)

pub entry_is : (key value : ℕ) → is_leaf_entry (key, value) ≡ true → entry_parts (key, value)
    ≡ (key, 2 ^ 32 + value) ∷ []
entry_is key value sound = ap (λ b. cond b ((key, 2 ^ 32 + value) ∷ []) damage) sound

-- the words of an entry, as they are read
pub read_at : (words : List ℕ) (n j : ℕ) → entry_at words n j
    ≡ (slice_index words (12 * n + 4 + j), slice_index words (12 * n + 8 + j))
read_at words n j = grind arith

pub entry_sound : (words : List ℕ) (n j : ℕ) → list_all is_leaf_entry (entries_of words n) ≡ true
    → j < min (count_of words n) 4
    → is_leaf_entry (slice_index words (12 * n + 4 + j), slice_index words (12 * n + 8 + j)) ≡ true
entry_sound words n j all low = ap is_leaf_entry (sym (read_at words n j))
    ∙ each_passes (λ i. is_leaf_entry (entry_at words n i)) (min _ 4) j
    (sym (all_entries is_leaf_entry words n) ∙ all) low

-- keys of 32 bits, each with 2^32 at least
abbrev pub AreLeafAmounts : Amounts → Type 0
AreLeafAmounts s = AllAmounts (λ key amount. (key < 2 ^ 32) × (2 ^ 32 ≤ amount)) s

entries_small : (entries : List (ℕ × ℕ)) (s : Amounts) → list_all is_leaf_entry entries ≡ true
    → AreLeafAmounts s
    → AreLeafAmounts (added s (flat_map entry_parts entries))
entries_small [] s all small = small
entries_small (entry ∷ entries) s all small =
    let sound = first_true _ (list_all is_leaf_entry entries) all in
    let numbers = low_numbers _ entry.1 sound in
    rw (entry_is entry.0 entry.1 sound)
    (entries_small entries (plus_amount s entry.0 (2 ^ 32 + entry.1))
    (second_true (is_leaf_entry entry) (list_all is_leaf_entry entries) all)
    (AllAmounts-with_amount (λ key amount. (key < 2 ^ 32) × (2 ^ 32 ≤ amount)) s entry.0
    (amount_of s entry.0 + (2 ^ 32 + entry.1)) small (λ some. (numbers.0, omega arith))))

pub node_small : (words : List ℕ) (n : ℕ) (s t : Amounts) → t ≡ added s (node_parts words n)
    → list_all is_leaf_entry (entries_of words n) ≡ true → AreLeafAmounts s → AreLeafAmounts t
node_small words n s t more all small = search (more, entries_small, small, arith)

pub nothing_small : (s : Amounts) → s ≡ [] → AreLeafAmounts s
nothing_small s none = λ key some. absurd (some (ap (λ x. amount_of x key) none))

-- a node before this one on the chain
abbrev IsBefore : List ℕ → ℕ → ℕ → ℕ → Type 0
IsBefore words last from m = (low_of last words m < bound_of words m) × (bound_of words m ≤ from)

-- what was added so far, with the chain from this node on, is what the whole chain shows
pub record LeafWalk (size : ℕ) (words : List ℕ) (values : Amounts) (left node : ℕ) : Type 0 where
  pub seen : List ℕ
  pub rest : added values (chain_parts_from size words left seen node)
      ≡ collected (chain_parts size words)
  pub in_use : node ≤ last_of size words
  pub leaf : level_of words node ≡ 0
  pub before : AllByRecursion
      (IsBefore words (last_of size words) (low_of (last_of size words) words node)) seen

pub walk_begins : (size : ℕ) (words : List ℕ) (values : Amounts) (left : ℕ) → IsTreeOf size words
    → values ≡ [] → left ≡ size
    → LeafWalk size words values left 0
walk_begins size words values left tree none all = search (added, added-collected, arith)

-- whether the link of a node goes past the nodes or back
abbrev goes_back : ℕ → List ℕ → List ℕ → ℕ → Bool
goes_back size words seen n = nat_le size (right_of words n)
    || list_any (λ m. m == right_of words n) (n ∷ seen)

-- a node, and what follows it
onward : (size : ℕ) (words : List ℕ) (values t : Amounts) (left n : ℕ)
    (walk : LeafWalk size words values (suc left) n) (ends back : Bool)
    → t ≡ added values (node_parts words n) → (right_of words n == 0) ≡ ends
    → goes_back size words walk.seen n ≡ back
    → added t (parts_after size words left walk.seen n ends back)
    ≡ collected (chain_parts size words)
onward size words values t left n walk ends back more is_end is_back = search (added-append, arith)

-- at the node where the chain ends
pub walk_ends : (size : ℕ) (words : List ℕ) (values t : Amounts) (left n : ℕ)
    → LeafWalk size words values (suc left) n
    → t ≡ added values (node_parts words n) → right_of words n ≡ 0
    → t ≡ collected (chain_parts size words)
walk_ends size words values t left n walk more ends = onward size words values t left n walk true
    (goes_back _ _ _ n) more (is_same _ 0 ends) refl

-- no node that was seen is this one
unseen : (last : ℕ) (words : List ℕ) (from right : ℕ) (seen : List ℕ)
    → AllByRecursion (IsBefore words last from) seen
    → from < low_of last words right → list_any (λ m. m == right) seen ≡ false
unseen last words from right [] before above = refl
unseen last words from right (m ∷ seen) before above =
    grind (arith, unseen last words from right seen before.1 above, isnt_same, above)

raised : (last : ℕ) (words : List ℕ) (from to : ℕ) (seen : List ℕ) → from ≤ to
    → AllByRecursion (IsBefore words last from) seen
    → AllByRecursion (IsBefore words last to) seen
raised last words from to [] le before = tt
raised last words from to (m ∷ seen) le before =
    ((before.0.0, omega (arith, le, before.0.1)), raised last words from to seen le before.1)

-- at any other node
pub walk_goes_on : (size : ℕ) (words : List ℕ) (values t : Amounts) (left n : ℕ)
    → IsTreeOf size words
    → LeafWalk size words values (suc left) n → t ≡ added values (node_parts words n)
    → right_of words n ≢ 0
    → LeafWalk size words t left (right_of words n)
walk_goes_on size words values t left n tree walk more on =
    let last : ℕ = last_of size words in
    let right : ℕ = right_of words n in
    let leads : LeadsOn last words n = leads_on size words n tree walk.in_use on in
    let rises : low_of last words n < low_of last words right =
    omega (arith, leads.above, leads.begins) in
    let other : (n == right) ≡ false = isnt_same n right
    (λ same. absurd (omega (arith, rises, ap (low_of last words) same))) in
    let within : nat_le size right ≡ false = isnt_at_most size right
    (omega (arith, leads.in_use, tree.last_low)) in
    let new : goes_back size words walk.seen n ≡ false =
    cc (unseen last words (low_of last words n) right walk.seen walk.before rises) in
    record {
      seen = n ∷ walk.seen;
      rest = onward size words values t left n walk false false more (isnt_same right 0 on) new;
      in_use = leads.in_use;
      leaf = leads.same_level ∙ walk.leaf;
      before = (
        (leads.above, omega (arith, leads.begins)),
        raised last words (low_of last words n) (low_of last words right) walk.seen
            (omega (arith, rises)) walk.before,
      );
    }

-- before the last turn a node is left
pub walk_left : (size : ℕ) (words : List ℕ) (values : Amounts) (turn n : ℕ) → turn < size
    → LeafWalk size words values (size - turn) n
    → LeafWalk size words values (suc (size - (turn + 1))) n
walk_left size words values turn n more walk = grind arith
