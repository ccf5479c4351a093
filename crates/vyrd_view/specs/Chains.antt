-- The nodes on the chain of a tree's leaves, and what each place of a tree gives.
use Rattle.std.specs.Prelude.{ℕ, zero, suc, Bool, true, false, ◌+◌, ◌*◌, ◌/◌, ◌%◌, ◌^◌, ◌==◌, ◌&&◌}
use Rattle.std.specs.Prelude.{◌||◌, nat_lt, nat_le, List, [], ◌∷◌, slice_index_or, if◌then◌else◌}
use Rattle.std.specs.List.{list_any}
use Rattle.vyrd_base.specs.Tree.{right_of, count_of, node_word}
use Rattle.vyrd_view.specs.Pairs.{is_touched}

-- the nodes of the chain of right links from a node on, `left` of them at most; those seen before
-- it end the chain
abbrev pub chain_nodes_from : ℕ → List ℕ → ℕ → List ℕ → ℕ → List ℕ
chain_nodes_from size words zero seen n = []
chain_nodes_from size words (suc left) seen n = n ∷ (elim (right_of words n == 0) [
  | true ↦ []
  | false ↦
      elim (nat_le size (right_of words n) || list_any (λ m. m == right_of words n) (n ∷ seen)) [
        | true ↦ []
        | false ↦ chain_nodes_from size words left (n ∷ seen) (right_of words n)
      ]
])

-- whether that chain ends at a link past the nodes or back to the chain
abbrev pub chain_breaks_from : ℕ → List ℕ → ℕ → List ℕ → ℕ → Bool
chain_breaks_from size words zero seen n = false
chain_breaks_from size words (suc left) seen n = elim (right_of words n == 0) [
  | true ↦ false
  | false ↦
      elim (nat_le size (right_of words n) || list_any (λ m. m == right_of words n) (n ∷ seen)) [
        | true ↦ true
        | false ↦ chain_breaks_from size words left (n ∷ seen) (right_of words n)
      ]
]

-- whether a node is on the chain of leaves
unfoldable pub is_on_chain : ℕ → List ℕ → ℕ → Bool
is_on_chain size words n = list_any (λ m. m == n) (chain_nodes_from size words size [] 0)

-- whether that chain is damaged
unfoldable pub is_broken : ℕ → List ℕ → Bool
is_broken size words = chain_breaks_from size words size [] 0

-- what an entry of a node gives: one past the count gives nothing
abbrev pub entry_pair : List ℕ → ℕ → ℕ → ℕ × ℕ
entry_pair words n j =
    if nat_lt j (count_of words n) then
    (if nat_lt (node_word words n (4 + j)) (2 ^ 32)
    && nat_lt (node_word words n (8 + j)) (2 ^ 32) then
    (node_word words n (4 + j), 2 ^ 32 + node_word words n (8 + j)) else (2 ^ 33, 1))
    else (0, 0)

-- The places 4n to 4n + 3 are those of node n: its entries if it is marked, and nothing otherwise.
abbrev pub node_pair : List ℕ → List Bool → ℕ → ℕ × ℕ
node_pair words marks m =
    if slice_index_or marks (m / 4) false then entry_pair words (m / 4) (m % 4) else (0, 0)

-- what the end of the chain gives
abbrev pub end_pair : Bool → ℕ × ℕ
end_pair broken = if broken then (2 ^ 33, 1) else (0, 0)

-- whether a marked node has a changed word
abbrev pub is_stale : List Bool → ℕ → List ℕ → Bool
is_stale marks n changed = slice_index_or marks n false && is_touched 12 n changed

-- whether one of the words is a right link
abbrev pub has_link : List ℕ → Bool
has_link changed = list_any (λ word. word % 12 == 3) changed

-- what each place of a tree gives: those of the nodes on the chain their entries, and the last
-- place the chain's damage
abbrev pub tree_pair : ℕ → List ℕ → ℕ → ℕ × ℕ
tree_pair size words m =
    if m == 4 * size then end_pair (is_broken size words)
    else (if is_on_chain size words (m / 4) then entry_pair words (m / 4) (m % 4) else (0, 0))
