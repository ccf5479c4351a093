-- What is kept of a tree's words stays that of the words, node by node.
use Rattle.vyrd_view.proofs.Prelude
use Prelude.{◌≡◌, ℕ, zero, suc, ◌+◌, ◌*◌, ◌/◌, ◌%◌, ◌<◌, Bool, true, false, ◌||◌, List, [], ◌∷◌}
use Prelude.{replicate, get_or, set, refl, ap, ◌∙◌, sym, arith, ◌==◌, ◌≢◌, nat_le, slice_index}
use Prelude.{list_any, given, right_of, node_word, nothing_given, zeros, apart_of, isnt_same}
use Prelude.{neither_true, isnt_below, is_touched, chain_nodes_from, chain_breaks_from, is_on_chain}
use Prelude.{is_broken, entry_pair, node_pair, is_stale, has_link, AgreeElsewhere}
use Rattle.vyrd_view.proofs.DecodedLaws.{word_untouched}

link_untouched : (w : ℕ) (changed : List ℕ) → w % 12 ≡ 3 → has_link changed ≡ false
    → list_any (λ x. x == w) changed ≡ false
link_untouched w [] at unlinked = refl
link_untouched w (x ∷ changed) at unlinked =
    let both = neither_true (x % 12 == 3) (has_link changed) unlinked in
    let apart : x ≢ w = λ same. apart_of (x % 12) 3 both.0 (cc) in
    cc (isnt_same x w apart, link_untouched w changed at both.1)

-- what follows a node on the chain, and whether that is damage
abbrev nodes_by : Bool → Bool → List ℕ → List ℕ
nodes_by ends back rest = elim ends [
  | true ↦ []
  | false ↦ elim back [
    | true ↦ []
    | false ↦ rest
  ]
]

abbrev breaks_by : Bool → Bool → Bool → Bool
breaks_by ends back rest = elim ends [
  | true ↦ false
  | false ↦ elim back [
    | true ↦ true
    | false ↦ rest
  ]
]

module _ (before words changed : List ℕ) (elsewhere : AgreeElsewhere before words changed) where
  same_word : (size part w : ℕ) → w / size ≡ part → is_touched size part changed ≡ false
      → slice_index words w ≡ slice_index before w
  same_word size part w at untouched = elsewhere w (word_untouched size part w changed at untouched)

  same_node_word : (n i : ℕ) → i < 12 → is_touched 12 n changed ≡ false → node_word words n i
      ≡ node_word before n i
  same_node_word n i low untouched = same_word 12 n (12 * n + i) (omega arith) untouched

  entry_untouched : (n j : ℕ) → j < 4 → is_touched 12 n changed ≡ false → entry_pair words n j
      ≡ entry_pair before n j
  entry_untouched n j low untouched = search (same_node_word, arith)

  pub node_untouched : (marks : List Bool) (m : ℕ) → is_stale marks (m / 4) changed ≡ false
      → node_pair words marks m ≡ node_pair before marks m
  node_untouched marks m fresh = search (entry_untouched, arith)

  module _ (unlinked : has_link changed ≡ false) where
    same_link : (n : ℕ) → right_of words n ≡ right_of before n
    same_link n = elsewhere (12 * n + 3)
        (link_untouched (12 * n + 3) changed (omega arith) unlinked)

    same_nodes : (size left : ℕ) (seen : List ℕ) (n : ℕ) → chain_nodes_from size words left seen n
        ≡ chain_nodes_from size before left seen n
    same_nodes size zero seen n = refl
    same_nodes size (suc left) seen n =
        ap (λ r. n ∷ nodes_by (r == 0) (nat_le size r || list_any (λ m. m == r) (n ∷ seen))
        (chain_nodes_from size words left (n ∷ seen) r)) (same_link n)
        ∙ ap (λ s. n ∷ nodes_by (right_of before n == 0)
        (nat_le size (right_of before n) || list_any (λ m. m == right_of before n) (n ∷ seen)) s)
        (same_nodes size left (n ∷ seen) (right_of before n))

    same_breaks : (size left : ℕ) (seen : List ℕ) (n : ℕ) → chain_breaks_from size words left seen n
        ≡ chain_breaks_from size before left seen n
    same_breaks size zero seen n = refl
    same_breaks size (suc left) seen n =
        ap (λ r. breaks_by (r == 0) (nat_le size r || list_any (λ m. m == r) (n ∷ seen))
        (chain_breaks_from size words left (n ∷ seen) r)) (same_link n)
        ∙ ap (λ b. breaks_by (right_of before n == 0)
        (nat_le size (right_of before n) || list_any (λ m. m == right_of before n) (n ∷ seen)) b)
        (same_breaks size left (n ∷ seen) (right_of before n))

    pub chain_untouched : (size n : ℕ) → is_on_chain size words n ≡ is_on_chain size before n
    unfolding is_on_chain
    chain_untouched size n = ap (list_any (λ m. m == n)) (same_nodes size size [] 0)

    pub end_untouched : (size : ℕ) → is_broken size words ≡ is_broken size before
    unfolding is_broken
    end_untouched size = same_breaks size size [] 0

-- ---- zeroed words

no_entry : (n node j : ℕ) → entry_pair (replicate n 0) node j ≡ (0, 0)
no_entry n node j = search (zeros, isnt_below, arith)

pub no_node : (n : ℕ) (marks : List Bool) (m : ℕ) → node_pair (replicate n 0) marks m ≡ (0, 0)
no_node n marks m = search (no_entry, arith)

one_node : (n size left : ℕ) → chain_nodes_from size (replicate n 0) (suc left) [] 0 ≡ 0 ∷ []
one_node n size left = cc (zeros n (12 * 0 + 3))

whole_chain : (n size left : ℕ) → chain_breaks_from size (replicate n 0) (suc left) [] 0 ≡ false
whole_chain n size left = cc (zeros n (12 * 0 + 3))

pub first_is_marked : (n size i : ℕ) → 0 < size → get_or (set (replicate size false) 0 true) i false
    ≡ is_on_chain size (replicate n 0) i
unfolding is_on_chain
first_is_marked n zero i some = absurd (omega arith)
first_is_marked n (suc left) zero some = cc (one_node n (suc left) left)
first_is_marked n (suc left) (suc i) some = none left i
    ∙ sym (ap (list_any (λ m. m == suc i)) (one_node n (suc _) left)
    ∙ ap (λ b. b || false) (isnt_same 0 (suc i) (λ e. absurd (omega (arith, e)))))
  where
    none : (k j : ℕ) → get_or (replicate k false) j false ≡ false
    none zero j = refl
    none (suc k) zero = refl
    none (suc k) (suc j) = none k j

pub end_is_whole : (n size : ℕ) → 0 < size → is_broken size (replicate n 0) ≡ false
unfolding is_broken
end_is_whole n size some = search (whole_chain, arith)

-- they give nothing
pub given_copies : (q n : ℕ) → given q (replicate n (0, 0)) ≡ 0
given_copies q zero = refl
given_copies q (suc n) = omega (arith, nothing_given q 0, given_copies q n)
