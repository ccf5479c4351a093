-- What is kept of a tree's words before is ready to be brought up to date.
use Rattle.vyrd_view.proofs.Prelude
use Prelude.{◌≡◌, ℕ, ◌+◌, ◌*◌, ◌/◌, ◌<◌, Bool, true, false, List, length, length-set, map}
use Prelude.{replicate, get_or, set, ap, ◌∙◌, sym, arith, get_or-replicate, length-replicate, Tree}
use Prelude.{numbers_below, collected, given, chain_parts, same_amounts, amount_of-collected}
use Prelude.{IsAmounts-collected, length_below, element_below, is_on_chain, is_broken, node_pair}
use Prelude.{end_pair, tree_pair, is_stale, has_link, IsWalked, AgreeElsewhere, of_subject, view_by}
use Rattle.vyrd_view.proofs.TreePairLaws.{tree_pair_node, tree_pair_end, tree_pairs}
use Rattle.vyrd_view.proofs.ShowingTree.{places_give}
use Rattle.vyrd_view.proofs.CurrentLaws.{node_untouched, chain_untouched, end_untouched}
use Rattle.vyrd_view.proofs.CurrentLaws.{first_is_marked, no_node, end_is_whole}

-- what is kept of a tree's words has a place for each entry of a node, and one for the chain's end
pub tree_count : (words : List ℕ) (pairs : List (ℕ × ℕ)) (marks : List Bool)
    → IsWalked words pairs marks → length pairs ≡ 4 * length marks + 1
tree_count words pairs marks walked = search (length_below, arith)

-- what is kept once the marks, the places of the nodes and that of the chain's end are up to date
pub walked_now : (words : List ℕ) (pairs : List (ℕ × ℕ)) (marks : List Bool)
    → length pairs ≡ 4 * length marks + 1
    → ((n : ℕ) → n < length marks → get_or marks n false ≡ is_on_chain (length marks) words n)
    → ((m : ℕ) → m < 4 * length marks → get_or pairs m (0, 0) ≡ node_pair words marks m)
    → get_or pairs (4 * length marks) (0, 0) ≡ end_pair (is_broken (length marks) words)
    → IsWalked words pairs marks
walked_now words pairs marks count marked nodes end =
    record { given = tree_pairs _ _ marks _ count marked nodes end; marked = marked }

module _ (before words changed : List ℕ) (pairs : List (ℕ × ℕ)) (marks : List Bool)
    (walked : IsWalked before pairs marks) (elsewhere : AgreeElsewhere before words changed) where
  pub tree_others : (m : ℕ) → m < 4 * length marks → is_stale marks (m / 4) changed ≡ false
      → get_or pairs m (0, 0) ≡ node_pair words marks m
  tree_others m low fresh = search (element_below, tree_pair_node, node_untouched, arith)

  pub tree_marks : has_link changed ≡ false → (n : ℕ) → n < length marks
      → get_or marks n false ≡ is_on_chain (length marks) words n
  tree_marks unlinked n low = walked.marked n low
      ∙ sym (chain_untouched before words changed elsewhere unlinked (length marks) n)

  pub tree_end : has_link changed ≡ false
      → get_or pairs (4 * length marks) (0, 0) ≡ end_pair (is_broken (length marks) words)
  tree_end unlinked =
      ap (λ s. get_or s (4 * length marks) (0, 0)) walked.given
      ∙ element_below (tree_pair (length marks) before) (4 * length marks + 1) (4 * length marks)
      (0, 0) (omega arith)
      ∙ tree_pair_end (length marks) before
      ∙ ap end_pair (sym (end_untouched before words changed elsewhere unlinked (length marks)))

-- what is kept of a tree's words shows what they show
pub walked_shows : (words : List ℕ) (pairs : List (ℕ × ℕ)) (marks : List Bool) → 0 < length marks
    → IsWalked words pairs marks
    → collected pairs ≡ view_by (of_subject Tree (length marks)) words
walked_shows words pairs marks some walked =
    let parts : List (ℕ × ℕ) = chain_parts (length marks) words in
    same_amounts _ _ (IsAmounts-collected pairs) (IsAmounts-collected parts)
    (λ q. amount_of-collected _ q ∙ ap (given q) walked.given ∙ places_give q _ _ some
    ∙ sym (amount_of-collected _ q))

-- zeroed words and the pairs that they give
pub first_walked : (size n : ℕ) → 0 < size
    → IsWalked (replicate n 0) (replicate (4 * size + 1) (0, 0))
    (set (replicate size false) 0 true)
first_walked size n some =
    let marks : List Bool = set _ 0 _ in
    let count : length marks ≡ size = length-set _ 0 _ ∙ length-replicate _ _ in
    record {
      given = tree_pairs _ (replicate n 0) marks _ (length-replicate _ _)
          (λ i low. first_is_marked n _ i some)
          (λ m low. get_or-replicate (4 * size + 1) m _ (0, 0) (omega (arith, low))
          ∙ sym (no_node n _ m)) (get_or-replicate (4 * size + 1) (4 * size) _ (0, 0) (omega arith)
          ∙ sym (ap end_pair (end_is_whole n _ some)))
          ∙ ap (λ k. map (tree_pair k (replicate n 0)) (numbers_below (4 * k + 1))) (sym count);
      marked = λ i low. cc (first_is_marked n size i some);
    }
