-- The test of a node that hangs says so, and the other way round.
use Rattle.vyrd_tree.proofs.Prelude.{◌≡◌, ◌≢◌, ℕ, ◌+◌, ◌≤◌, ◌⊎◌, inl, inr, true, List, ap, ◌∙◌, sym}
use Rattle.vyrd_tree.proofs.Prelude.{subst, arith, ◌==◌, nat_le, Header, Tree, same_of, is_same}
use Rattle.vyrd_tree.proofs.Prelude.{Memory, is_hanging, zero_or, IsTree, entries_at}
use Rattle.std.proofs.Common.{not}
use Rattle.std.specs.Prelude.{◌&&◌, ◌||◌, slice_index}
use Rattle.std.specs.List.{list_all, AllByRecursion as Each}
use Rattle.std.proofs.lemmas.Bool.Decides.{nat_tests}
use Rattle.vyrd_base.specs.Tree.{level_of, entries_of, last_of, nodes, low_of}
use Rattle.vyrd_base.proofs.TestLaws.{both_true, first_true, second_true, isnt_same, is_at_most}
use Rattle.vyrd_base.proofs.TestLaws.{at_most_of}
use Rattle.vyrd_base.proofs.PlaceLaws.{pass_all}
use Rattle.vyrd_memory.specs.Alone.{words_in}
use Rattle.vyrd_memory.proofs.NumberLists.{all_pass}
use Rattle.vyrd_tree.specs.Hanging.{leads_elsewhere, hangs_in}
use Rattle.vyrd_tree.specs.Laws.Alone.Tested.{all_says, all_passes, entries_are, low_is}
use Rattle.vyrd_tree.specs.Laws.Alone.Changes.{SameWords, same_words_tree, words_same}
use Rattle.vyrd_tree.specs.Laws.Alone.SplitKeepsTree.{IsHanging}
use Rattle.vyrd_tree.specs.Laws.Alone.FullNodeSplits.{hanging_same_words}

not_true : (n : ℕ) → not (n == 0) ≡ true → n ≢ 0
not_true n e = grind (arith, nat_tests)

module _ (size : ℕ) (words : List ℕ) (low : ℕ → ℕ) (level key node : ℕ)
    (t : IsTree size (slice_index words) low) where
  abbrev last : ℕ
  last = last_of size words

  same : (n : ℕ) → n ≤ last → entries_of words n ≡ entries_at (slice_index words) n
  same n used = entries_are words n (t.few n used)

  elsewhere : (entry : ℕ × ℕ) → not (entry.1 == node) ≡ true → entry.1 ≢ node
  elsewhere entry e = search (is_same, arith)

  says : hangs_in size words level key node ≡ true → IsHanging size (slice_index words) low level
      key node
  says e = record {
    in_use = used;
    level_is = same_of (level_of words node) level
        (second_true (nat_le node last) (level_of words node == level) two);
    low_is = sym (low_is size words low t node used) ∙ same_of (low_of last words node) key
        (second_true (nat_le node last && level_of words node == level)
        (low_of last words node == key) three);
    some = not_true key
        (second_true (nat_le node last && level_of words node == level
        && low_of last words node == key) (not (key == 0)) four);
    unnamed = λ n in_use some. subst (Each (λ entry. entry.1 ≢ node)) (same n in_use)
        (all_says (λ entry. not (entry.1 == node)) (λ entry. entry.1 ≢ node) elsewhere
        (entries_of words n)
        (inner n some (all_pass (leads_elsewhere words node) 0 (last + 1) all n (omega arith)
        (omega arith))));
  }
    where
      four : (nat_le node last && level_of words node == level && low_of last words node == key
          && not (key == 0)) ≡ true
      four = search (first_true, arith)

      all : list_all (leads_elsewhere words node) (nodes last) ≡ true
      all = search (second_true, arith)

      three : (nat_le node last && level_of words node == level && low_of last words node == key)
          ≡ true
      three = search (first_true, arith)

      two : (nat_le node last && level_of words node == level) ≡ true
      two = search (first_true, arith)

      used : node ≤ last
      used = at_most_of node last (first_true (nat_le node last) (level_of words node == level) two)

      inner : (n : ℕ) → level_of words n ≢ 0 → leads_elsewhere words node n ≡ true
          → list_all (λ entry. not (entry.1 == node)) (entries_of words n) ≡ true
      inner n some e = cc (isnt_same (level_of words n) 0 some)

  passes : IsHanging size (slice_index words) low level key node
      → hangs_in size words level key node ≡ true
  passes is = both_true (nat_le node last && level_of words node == level
      && low_of last words node == key && not (key == 0))
      (list_all (leads_elsewhere words node) (nodes last))
      (both_true (nat_le node last && level_of words node == level && low_of last words node == key)
      (not (key == 0)) (both_true (nat_le node last && level_of words node == level)
      (low_of last words node == key) (both_true (nat_le node last) (level_of words node == level)
      (is_at_most node last is.in_use) (is_same (level_of words node) level is.level_is))
      (is_same (low_of last words node) key (low_is size words low t node is.in_use ∙ is.low_is)))
      (ap not (isnt_same key 0 is.some)))
      (pass_all (leads_elsewhere words node) 0 (last + 1)
      (λ n from to. by_level n (omega arith) (zero_or (level_of words n))))
    where
      by_level : (n : ℕ) → n ≤ last → (level_of words n ≡ 0) ⊎ (level_of words n ≢ 0)
          → leads_elsewhere words node n ≡ true
      by_level n used (inl leaf) = cc (is_same (level_of words n) 0 leaf)
      by_level n used (inr some) =
          ap (λ b. b || list_all (λ entry. not (entry.1 == node)) (entries_of words n))
          (isnt_same (level_of words n) 0 some) ∙ all_passes (λ entry. not (entry.1 == node))
          (λ entry. entry.1 ≢ node) (λ entry other. ap not (isnt_same entry.1 node other))
          (entries_of words n)
          (subst (Each (λ entry. entry.1 ≢ node)) (sym (same n used)) (is.unnamed n used some))

pub hanging_says : (h : Header) (m : Memory) (low : ℕ → ℕ) (level key node : ℕ) → h.subject ≡ Tree
    → IsTree h.size m low
    → is_hanging h m level key node ≡ true
    → IsHanging h.size m low level key node
hanging_says h m low level key node is t e = hanging_same_words _ (slice_index (words_in h m))
    m _ _ _ _ back there (says h.size (words_in h m) low level key node there e)
  where
    back : SameWords h.size (slice_index (words_in h m)) m
    back cell small = sym (words_same h m is _ small)

    there : IsTree h.size (slice_index (words_in h m)) low
    there = same_words_tree _ m _ _ (words_same h m is) t

pub hanging_passes : (h : Header) (m : Memory) (low : ℕ → ℕ) (level key node : ℕ) → h.subject ≡ Tree
    → IsTree h.size m low
    → IsHanging h.size m low level key node
    → is_hanging h m level key node ≡ true
hanging_passes h m low level key node is t hangs =
    passes h.size (words_in h m) low level key node (same_words_tree _ m _ _ (words_same h m is) t)
    (hanging_same_words _ m _ _ _ _ _ (words_same h m is) t hangs)
