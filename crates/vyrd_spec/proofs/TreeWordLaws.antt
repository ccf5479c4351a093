-- What it says of words that they are a tree's, and what of each of its nodes.
use Rattle.vyrd_spec.proofs.Prelude
use Prelude.{◌≡◌, ◌≢◌, ℕ, ◌+◌, ◌<◌, ◌≤◌, Bool, true, false, not, ◌&&◌, ◌||◌, List, Some, refl, ap}
use Prelude.{◌∙◌, sym, arith, ◌==◌, nat_lt, nat_le, count_by, list_all, level_of, bound_of}
use Prelude.{right_of, entries_of, root_of, last_of, nodes, leads_to, left_of, low_of, is_linked}
use Prelude.{has_sound_keys, is_leaf_entry, first_true, second_true, at_most_of, below_of, is_below}
use Prelude.{is_at_most, is_same, isnt_same, same_of, have_one_left, is_sound_below}
use Rattle.std.specs.Option.{option_map_or}
use Rattle.vyrd_base.specs.Tree.{is_first, is_bounded, begins_with, has_sound_entries}
use Rattle.vyrd_base.specs.Tree.{is_only_first, is_sound_node, is_tree}
use Rattle.vyrd_spec.proofs.RowLaws.{all_pass, each_passes, only_found}

-- the five rules of a node
pub record IsSoundNode (last : ℕ) (words : List ℕ) (n : ℕ) : Type 0 where
  pub linked : is_linked last words n ≡ true
  pub bounded : is_bounded last words n ≡ true
  pub keys : has_sound_keys last words n ≡ true
  pub entries : has_sound_entries last words n ≡ true
  pub only : is_only_first last words n ≡ true

five : (a b c d e : Bool) → (a && b && c && d && e) ≡ true → (a ≡ true) × (b ≡ true) × (c ≡ true)
    × (d ≡ true) × (e ≡ true)
five a b c d e x = grind arith

sound_node : (last : ℕ) (words : List ℕ) (n : ℕ) → is_sound_node last words n ≡ true
    → IsSoundNode last words n
sound_node last words n sound = grind (arith, five)

-- what is left to test of a tree, once its numbers of nodes are in range
abbrev pub are_nodes : ℕ → List ℕ → ℕ → Bool
are_nodes last words root = level_of words 0 == 0 && is_first last words root
    && list_all (is_sound_below last words (level_of words root)) (nodes last)

pub tree_is : (size : ℕ) (words : List ℕ) → last_of size words < size → root_of size words
    ≤ last_of size words
    → is_tree size words ≡ are_nodes (last_of size words) words (root_of size words)
tree_is size words low within = grind (arith, within, is_below, is_at_most, last_of)

-- each node of sound nodes
each_sound : (last : ℕ) (words : List ℕ) (highest n : ℕ)
    → list_all (is_sound_below last words highest) (nodes last) ≡ true → n ≤ last
    → IsSoundNode last words n
each_sound last words highest n all low = sound_node _ _ n
    (second_true (nat_le (level_of words n) highest) _
    (each_passes (is_sound_below last words highest) (last + 1) n all (omega (arith, low))))

one_link : (last : ℕ) (words : List ℕ) (n : ℕ) → IsSoundNode last words n
    → nat_le (count_by (leads_to words n) (nodes last)) 1 ≡ true
one_link last words n node = search (first_true, arith)

-- two links that lead to one node aren't a tree's
pub two_links : (size : ℕ) (words : List ℕ) → last_of size words < size → root_of size words
    ≤ last_of size words
    → have_one_left (last_of size words) words ≡ false → false ≡ is_tree size words
two_links size words low within twice = sym (tree_is size words low within ∙ by_all all refl)
  where
    last : ℕ
    last = last_of size words

    all : Bool
    all = list_all (is_sound_below last words (level_of words (root_of size words))) (nodes last)

    by_all : (b : Bool) → all ≡ b
        → (level_of words 0 == 0 && is_first last words (root_of size words) && all) ≡ false
    by_all true e =
        let one : have_one_left last words ≡ true = all_pass _ (last + 1)
        (λ q below. one_link last _ q
        (each_sound last words (level_of words (root_of size words)) q e (omega (arith, below)))) in
        let no : false ≡ true = sym twice ∙ one in cc
    by_all false e = search arith

-- a tree in words
pub record IsTreeOf (size : ℕ) (words : List ℕ) : Type 0 where
  pub last_low : last_of size words < size
  pub zero_leaf : level_of words 0 ≡ 0
  pub sound : (n : ℕ) → n ≤ last_of size words → IsSoundNode (last_of size words) words n

pub tree_of : (size : ℕ) (words : List ℕ) → is_tree size words ≡ true → IsTreeOf size words
tree_of size words tree = record {
  last_low = below_of last size all.0;
  zero_leaf = same_of (level_of words 0) 0 all.2;
  sound = λ n low. each_sound last words (level_of words (root_of size words)) n all.4 low;
}
  where
    last : ℕ
    last = last_of size words

    all : (nat_lt last size ≡ true) × (nat_le (root_of size words) last ≡ true)
        × ((level_of words 0 == 0) ≡ true)
        × (is_first last words (root_of size words) ≡ true)
        × (list_all (is_sound_below last words (level_of words (root_of size words))) (nodes last)
        ≡ true)
    all = search (five, arith)

-- a right link leads to a node in use of the same level, which begins where this one ends, above
-- this one's low
pub record LeadsOn (last : ℕ) (words : List ℕ) (n : ℕ) : Type 0 where
  pub in_use : right_of words n ≤ last
  pub same_level : level_of words (right_of words n) ≡ level_of words n
  pub begins : low_of last words (right_of words n) ≡ bound_of words n
  pub above : low_of last words n < bound_of words n

or_second : (a b : Bool) → (a || b) ≡ true → a ≡ false → b ≡ true
or_second a b e f = search arith

pub leads_on : (size : ℕ) (words : List ℕ) (n : ℕ) → IsTreeOf size words → n ≤ last_of size words
    → right_of words n ≢ 0
    → LeadsOn (last_of size words) words n
leads_on size words n tree low on = record {
  in_use = in_use;
  same_level = same_of (level_of words right) (level_of words n)
      (second_true (nat_le right last) (level_of words right == level_of words n) linked);
  begins = ap (λ o. option_map_or (bound_of words) o 0) left;
  above = below_of (low_of last words n) (bound_of words n)
      (second_true (not (right == 0)) (nat_lt (low_of last words n) (bound_of words n)) bounded);
}
  where
    last : ℕ
    last = last_of size words

    right : ℕ
    right = right_of words n

    away : (right == 0) ≡ false
    away = isnt_same right 0 on

    linked : (nat_le right last && level_of words right == level_of words n) ≡ true
    linked = search (or_second, second_true, arith)

    in_use : right ≤ last
    in_use = search (at_most_of, first_true, arith)

    bounded : (not (right == 0) && nat_lt (low_of last words n) (bound_of words n)) ≡ true
    bounded = search (or_second, arith)

    left : left_of last words right ≡ Some n
    left = only_found (leads_to words right) (last + 1) n
        (at_most_of (count_by (leads_to words right) (nodes last)) 1
        (one_link last words right (tree.sound right in_use)))
        (omega (arith, low)) (ap (λ b. b && not (right == 0)) (is_same right right refl)
        ∙ ap not away)

-- the entries of a leaf
pub leaf_entries : (size : ℕ) (words : List ℕ) (n : ℕ) → IsTreeOf size words
    → n ≤ last_of size words → level_of words n ≡ 0
    → list_all is_leaf_entry (entries_of words n) ≡ true
leaf_entries size words n tree low leaf = grind (arith, second_true, last_of, begins_with)
