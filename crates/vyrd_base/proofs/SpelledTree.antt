-- The tree is spelled on lines, and its words are few.
use Rattle.vyrd_base.proofs.Prelude.{◌≡◌, ℕ, ◌≤◌, true, not, length, Some, refl, arith, find}
use Rattle.vyrd_base.proofs.Prelude.{slice_get, bytes_eq, longest_method, tree, never_commits}
use Rattle.vyrd_base.proofs.Prelude.{always_commits, is_plain_field}
use Rattle.vyrd_base.specs.declared.tree.TreeMethod.{TreeMethod}
use Rattle.vyrd_base.specs.declared.tree.TreeMethod.TheVariants.{Insert, Delete, Lookup}
use Rattle.vyrd_base.proofs.Spelled.{IsSpelled}

plain : (m : TreeMethod) → is_plain_field (tree.called m) ≡ true
plain m = grind arith

short : (m : TreeMethod) → length (tree.called m) ≤ longest_method
short m = grind arith

found : (m : TreeMethod) → find (λ x. bytes_eq (tree.called x) (tree.called m)) tree.methods
    ≡ Some m
found m = grind arith

abbrev place : TreeMethod → ℕ
place Insert = 0
place Delete = 1
place Lookup = 2

listed : (m : TreeMethod) → slice_get tree.methods (place m) ≡ Some m
listed m = grind arith

some_arguments : (m : TreeMethod) → 1 ≤ tree.arity m
some_arguments m = grind arith

few_arguments : (m : TreeMethod) → tree.arity m ≤ 3
few_arguments m = grind arith

once_or_never : (m : TreeMethod) → always_commits (tree.commits m)
    ≡ not (never_commits (tree.commits m))
once_or_never m = grind arith

pub tree_is : IsSpelled tree
tree_is = record {
  plain = plain;
  short = short;
  found = found;
  place = place;
  listed = listed;
  some_arguments = some_arguments;
  few_arguments = few_arguments;
  once_or_never = once_or_never;
  plain_name = refl;
  short_name = omega arith;
  few_words = λ size low. omega (arith, low);
}
