-- The steps of the tree.
use Rattle.vyrd_spec.proofs.Prelude
use Prelude.{◌≡◌, ℕ, ◌+◌, ◌^◌, ◌<◌, ◌≤◌, true, false, not, [], Some, refl, ap, arith, then_some}
use Prelude.{TreeMethod, Args, Amounts, IsAmounts, amount_of, is_present, with_amount, tree}
use Prelude.{IsAmounts-with_amount, no_amounts, AllAmounts, is_touched, CanChange}
use Rattle.vyrd_base.specs.declared.tree.TreeMethod.TheVariants.{Insert, Delete, Lookup}
use Rattle.vyrd_spec.specs.Touching.Tree.{touches}
use Rattle.vyrd_spec.proofs.StepLaws.{StepsWell, Stays, by_replies, where_allowed, other_key}
use Rattle.vyrd_spec.proofs.StepLaws.{or_false, of_first, set_amount, lone, lone_amount}
use Rattle.vyrd_spec.proofs.StepLaws.{lone_formed, lone_present, AllAmounts-with_amount}

-- a step leaves amounts
formed : (method : TreeMethod) (args : Args) (reply : ℕ) (s t : Amounts) → IsAmounts s
    → tree.next method args reply s ≡ Some t → IsAmounts t
formed Insert args reply s t is =
    let set : IsAmounts (with_amount s args.a (2 ^ 32 + args.b)) = IsAmounts-with_amount s _ _ is in
    by_replies IsAmounts reply _ _ _ t is (where_allowed IsAmounts (not _) _ set)
    (where_allowed IsAmounts (is_present s _) _ set)
formed Delete args reply s t is = by_replies IsAmounts reply _ _ _ t
    (where_allowed IsAmounts (not _) s is)
    (where_allowed IsAmounts (is_present s _) (with_amount s _ 0) (IsAmounts-with_amount s _ 0 is))
    tt
formed Lookup args reply s t is = λ e. cc

-- and the keys that it doesn't touch
untouched : (method : TreeMethod) (args : Args) (reply key : ℕ) (s t : Amounts)
    → tree.next method args reply s ≡ Some t → is_touched (touches method args) key ≡ false
    → amount_of t key ≡ amount_of s key
untouched Insert args reply q s t e none =
    grind (arith, other_key, or_false, by_replies, where_allowed)
untouched Delete args reply q s t e none = by_replies (Stays s q) reply _ _ _ t
    (where_allowed (Stays s q) (not _) s refl)
    (where_allowed (Stays s q) (is_present s _) (with_amount s _ 0)
    (other_key s _ 0 q (or_false _ none))) tt e
untouched Lookup args reply q s t e none = cc

-- an answer is by the amount of its key
answers : (s t : Amounts) (method : TreeMethod) (args : Args) → amount_of t args.a
    ≡ amount_of s args.a
    → tree.answer t method args ≡ tree.answer s method args
answers s t method args same = grind arith

-- each key that a call touches is changed by a step with that call
changes : (method : TreeMethod) (args : Args) (key : ℕ) → is_touched (touches method args) key
    ≡ true
    → CanChange (tree.next method args) key
changes Insert args key e = record {
  reply = 1;
  before = [];
  after = with_amount [] args.a (2 ^ 32 + args.b);
  formed = no_amounts;
  allowed = refl;
  changed = λ same. absurd (let set = set_amount [] args.a (2 ^ 32 + args.b) key (of_first _ e) in
      omega (arith, set, same));
}
changes Delete args key e = record {
  reply = 1;
  before = lone args.a;
  after = with_amount (lone args.a) args.a 0;
  formed = lone_formed args.a;
  allowed = ap (λ b. then_some b (with_amount (lone args.a) args.a 0)) (lone_present args.a);
  changed = λ same. absurd
      (omega (
        arith,
        set_amount (lone args.a) args.a 0 key (of_first _ e),
        lone_amount args.a key
            (of_first _ e),
        same,
      ));
}
changes Lookup args key e = cc

pub tree_steps : StepsWell tree touches
tree_steps = record { formed = formed; untouched = untouched; answers = answers; changes = changes }

-- keys, and values with 2^32 added
abbrev pub AreValues : Amounts → Type 0
AreValues s = AllAmounts (λ key amount. (key < 2 ^ 32) × (2 ^ 32 ≤ amount) × (amount < 2 ^ 64)) s

-- a step of the tree keeps the values in range
pub values_after : (method : TreeMethod) (args : Args) (reply : ℕ) (s t : Amounts)
    → args.a < 2 ^ 32 → args.b < 2 ^ 32 → AreValues s → tree.next method args reply s ≡ Some t
    → AreValues t
values_after Insert args reply s t low low_b all =
    let set : AreValues (with_amount s args.a (2 ^ 32 + args.b)) = AllAmounts-with_amount
    (λ key amount. (key < 2 ^ 32) × (2 ^ 32 ≤ amount) × (amount < 2 ^ 64)) s _ _ all
    (λ some. (low, omega arith, omega arith)) in
    by_replies AreValues reply _ _ _ t all (where_allowed AreValues (not _) _ set)
    (where_allowed AreValues (is_present s _) _ set)
values_after Delete args reply s t low low_b all =
    let gone : AreValues (with_amount s args.a 0) = AllAmounts-with_amount
    (λ key amount. (key < 2 ^ 32) × (2 ^ 32 ≤ amount) × (amount < 2 ^ 64)) s _ 0 all
    (λ some. absurd (some refl)) in
    by_replies AreValues reply _ _ _ t (where_allowed AreValues (not _) s all)
    (where_allowed AreValues (is_present s _) _ gone) tt
values_after Lookup args reply s t low low_b all = λ e. cc
