-- The steps of the multiset.
use Rattle.vyrd_spec.proofs.Prelude
use Prelude.{◌≡◌, ℕ, ◌+◌, ◌-◌, ◌^◌, ◌<◌, ◌≤◌, true, false, not, ◌||◌, [], Some, refl, ap, arith}
use Prelude.{◌==◌, ◌≢◌, then_some, MultisetMethod, Args, Amounts, IsAmounts, amount_of, is_present}
use Prelude.{with_amount, plus_amount, multiset, IsAmounts-with_amount, no_amounts, amount_of-plus}
use Prelude.{same_of, apart_of, neither_true, same_number, AllAmounts, is_touched, CanChange}
use Rattle.vyrd_base.specs.declared.multiset.MultisetMethod.TheVariants.{Insert, InsertPair, Delete}
use Rattle.vyrd_base.specs.declared.multiset.MultisetMethod.TheVariants.{Lookup}
use Rattle.vyrd_spec.specs.Touching.Multiset.{touches}
use Rattle.vyrd_spec.proofs.StepLaws.{StepsWell, by_replies, where_allowed, other_key, or_false}
use Rattle.vyrd_spec.proofs.StepLaws.{of_first, set_amount, lone, lone_amount, lone_formed}
use Rattle.vyrd_spec.proofs.StepLaws.{lone_present, AllAmounts-with_amount}

-- a step leaves amounts
formed : (method : MultisetMethod) (args : Args) (reply : ℕ) (s t : Amounts) → IsAmounts s
    → multiset.next method args reply s ≡ Some t → IsAmounts t
formed Insert args reply s t is = by_replies IsAmounts reply _ _ _ t is
    (IsAmounts-with_amount s _ _ is) tt
formed InsertPair args reply s t is =
    let one = IsAmounts-with_amount s args.a (amount_of s args.a + 1) is in
    let first : Amounts = plus_amount s args.a 1 in
    by_replies IsAmounts reply _ _ _ t is
    (IsAmounts-with_amount first args.b (amount_of first args.b + 1) one) tt
formed Delete args reply s t is =
    let less : Amounts = with_amount s args.a (amount_of s args.a - 1) in
    by_replies IsAmounts reply _ _ _ t (where_allowed IsAmounts (not _) s is)
    (where_allowed IsAmounts (is_present s _) less (IsAmounts-with_amount s _ _ is)) tt
formed Lookup args reply s t is = λ e. cc

-- and the keys that it doesn't touch
untouched : (method : MultisetMethod) (args : Args) (reply key : ℕ) (s t : Amounts)
    → multiset.next method args reply s ≡ Some t → is_touched (touches method args) key ≡ false
    → amount_of t key ≡ amount_of s key
untouched method args reply key s t e none = search
    (by_replies, other_key, or_false, neither_true, where_allowed, arith)

-- an answer is by the amount of its key
answers : (s t : Amounts) (method : MultisetMethod) (args : Args) → amount_of t args.a
    ≡ amount_of s args.a
    → multiset.answer t method args ≡ multiset.answer s method args
answers s t method args same = grind arith

-- both of a pair get one more
pair_amount : (a b q : ℕ) → (a == q || (b == q || false)) ≡ true
    → amount_of (plus_amount (plus_amount [] a 1) b 1) q ≢ 0
pair_amount a b q e = search (same_of, same_number, amount_of-plus, arith)

-- each key that a call touches is changed by a step with that call
changes : (method : MultisetMethod) (args : Args) (key : ℕ) → is_touched (touches method args) key
    ≡ true
    → CanChange (multiset.next method args) key
changes Insert args key e = record {
  reply = 1;
  before = [];
  after = plus_amount [] args.a 1;
  formed = no_amounts;
  allowed = refl;
  changed = λ same. absurd (let one = set_amount [] args.a (amount_of [] args.a + 1) key
      (of_first _ e) in omega (arith, one, same));
}
changes InsertPair args key e = record {
  reply = 1;
  before = [];
  after = plus_amount (plus_amount [] args.a 1) args.b 1;
  formed = no_amounts;
  allowed = refl;
  changed = pair_amount args.a args.b key e;
}
changes Delete args key e = record {
  reply = 1;
  before = lone args.a;
  after = with_amount (lone args.a) args.a (amount_of (lone args.a) args.a - 1);
  formed = lone_formed args.a;
  allowed = ap
      (λ b. then_some b (with_amount (lone args.a) args.a (amount_of (lone args.a) args.a - 1)))
      (lone_present args.a);
  changed = λ same. absurd (omega (
    arith,
    set_amount (lone args.a) args.a (amount_of (lone args.a) args.a - 1) key (of_first _ e),
    lone_amount args.a key (of_first _ e),
    lone_amount args.a args.a (same_number args.a),
    same,
  ));
}
changes Lookup args key e = cc

pub multiset_steps : StepsWell multiset touches
multiset_steps = search (formed, untouched, answers, changes, arith)

-- values below 2^63, each at most this often
abbrev pub AreCounts : ℕ → Amounts → Type 0
AreCounts most s = AllAmounts (λ value count. (value < 2 ^ 63) × (count ≤ most)) s

pub count_at_most : (most : ℕ) (s : Amounts) (q : ℕ) → AreCounts most s → amount_of s q ≤ most
count_at_most most s q all = grind (arith, same_of, apart_of)

pub weaker_counts : (m n : ℕ) (s : Amounts) → m ≤ n → AreCounts m s → AreCounts n s
weaker_counts m n s le all = λ q some. let here = all q some in (here.0, omega (arith, here.1))

one_more : (most : ℕ) (s : Amounts) (k : ℕ) → k < 2 ^ 32 → AreCounts most s
    → AreCounts (most + 1) (plus_amount s k 1)
one_more most s k low all =
    let at = count_at_most most s k all in
    AllAmounts-with_amount (λ value count. (value < 2 ^ 63) × (count ≤ most + 1)) s k _
    (weaker_counts most _ s (omega arith) all) (λ some. (omega (arith, low), omega (arith, at)))

one_less : (most : ℕ) (s : Amounts) (k : ℕ) → AreCounts most s
    → AreCounts most (with_amount s k (amount_of s k - 1))
one_less most s k all =
    let at = count_at_most most s k all in
    AllAmounts-with_amount (λ value count. (value < 2 ^ 63) × (count ≤ most)) s k _ all
    (λ some. let there : amount_of s k ≢ 0 = omega (arith, some) in
    ((all k there).0, omega (arith, at)))

-- a step of the multiset adds two at most to each count
pub counts_after : (most : ℕ) (method : MultisetMethod) (args : Args) (reply : ℕ) (s t : Amounts)
    → args.a < 2 ^ 32 → args.b < 2 ^ 32 → AreCounts most s → multiset.next method args reply s
    ≡ Some t → AreCounts (most + 2) t
counts_after most Insert args reply s t low low_b all =
    let kept = weaker_counts most (most + 2) s (omega arith) all in
    let more = weaker_counts (most + 1) (most + 2) (plus_amount s _ 1) (omega arith)
    (one_more _ s _ low all) in
    by_replies (AreCounts _) reply _ _ _ t kept more tt
counts_after most InsertPair args reply s t low low_b all =
    let kept = weaker_counts most (most + 2) s (omega arith) all in
    let more = one_more (most + 1) (plus_amount s args.a 1) args.b low_b (one_more _ s _ low all) in
    let both = weaker_counts (most + 1 + 1) (most + 2) (plus_amount (plus_amount s _ 1) args.b 1)
    (omega arith) more in
    by_replies (AreCounts _) reply _ _ _ t kept both tt
counts_after most Delete args reply s t low low_b all =
    let Q : Amounts → Type 0 = AreCounts _ in
    let kept = weaker_counts most (most + 2) s (omega arith) all in
    let less = one_less (most + 2) s args.a kept in
    by_replies Q reply _ _ _ t (where_allowed Q _ s kept) (where_allowed Q _ _ less) tt
counts_after most Lookup args reply s t low low_b all = λ e. cc
