-- The steps of the cache.
use Rattle.vyrd_spec.proofs.Prelude.{◌≡◌, ℕ, ◌+◌, ◌*◌, ◌^◌, ◌<◌, true, false, [], Some, refl, arith}
use Rattle.vyrd_spec.proofs.Prelude.{Args, Amounts, IsAmounts, amount_of, with_amount}
use Rattle.vyrd_spec.proofs.Prelude.{IsAmounts-with_amount, no_amounts, AllAmounts, is_touched}
use Rattle.vyrd_spec.proofs.Prelude.{CanChange}
use Rattle.vyrd_base.specs.declared.cache.CacheMethod.{CacheMethod}
use Rattle.vyrd_base.specs.declared.cache.CacheMethod.TheVariants.{Write, Flush, Evict, Read}
use Rattle.vyrd_base.specs.Cache.{cache}
use Rattle.vyrd_spec.specs.Touching.Cache.{touches}
use Rattle.vyrd_spec.proofs.StepLaws.{StepsWell, by_replies, other_key, or_false, of_first}
use Rattle.vyrd_spec.proofs.StepLaws.{set_amount, AllAmounts-with_amount}

-- a step leaves amounts
formed : (method : CacheMethod) (args : Args) (reply : ℕ) (s t : Amounts) → IsAmounts s
    → cache.next method args reply s ≡ Some t → IsAmounts t
formed Write args reply s t is = by_replies IsAmounts reply _ _ _ t tt
    (IsAmounts-with_amount s args.a (args.c * 2 ^ 32 + args.b) is) tt
formed Flush args reply s t is = by_replies IsAmounts reply _ _ _ t tt is tt
formed Evict args reply s t is = by_replies IsAmounts reply _ _ _ t tt is tt
formed Read args reply s t is = λ e. cc

-- and the keys that it doesn't touch
untouched : (method : CacheMethod) (args : Args) (reply key : ℕ) (s t : Amounts)
    → cache.next method args reply s ≡ Some t → is_touched (touches method args) key ≡ false
    → amount_of t key ≡ amount_of s key
untouched method args reply key s t e none = grind (arith, by_replies, other_key, or_false)

-- an answer is by the amount of its key
answers : (s t : Amounts) (method : CacheMethod) (args : Args) → amount_of t args.a
    ≡ amount_of s args.a
    → cache.answer t method args ≡ cache.answer s method args
answers s t method args same = grind arith

-- each key that a call touches is changed by a step with that call
changes : (method : CacheMethod) (args : Args) (key : ℕ) → is_touched (touches method args) key
    ≡ true
    → CanChange (cache.next method args) key
changes Write args key e = record {
  reply = 1;
  before = with_amount [] args.a (args.c * 2 ^ 32 + args.b + 1);
  after = with_amount (with_amount [] args.a (args.c * 2 ^ 32 + args.b + 1)) args.a
      (args.c * 2 ^ 32 + args.b);
  formed = IsAmounts-with_amount [] args.a (args.c * 2 ^ 32 + args.b + 1) no_amounts;
  allowed = refl;
  changed = λ same. absurd (omega (
    arith,
    set_amount (with_amount [] args.a (args.c * 2 ^ 32 + args.b + 1)) args.a
        (args.c * 2 ^ 32 + args.b) key (of_first _ e),
    set_amount [] args.a (args.c * 2 ^ 32 + args.b + 1) key (of_first _ e),
    same,
  ));
}
changes Flush args key e = cc
changes Evict args key e = cc
changes Read args key e = cc

pub cache_steps : StepsWell cache touches
cache_steps = search (formed, untouched, answers, changes, arith)

-- chunks and pairs
abbrev pub ArePairs : Amounts → Type 0
ArePairs s = AllAmounts (λ chunk pair. (chunk < 2 ^ 32) × (pair < 2 ^ 64)) s

-- a step of the cache keeps the pairs in range
pub pairs_after : (method : CacheMethod) (args : Args) (reply : ℕ) (s t : Amounts)
    → args.a < 2 ^ 32 → args.b < 2 ^ 32 → args.c < 2 ^ 32 → ArePairs s
    → cache.next method args reply s ≡ Some t → ArePairs t
pairs_after Write args reply s t low low_b low_c all = by_replies ArePairs reply _ _ _ t tt
    (AllAmounts-with_amount (λ chunk pair. (chunk < 2 ^ 32) × (pair < 2 ^ 64)) s _ _ all
    (λ some. (low, omega arith))) tt
pairs_after Flush args reply s t low low_b low_c all = by_replies ArePairs reply _ _ _ t tt all tt
pairs_after Evict args reply s t low low_b low_c all = by_replies ArePairs reply _ _ _ t tt all tt
pairs_after Read args reply s t low low_b low_c all = λ e. cc
