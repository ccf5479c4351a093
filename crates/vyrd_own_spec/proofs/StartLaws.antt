-- Sums of what places give, one place after the other.
use Rattle.vyrd_own_spec.proofs.Prelude
use Prelude.{◌≡◌, ℕ, zero, suc, ◌+◌, ◌*◌, ◌/◌, ◌<◌, ◌≤◌, Bool, true, false, cond, List, [], ◌∷◌}
use Prelude.{map, length, Some, refl, ap, ◌∙◌, sym, subst, arith, nat_cmp, Less, Equal, Greater}
use Prelude.{by_order, second_true, Amounts, amount_of, with_amount, same_amounts, Written, pair_at}
use Prelude.{State, own_view, is_whole, IsSmall, width_of, own_gives, AreFew, are_low, HasSums}
use Rattle.std.proofs.Common.{◌-◌, ◌^◌}
use Rattle.std.specs.Prelude.{nat_lt, slice_range, filter, unwrap_or}
use Rattle.std.specs.Ordering.{eq_by_cmp}
use Rattle.std.specs.FinMap.Entries.{find, put}
use Rattle.vyrd_base.proofs.TestLaws.{both_true, first_true, is_below, below_of, same_of}
use Rattle.vyrd_base.specs.Amounts.{plus_amount, given, part_given, collected}
use Rattle.vyrd_base.specs.Places.{numbers_below}
use Rattle.vyrd_base.proofs.AmountLaws.{IsAmounts-with_amount}
use Rattle.vyrd_base.proofs.SumLaws.{amount_of-plus, amount_of-collected, IsAmounts-collected}
use Rattle.vyrd_base.proofs.SumLaws.{own_part}
use Rattle.vyrd_view.specs.Laws.Sums.{given_map_push}
use Rattle.vyrd_base.specs.Own.Steps.{start_of}
use Rattle.vyrd_own_spec.specs.Parts.{IsWhole}
use Rattle.vyrd_own_spec.specs.Laws.Parts.{own_shown}

-- amounts that are low stay so with one that is
low_filter : (p : ℕ × ℕ → Bool) (s : Amounts) → are_low s ≡ true → are_low (filter p s) ≡ true
low_filter p [] low = refl
low_filter p (e ∷ s) low = by_test (p e) (low_filter p s (second_true (nat_lt _ _) _ low))
  where
    by_test : (b : Bool) → are_low (filter p s) ≡ true
        → are_low (cond b (e ∷ filter p s) (filter p s)) ≡ true
    by_test true rest = search (both_true, first_true, arith)
    by_test false rest = rest

low_put : (k a : ℕ) (s : Amounts) → nat_lt a (2 ^ 64) ≡ true → are_low s ≡ true
    → are_low (put nat_cmp k a s) ≡ true
low_put k a [] small low = both_true (nat_lt a (2 ^ 64)) true small refl
low_put k a (e ∷ s) small low =
    let first = first_true (nat_lt e.1 (2 ^ 64)) (are_low s) low in
    let rest = second_true (nat_lt e.1 (2 ^ 64)) (are_low s) low in
    elim (nat_cmp k e.0) as (λ o. are_low
    (by_order o ((k, a) ∷ e ∷ s) ((e.0, a) ∷ s) (e ∷ put nat_cmp k a s)) ≡ true) [
      | Less ↦ both_true (nat_lt a (2 ^ 64)) _ small low
      | Equal ↦ both_true (nat_lt a (2 ^ 64)) _ small rest
      | Greater ↦ both_true (nat_lt e.1 (2 ^ 64)) _ first (low_put k a s small rest)
    ]

low_with : (s : Amounts) (k a : ℕ) → nat_lt a (2 ^ 64) ≡ true → are_low s ≡ true
    → are_low (with_amount s k a) ≡ true
low_with s k a small low = grind (arith, small, low_filter, low_put)

-- where all are low, each is
low_found : (s : Amounts) (q : ℕ) → are_low s ≡ true → amount_of s q < 2 ^ 64
low_found [] q low = omega arith
low_found (e ∷ s) q low = by_test (eq_by_cmp nat_cmp q e.0)
    (low_found s q (second_true (nat_lt e.1 (2 ^ 64)) (are_low s) low))
  where
    by_test : (b : Bool) → amount_of s q < 2 ^ 64 → unwrap_or (cond b (Some e.1) (find nat_cmp q s))
        0 < 2 ^ 64
    by_test true rest = below_of e.1 (2 ^ 64) (first_true (nat_lt e.1 (2 ^ 64)) (are_low s) low)
    by_test false rest = rest

pub not_low : (s : Amounts) → ((q : ℕ) × (2 ^ 64 ≤ amount_of s q)) → are_low s ≡ false
not_low s e1 = grind (arith, low_found)

-- one place more
pub sums_more : (sums after : Amounts) (f : ℕ → ℕ × ℕ) (m : ℕ) (pair : ℕ × ℕ) → HasSums sums f m
    → pair ≡ f m
    → after ≡ plus_amount sums pair.0 pair.1 → amount_of sums pair.0 + pair.1 < 2 ^ 64
    → HasSums after f (m + 1)
sums_more sums after f m pair has is then small =
    rw then (record {
      formed = IsAmounts-with_amount sums pair.0 (amount_of sums pair.0 + pair.1) has.formed;
      low = low_with sums pair.0 (amount_of sums pair.0 + pair.1)
          (is_below _ _ small) has.low;
      each = λ q. cc (amount_of-plus sums pair.0 pair.1 q, has.each q, given_map_push q f m);
    })

-- more places give no less
rises : (q : ℕ) (f : ℕ → ℕ × ℕ) (m k : ℕ) → given q (map f (numbers_below m))
    ≤ given q (map f (numbers_below (m + k)))
rises q f m zero = grind arith
rises q f m (suc k) = grind (arith, rises q f m k, given_map_push q f (m + k))

-- a sum that is too large stays so
pub beyond_all : (sums : Amounts) (f : ℕ → ℕ × ℕ) (m n : ℕ) (pair : ℕ × ℕ) → HasSums sums f m
    → pair ≡ f m → m < n
    → 2 ^ 64 ≤ amount_of sums pair.0 + pair.1 → (q : ℕ)
    × (2 ^ 64 ≤ given q (map f (numbers_below n)))
beyond_all sums f m n pair has is low much = (pair.0, at_end)
  where
    own_more : part_given pair.0 (f m) ≡ pair.1
    own_more = ap (part_given _) (sym is) ∙ own_part pair.0 _

    rest : ℕ
    rest = n - (m + 1)

    all : m + 1 + rest ≡ n
    all = omega arith

    here : 2 ^ 64 ≤ given pair.0 (map f (numbers_below (m + 1)))
    here = omega (arith, much, has.each pair.0, given_map_push pair.0 f m, own_more)

    at_end : 2 ^ 64 ≤ given pair.0 (map f (numbers_below n))
    at_end = rw (← all) (omega (arith, here, rises pair.0 f (m + 1) rest))

-- the sums of all places are what is collected
pub all_summed : (sums : Amounts) (f : ℕ → ℕ × ℕ) (m : ℕ) → HasSums sums f m
    → sums ≡ collected (map f (numbers_below m))
all_summed sums f m has = same_amounts _ _ has.formed (IsAmounts-collected (map f _))
    (λ q. has.each q ∙ sym (amount_of-collected _ q))

-- a pair as it was decoded
pub decoded : (w : Written) (width places part j a b : ℕ) (words : List ℕ) (pair : ℕ × ℕ)
    → a ≡ width → b ≡ width → j < places
    → pair ≡ own_gives w part (slice_range words (part * a) (part * a + b)) j
    → pair ≡ pair_at width places (own_gives w) words (part * places + j)
decoded w width places part j a b words pair ea eb low is = grind arith

-- the sums of all places are what the words show
pub shown_summed : (w : Written) (width places parts : ℕ) (words : List ℕ) (sums : Amounts)
    → width ≡ width_of w
    → AreFew w width places parts → length words ≡ parts * width
    → HasSums sums (pair_at width places (own_gives w) words) (parts * places)
    → sums ≡ own_view w words
shown_summed w width places parts words sums wide few count has = all_summed _
    (pair_at width places (own_gives w) words) (parts * places) has ∙ own_shown w _ wide few count

pub shown_beyond : (w : Written) (width places parts : ℕ) (words : List ℕ) → width ≡ width_of w
    → AreFew w width places parts → length words ≡ parts * width
    → ((q : ℕ) × (2 ^ 64
    ≤ given q (map (pair_at width places (own_gives w) words) (numbers_below (parts * places)))))
    → (q : ℕ) × (2 ^ 64 ≤ amount_of (own_view w words) q)
shown_beyond w width places parts words wide few count (q, much) =
    let pairs = map (pair_at width places (own_gives w) words) (numbers_below (parts * places)) in (
      q,
      subst (λ n. 2 ^ 64 ≤ n)
          (cc (amount_of-collected pairs q, own_shown w words wide few count)) much,
    )

-- how many words there are, if they are a whole number of parts
pub count_is : (size n width parts : ℕ) (w own : Written) → n ≡ size → IsWhole size w → own ≡ w
    → width ≡ width_of own
    → parts ≡ size / width → n ≡ parts * width
count_is size n width parts w own all whole same wide many = grind (arith, parts, whole)

-- words that are a whole number of parts
pub whole_is : (w : Written) (n : ℕ) → is_whole w n ≡ true → IsWhole n w
whole_is w n e = grind (arith, same_of)

-- the registers at the start
pub start_registers : (w : Written) → (start_of w).registers ≡ w.registers
unfolding start_of
start_registers w = refl

pub few_registers : (w : Written) (n s : State) (shown : Amounts) → IsSmall w → n ≡ start_of w
    → s ≡ record n { shown = shown }
    → length s.registers ≤ 16
few_registers w n s shown small is then = grind (arith, shown, small, start_registers)
