-- What a piece costs is paid by what was owed before it, and by what its bytes cost.
use Rattle.vyrd_log_check.proofs.Prelude
use Prelude.{◌≡◌, ℕ, ◌+◌, ◌-◌, ◌≤◌, true, false, List, [], ◌++◌, take, drop, Option, Some, None}
use Prelude.{Result, refl, ap, ◌∙◌, arith, OnOk, reading, own_beginning, is_own_text, lacks}
use Prelude.{split_whole, OwnChecker, checker_in, Matches, matched_with, LogCheckerState}
use Prelude.{HasChecked, IsSound, bytes_cost, finish_cost, checker_debt, debt_by}
use Rattle.vyrd_check.specs.Checking as first_checking
use Rattle.vyrd_check.specs.Costs as first_costs
use Rattle.vyrd_check.specs.Owed as first_owed
use Rattle.vyrd_check.proofs.CostLaws.{unread}
use Rattle.vyrd_own_check.specs.Checking as own_checking
use Rattle.vyrd_own_check.specs.Costs as own_costs
use Rattle.vyrd_own_check.specs.Owed as own_owed
use Rattle.vyrd_log_check.proofs.BeginningLaws.{begins_longer, matches_isnt}
use Rattle.vyrd_log_check.proofs.CheckedLaws.{by_own, by_first, limit, matched_is, begins_all}
use Rattle.vyrd_log_check.proofs.LogLasts.{lacks_take}

-- by whether the bytes begin as a log with a specification in front does
own_cost : (max : ℕ) (bytes : List ℕ) → is_own_text bytes ≡ true
    → bytes_cost max bytes ≡ own_costs.bytes_cost max bytes
own_cost max bytes is = cc

first_cost : (max : ℕ) (bytes : List ℕ) → is_own_text bytes ≡ false
    → bytes_cost max bytes ≡ first_costs.bytes_cost max bytes
first_cost max bytes is = cc

-- bytes without a line feed cost nothing, since they have no header
line_free : (max : ℕ) (bytes : List ℕ) → lacks 10 bytes ≡ true
    → first_costs.bytes_cost max bytes ≡ 0
unfolding reading
line_free max bytes one = cc (split_whole 10 bytes one)

-- so a part of the beginning costs nothing
beginning_free : (max n : ℕ) (bytes : List ℕ) → Matches (Some n) bytes → bytes_cost max bytes ≡ 0
beginning_free max n bytes m =
    first_cost max bytes (matches_isnt (Some n) bytes m)
    ∙ ap (first_costs.bytes_cost max) m.1
    ∙ line_free max (take n own_beginning) (lacks_take 10 n own_beginning refl)

-- nothing was read of no bytes
pub nothing_read : (max : ℕ) → bytes_cost max [] ≡ 0
nothing_read max = first_cost max [] refl ∙ unread max

same_paid : (n after was m before now : ℕ) (was' now' : ℕ) → was' ≡ was → now' ≡ now
    → n + after + was ≤ m + before + now → n + after + was' ≤ m + before + now'
same_paid n after was m before now was' now' e f paid = omega (arith, e, f, paid)

same_ended : (n m cost cost' : ℕ) → cost' ≡ cost → n ≤ m + cost → n ≤ m + cost'
same_ended n m cost cost' e paid = omega (arith, e, paid)

-- a log with a specification in front
module _ (c : LogCheckerState) (o : OwnChecker) (bytes : List ℕ) (sound : IsSound c)
    (is : c.own ≡ Some o) (h : HasChecked c bytes) where
  -- what a piece has cost is paid
  pub own_paid : {E V : Type 0} (r : Result V E) (piece : List ℕ) (new : OwnChecker)
      (first : first_checking.CheckerState) (m n : ℕ)
      → ((xs : List ℕ) → own_checking.HasChecked (checker_in o) xs
      → OnOk r (n + own_owed.checker_debt (checker_in new) (xs ++ piece)
      + own_costs.bytes_cost (own_checking.limit_of (checker_in o).kept) xs
      ≤ m + own_owed.checker_debt (checker_in o) xs
      + own_costs.bytes_cost (own_checking.limit_of (checker_in o).kept) (xs ++ piece)))
      → OnOk r (n + debt_by first (Some new) (bytes ++ piece) + bytes_cost c.max_lines bytes
      ≤ m + checker_debt c bytes + bytes_cost c.max_lines (bytes ++ piece))
  own_paid r piece new first m n paid =
      search (by_own, limit, same_paid, own_cost, begins_longer, arith)

  -- and so is what it costs to end
  pub own_ended : (m n : ℕ) → ((xs : List ℕ) → own_checking.HasChecked (checker_in o) xs
      → n ≤ m + own_costs.finish_cost (own_checking.limit_of (checker_in o).kept) xs)
      → n ≤ m + finish_cost c.max_lines bytes
  own_ended m n paid = search (by_own, same_ended, limit, arith)

-- every other log
module _ (c : LogCheckerState) (bytes : List ℕ) (sound : IsSound c) (is : c.own ≡ None)
    (h : HasChecked c bytes) where
  pub first_paid : {E V : Type 0} (r : Result V E) (piece : List ℕ) (now : Option ℕ)
      → Matches now (bytes ++ piece) → (new : first_checking.CheckerState) (m n : ℕ)
      → ((xs : List ℕ) → first_checking.HasChecked c.first xs
      → OnOk r (n + first_owed.checker_debt new (xs ++ piece)
      + first_costs.bytes_cost c.first.kept.reader.max_lines xs
      ≤ m + first_owed.checker_debt c.first xs
      + first_costs.bytes_cost c.first.kept.reader.max_lines (xs ++ piece)))
      → OnOk r (n + debt_by new c.own (bytes ++ piece) + bytes_cost c.max_lines bytes
      ≤ m + checker_debt c bytes + bytes_cost c.max_lines (bytes ++ piece))
  first_paid r piece now matches new m n paid =
      search (by_first, same_paid, first_cost, matches_isnt, arith)

  pub first_ended : (m n : ℕ) → ((xs : List ℕ) → first_checking.HasChecked c.first xs
      → n ≤ m + first_costs.finish_cost c.first.kept.reader.max_lines xs)
      → n ≤ m + finish_cost c.max_lines bytes
  first_ended m n paid = search (by_first, same_ended, matches_isnt, arith)

  -- What the checker of the other kind did for a part of the beginning costs nothing, and the one
  -- of a log with a specification has been fed from the start.
  pub started_paid : (k : ℕ) (piece rest : List ℕ) → c.matched ≡ Some k
      → matched_with k piece ≡ Some 11 → rest ≡ drop (11 - k) piece
      → (new : OwnChecker) (first : first_checking.CheckerState) (m n : ℕ)
      → n + own_owed.checker_debt (checker_in new) (own_beginning ++ rest)
      ≤ m + own_costs.bytes_cost c.max_lines (own_beginning ++ rest)
      → n + debt_by first (Some new) (bytes ++ piece) + bytes_cost c.max_lines bytes
      ≤ m + checker_debt c bytes + bytes_cost c.max_lines (bytes ++ piece)
  started_paid k piece rest place found left new first m n paid =
      let all = begins_all c bytes sound is h k piece rest place found left in
      let own : is_own_text (bytes ++ piece) ≡ true = rw (← all)
      (begins_longer own_beginning rest refl) in
      begun n (own_owed.checker_debt (checker_in new) (bytes ++ piece))
      (bytes_cost c.max_lines bytes) m (checker_debt c bytes)
      (own_costs.bytes_cost c.max_lines (bytes ++ piece)) (bytes_cost c.max_lines (bytes ++ piece))
      (beginning_free c.max_lines k bytes (matched_is c bytes sound is h k place))
      (own_cost c.max_lines (bytes ++ piece) own) (rw (← all) paid)
    where
      begun : (n after was m before cost now : ℕ) → was ≡ 0 → now ≡ cost → n + after ≤ m + cost
          → n + after + was ≤ m + before + now
      begun n after was m before cost now none is paid = omega (arith, none, is, paid)

-- A checker that was fed the beginning, and then the rest of a piece.
pub started_steps : (max : ℕ) (new begun fresh : own_checking.CheckerState) (rest : List ℕ)
    (l m n : ℕ)
    → own_checking.limit_of fresh.kept ≡ max → own_checking.limit_of begun.kept ≡ max
    → own_owed.checker_debt fresh [] ≡ 0 → own_costs.bytes_cost max [] ≡ 0
    → m + own_owed.checker_debt begun own_beginning
    + own_costs.bytes_cost (own_checking.limit_of fresh.kept) []
    ≤ l + own_owed.checker_debt fresh []
    + own_costs.bytes_cost (own_checking.limit_of fresh.kept) own_beginning
    → n + own_owed.checker_debt new (own_beginning ++ rest)
    + own_costs.bytes_cost (own_checking.limit_of begun.kept) own_beginning
    ≤ m + own_owed.checker_debt begun own_beginning
    + own_costs.bytes_cost (own_checking.limit_of begun.kept) (own_beginning ++ rest)
    → n + own_owed.checker_debt new (own_beginning ++ rest)
    ≤ l + own_costs.bytes_cost max (own_beginning ++ rest)
started_steps max new begun fresh rest l m n limited later owed none first second = search arith

-- what is always so is so if there is an answer
pub always : {E V : Type 0} (r : Result V E) {P : Type 0} → P → OnOk r P
always r p = search arith

-- a whole log, from the first byte to its end
pub whole_paid : (max : ℕ) (fresh after : LogCheckerState) (bytes : List ℕ) (l m n : ℕ)
    → fresh.max_lines ≡ max → after.max_lines ≡ max
    → checker_debt fresh [] ≡ 0 → bytes_cost max [] ≡ 0
    → m + checker_debt after bytes + bytes_cost fresh.max_lines []
    ≤ l + checker_debt fresh [] + bytes_cost fresh.max_lines bytes
    → n ≤ m + finish_cost after.max_lines bytes
    → n ≤ l + (bytes_cost max bytes + finish_cost max bytes)
whole_paid max fresh after bytes l m n limited later owed none fed ended = search arith
