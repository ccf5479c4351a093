use Rattle.vyrd_own_check.proofs.Prelude.{◌≡◌, ◌+◌, ◌≤◌, ◌++◌, List, ℕ, false, length, limit_of}
use Rattle.vyrd_own_check.proofs.Prelude.{HasChecked, bytes_cost, checker_debt, kept_in, checker_in}
use Rattle.vyrd_own_check.proofs.checker.OwnChecker.feed_counted.Given as goal

abbrev pub invariant-loop-rest : goal.invariant-loop-rest
invariant-loop-rest g l = record {
  read : List ℕ;
  parted : l.piece ≡ read ++ l.rest;
  checked : (bytes : List ℕ) → HasChecked (checker_in l.initial.self) bytes
      → HasChecked (checker_in l.self) (bytes ++ read);
  works : l.self.has_failed ≡ false;
  limit : limit_of (kept_in l.self.text) ≡ limit_of (kept_in l.initial.self.text);
  paid : (bytes : List ℕ) → HasChecked (checker_in l.initial.self) bytes
      → l.steps + checker_debt (checker_in l.self) (bytes ++ read)
      + bytes_cost (limit_of (checker_in l.initial.self).kept) bytes
      ≤ l.initial.steps + checker_debt (checker_in l.initial.self) bytes
      + bytes_cost (limit_of (checker_in l.initial.self).kept) (bytes ++ read);
}

abbrev pub decreases-loop-rest : goal.decreases-loop-rest
decreases-loop-rest g l = length l.rest
