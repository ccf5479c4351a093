use Rattle.vyrd_check.proofs.Prelude.{◌≡◌, ◌+◌, ◌≤◌, ◌++◌, List, ℕ, false, length, HasChecked}
use Rattle.vyrd_check.proofs.Prelude.{bytes_cost, checker_debt}
use Rattle.vyrd_check.proofs.checker.Checker.feed_counted.Given as goal

abbrev pub invariant-loop-rest : goal.invariant-loop-rest
invariant-loop-rest g l = record {
  read : List ℕ;
  parted : l.piece ≡ read ++ l.rest;
  checked : (bytes : List ℕ) → HasChecked l.initial.self bytes → HasChecked l.self (bytes ++ read);
  works : l.self.has_failed ≡ false;
  limit : l.self.kept.reader.max_lines ≡ l.initial.self.kept.reader.max_lines;
  paid : (bytes : List ℕ) → HasChecked l.initial.self bytes
      → l.steps + checker_debt l.self (bytes ++ read)
      + bytes_cost l.initial.self.kept.reader.max_lines bytes
      ≤ l.initial.steps + checker_debt l.initial.self bytes
      + bytes_cost l.initial.self.kept.reader.max_lines (bytes ++ read);
}

abbrev pub decreases-loop-rest : goal.decreases-loop-rest
decreases-loop-rest g l = length l.rest
