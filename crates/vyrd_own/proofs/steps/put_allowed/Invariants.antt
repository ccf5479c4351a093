use Rattle.vyrd_own.proofs.Prelude.{◌≡◌, ◌≤◌, ◌+◌, drop, map, case_of, allowed_effects}
use Rattle.vyrd_own.specs.Prices.{cases_price}
use Rattle.vyrd_own.proofs.steps.put_allowed.Given as goal

abbrev pub invariant-loop-case : goal.invariant-loop-case
invariant-loop-case g l = record {
  allowed : allowed_effects l.state l.values (map case_of (drop l.case-index l.cases))
      ≡ allowed_effects l.state l.values (map case_of l.cases);
  steps : l.steps + cases_price (map case_of (drop l.case-index l.cases))
      ≤ l.fn.steps + cases_price (map case_of l.cases);
}
