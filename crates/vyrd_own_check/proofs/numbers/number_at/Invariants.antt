use Rattle.vyrd_own_check.proofs.Prelude.{◌≡◌, ◌≤◌, drop, number_in, number_from}
use Rattle.vyrd_own_check.proofs.numbers.number_at.Given as goal

abbrev pub invariant-loop-run : goal.invariant-loop-run
invariant-loop-run l = record {
  begins : l.from.place ≤ l.place;
  same : number_from (number_in l.from l.place) (drop l.run-index l.runs) l.place
      ≡ number_from 0 l.runs l.place;
}
