use Rattle.vyrd_plain.proofs.Prelude.{◌≡◌, ◌≤◌, [], take, drop, built_in, rules_of, newest_first}
use Rattle.vyrd_plain.proofs.Prelude.{states_along, first_fault, Tracks, HasEffects}
use Rattle.vyrd_plain.proofs.StepLaws.{fault_from}
use Rattle.vyrd_plain.proofs.violation.first_violation.Given as goal

abbrev pub invariant-loop-at : goal.invariant-loop-at
invariant-loop-at g l = record {
  charter : g.S.Spec.charter l.scan.spec ≡ built_in l.fn.header;
  tracks : Tracks (rules_of l.fn.header) (states_along (rules_of l.fn.header) [] l.front)
      (newest_first (take l.at l.front)) (drop l.at l.front)
      (g.S.Spec.state l.scan.spec) l.scan.executions.items;
  words : HasEffects l.fn.header l.scan.effects.words.items l.scan.effects.open_blocks.items
      (take l.at l.front) (drop l.at l.front);
  made : g.S.Spec.made l.scan.spec ≤ l.at;
  ahead : first_fault (rules_of l.fn.header) [] l.front ≡ fault_from (rules_of l.fn.header) l.front
      l.at;
}
