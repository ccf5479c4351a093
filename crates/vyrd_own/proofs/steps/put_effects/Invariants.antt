use Rattle.vyrd_own.proofs.Prelude.{◌≡◌, ◌≤◌, ◌+◌, take, drop, map, effect_of}
use Rattle.vyrd_own.specs.Layout.{change_of}
use Rattle.vyrd_own.specs.Prices.{lines_price}
use Rattle.vyrd_own.proofs.steps.put_effects.Given as goal

abbrev pub invariant-loop-change : goal.invariant-loop-change
invariant-loop-change g l = record {
  effects : l.effects.items ≡ map (effect_of l.state l.values)
      (map change_of (take l.change-index l.changes));
  steps : l.steps + lines_price (map change_of (drop l.change-index l.changes))
      ≤ l.fn.steps + lines_price (map change_of l.changes);
}
