use Rattle.vyrd_witness.proofs.Prelude.{◌≡◌, ◌++◌, map, take, filter, Passed, is_of_other}
use Rattle.vyrd_witness.proofs.races.push_others.Given as goal

abbrev pub invariant-loop-effect : goal.invariant-loop-effect
invariant-loop-effect l = l.items.items ≡ l.fn.items.items
    ++ map Passed (filter (is_of_other l.fn.caller l.fn.word) (take l.effect-index l.effects))
