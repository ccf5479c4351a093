use Rattle.vyrd_own.proofs.Prelude.{◌≡◌, ◌++◌, take, map, flat_map, expr_in, worths_in}
use Rattle.vyrd_own.proofs.reads.put_of_lets.Given as goal

abbrev pub invariant-loop-code : goal.invariant-loop-code
invariant-loop-code l =
    l.found.items ≡ l.fn.found.items
    ++ flat_map (worths_in l.state l.values) (map expr_in (take l.code-index l.lets))
