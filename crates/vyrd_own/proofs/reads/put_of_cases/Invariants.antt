use Rattle.vyrd_own.proofs.Prelude.{◌≡◌, ◌++◌, take, map, flat_map, case_of, worths_in}
use Rattle.vyrd_own.proofs.reads.put_of_cases.Given as goal

abbrev pub invariant-loop-case : goal.invariant-loop-case
invariant-loop-case l =
    l.found.items ≡ l.fn.found.items ++ flat_map (worths_in l.state l.values)
    (map (λ case. case.allow) (map case_of (take l.case-index l.cases)))
