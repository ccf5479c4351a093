use Rattle.vyrd_own.proofs.Prelude.{◌≡◌, take, map}
use Rattle.vyrd_own.proofs.state.lists_of.Given as goal

abbrev pub invariant-loop-items : goal.invariant-loop-items
invariant-loop-items l = map (λ q. q.items) l.lists.items ≡ map (λ list. list.items)
    (take l.items-index l.all)
