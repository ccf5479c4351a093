-- What runs along a front stays in the state there.
use Rattle.vyrd_states.proofs.Prelude.{◌≡◌, ℕ, ◌+◌, ◌<◌, ◌≤◌, List, length, Some, None, arith}
use Rattle.vyrd_states.proofs.Prelude.{Entry, StartWord, Charter, rules_by, state_at_start}
use Rattle.vyrd_states.proofs.Prelude.{state_then, LeadsTo, IsKnown, Run, state_past}
use Rattle.vyrd_states.proofs.KnownLaws.{state_then-first, state_then-next, unknown_past}

-- what begins is in the state at the start
pub known_first : (c : Charter) (starting : List StartWord) (front : List Entry) (run : Run)
    → Some run.state ≡ state_at_start (rules_by c) starting → run.charter ≡ c → run.made ≡ 0
    → IsKnown c starting front 0 (Some run)
known_first c starting front run begins charter made = search (state_then-first, arith)

-- one entry more
pub known_next : (c : Charter) (starting : List StartWord) (front : List Entry) (at : ℕ)
    (run next : Run) → at < length front → IsKnown c starting front at (Some run)
    → LeadsTo run (state_past (rules_by run.charter) front at run.state) (Some next)
    → IsKnown c starting front (at + 1) (Some next)
known_next c starting front at run next within is leads = search (state_then-next, arith)

-- a state that isn't known after an entry, and at no later place
pub none_next : (c : Charter) (starting : List StartWord) (front : List Entry) (at : ℕ) (run : Run)
    → at < length front → IsKnown c starting front at (Some run)
    → LeadsTo run (state_past (rules_by run.charter) front at run.state) None
    → state_then (rules_by c) starting front (at + 1) ≡ None
none_next c starting front at run within is leads = search (state_then-next, arith)

pub known_none : (c : Charter) (starting : List StartWord) (front : List Entry) (at n : ℕ)
    → at ≤ n → n ≤ length front → state_then (rules_by c) starting front at ≡ None
    → IsKnown c starting front n None
known_none c starting front at n low within none =
    grind (arith, unknown_past (rules_by c) starting front at n low within none)

-- nothing that begins, and no state anywhere
pub never_known : (c : Charter) (starting : List StartWord) (front : List Entry) (n : ℕ)
    → n ≤ length front → None ≡ state_at_start (rules_by c) starting
    → IsKnown c starting front n None
never_known c starting front n within begins = search (known_none, state_then-first, arith)
