use Rattle.vyrd_judge.proofs.Prelude.{◌≡◌, take, filter_map, logged}
use Rattle.vyrd_judge.proofs.logged.log_of.Given as goal

-- what the events before this one left
abbrev pub invariant-loop-event : goal.invariant-loop-event
invariant-loop-event l = l.log.items ≡ filter_map (λ e. logged e.caller e.did)
    (take l.event-index l.history)
