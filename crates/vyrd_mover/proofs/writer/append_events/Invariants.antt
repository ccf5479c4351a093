use Rattle.vyrd_mover.proofs.Prelude.{◌≡◌, ◌++◌, take, flat_map, ended_line, event_line}
use Rattle.vyrd_mover.proofs.writer.append_events.Given as goal

abbrev pub invariant-loop-event : goal.invariant-loop-event
invariant-loop-event l = l.out.items ≡ l.initial.out.items
    ++ flat_map (λ e. ended_line (event_line e)) (take l.event-index l.history)
