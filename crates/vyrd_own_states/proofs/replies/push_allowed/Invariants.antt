use Rattle.vyrd_own_states.proofs.Prelude.{◌≡◌, ◌++◌, map, drop, filter, arc_value, written_in}
use Rattle.vyrd_own_states.proofs.Prelude.{Allowed, called_by, is_allowed}
use Rattle.vyrd_own_states.proofs.replies.push_allowed.Given as goal

abbrev pub invariant-loop-reply : goal.invariant-loop-reply
invariant-loop-reply l =
    let passes = is_allowed l.spec.header (written_in (arc_value l.spec.specification))
    (called_by l.call) l.spec.state in
    l.items.items ++ map Allowed (filter passes (drop l.reply-index l.replies))
    ≡ l.initial.items.items ++ map Allowed (filter passes l.replies)
