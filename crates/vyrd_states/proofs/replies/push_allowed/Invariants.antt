use Rattle.vyrd_states.proofs.Prelude.{◌≡◌, ◌++◌, rules_of, state_then, called_by}
use Rattle.vyrd_states.proofs.ReplyLaws.{allowed_below}
use Rattle.vyrd_states.proofs.replies.push_allowed.Given as goal

abbrev pub invariant-loop-reply : goal.invariant-loop-reply
invariant-loop-reply l =
    let r = rules_of l.fn.begins.header in
    l.items.items ≡ l.initial.items.items
    ++ allowed_below r (called_by l.fn.call) (state_then r l.starting l.front l.at) l.reply
