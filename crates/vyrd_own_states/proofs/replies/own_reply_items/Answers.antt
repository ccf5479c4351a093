use Rattle.vyrd_own_states.proofs.Prelude.{◌++◌, subst, sym, ◌∙◌, arc_value, written_in, own}
use Rattle.vyrd_own_states.proofs.Prelude.{OwnSpec, called_by, own_refused_items}
use Rattle.std.specs.Option.{option_map}
use Rattle.vyrd_states.specs.Running.{IsKnown, run_by}
use Rattle.vyrd_states.proofs.ReplyLaws.{called_there}
use Rattle.vyrd_own_states.proofs.ReplyLaws.{known_says, header_by, lines_by}
use Rattle.vyrd_own_states.proofs.replies.own_reply_items.Goals as goal

pub returns : goal.returns
returns c =
    let begins = c.args.begins.now in
    let h = begins.header in
    let lines = arc_value begins.specification in
    let front = c.args.front.now in
    let at = c.args.at in
    let reply = c.args.reply in
    let call = c.in-Some.call in
    let spec = c.in-Some-2.spec in
    let known = subst (λ found. IsKnown (own h lines) c.args.starting.now front at
    (option_map (run_by (λ (s : OwnSpec). own s.header (arc_value s.specification)) (λ s. s.state)
    (λ s. s.made)) found)) c.in-Some-2.is c.in_ok-spec.ensures in
    let header = header_by spec.header h (arc_value spec.specification) lines known.charter in
    let spelled = lines_by spec.header h (arc_value spec.specification) lines known.charter in
    c.in_ok-push_refused.ensures
    ∙ (λ i. c.new-items.ensures.items i
    ++ own_refused_items (header i) (written_in (spelled i)) at reply spec.state (called_by call))
    ∙ known_says h (written_in lines) c.args.starting.now front at reply spec.state (called_by call)
    known.state_is
    (called_there front at c.entry_at.result call c.entry_at.ensures
    (sym c.execution_of.ensures ∙ c.in-Some.is))
