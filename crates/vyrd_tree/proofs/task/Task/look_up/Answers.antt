use Rattle.vyrd_tree.proofs.Prelude.{take, ap, ◌∙◌, unlock_node, place_of, reply_of}
use Rattle.vyrd_memory.specs.Scripts as scripts
use Rattle.vyrd_tree.proofs.task.Task.look_up.Goals as goal

pub returns : goal.returns
returns c = λ h.
    let entries = take c.args.count c.args.visit.entries.slots in
    ap (λ reply. unlock_node h c.args.visit.node.number (scripts.returns reply))
    (c.reply-reply.ensures ∙ ap (λ key. reply_of entries (place_of key entries)) c.from.ensures)
