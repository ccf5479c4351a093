use Rattle.vyrd_states.proofs.Prelude.{◌++◌, [], ap, sym, ◌∙◌, option_map_or, rules_of, state_then}
use Rattle.vyrd_states.proofs.Prelude.{before_items, called_by}
use Rattle.vyrd_states.proofs.CallLaws.{execution_allowed}
use Rattle.vyrd_states.proofs.ReplyLaws.{allowed_below, replies_to, no_replies}
use Rattle.vyrd_states.proofs.replies.reply_items.Goals as goal
use Rattle.vyrd_states.proofs.replies.reply_items.Goals.{in-Some+in_ok-push_before+in_ok-push_allowed}
use Rattle.vyrd_states.proofs.replies.reply_items.Goals.{in_default}

pub push_allowed-requires-clause-has : goal.push_allowed-requires-clause-has
push_allowed-requires-clause-has c =
    execution_allowed c.args.begins.now.header c.args.front.now c.args.at
    c.entry_at-caller.result.caller
    c.in-Some.call c.requires.kept (sym c.execution_of.ensures ∙ c.in-Some.is)

pub returns : goal.returns
returns c =
    let r = rules_of c.args.begins.now.header in
    let starting = c.args.starting.now in
    let front = c.args.front.now in
    let at = c.args.at in
    let e = c.entry_at-caller.result in
    let o = state_then r starting front at in
    elim c.match-execution_of.branch [
      | in-Some+in_ok-push_before+in_ok-push_allowed w ↦
          let called = called_by w.in-Some.call in
          ap (λ v. v.items) w.items-is ∙ w.in_ok-push_allowed.ensures
          ∙ ap (λ xs. xs ++ allowed_below r called o 3)
          (w.in_ok-push_before.ensures
          ∙ ap (λ xs. xs ++ option_map_or (λ s. before_items r at s called) o [])
          c.new-items.ensures.items)
          ∙ replies_to r starting front at e w.in-Some.call c.entry_at-caller.ensures
          (sym c.execution_of.ensures ∙ w.in-Some.is)
      | in_default w ↦
          ap (λ v. v.items) w.items-is ∙ c.new-items.ensures.items
          ∙ sym (no_replies r starting front at e c.entry_at-caller.ensures
          (sym c.execution_of.ensures ∙ w.in_default.is))
    ]
