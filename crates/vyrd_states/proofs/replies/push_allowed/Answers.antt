use Rattle.vyrd_states.proofs.Prelude.{subst, sym, ap, ◌∙◌, is_some, option_map, rules_by, rules_of}
use Rattle.vyrd_states.proofs.Prelude.{state_then, IsKnown, called_by, run_by}
use Rattle.vyrd_base.specs.Rules.{built_in}
use Rattle.vyrd_spec.specs.AnySpecs.{header_in, state_in, made_in}
use Rattle.vyrd_states.proofs.ReplyLaws.{reply_allowed, reply_refused}
use Rattle.vyrd_states.proofs.replies.push_allowed.Goals as goal
use Rattle.vyrd_states.proofs.replies.push_allowed.Goals.{then-branch+in_ok-push, else-branch}

pub loop-reply-preserved : goal.loop-reply-preserved
loop-reply-preserved c =
    let h = c.args.begins.now.header in
    let r = rules_of h in
    let x = c.args.call in
    let reply = c.loop-reply.reply in
    let spec = c.in-Some.spec in
    let o = state_then r c.args.starting.now c.args.front.now c.args.at in
    let known = subst
    (λ found. IsKnown (built_in h) c.args.starting.now c.args.front.now c.args.at
    (option_map (run_by (λ s. built_in (header_in s)) state_in made_in) found)) c.in-Some.is
    c.in_ok-spec.ensures in
    let says = c.in_ok-allows.ensures
    ∙ ap (λ d. is_some ((rules_by d).next x.method x.args reply (state_in spec))) known.charter in
    elim c.if-branch.branch [
      | then-branch+in_ok-push w ↦ reply_allowed r (called_by x) o (state_in spec) reply
          c.args.items.now.items c.loop-reply.items.items c.if-branch.items.items
          c.in_ok-allows.field-0 (sym known.state_is) says w.if-branch.true
          c.loop-reply.invariant (ap (λ v. v.items) w.items-is ∙ w.in_ok-push.ensures.items)
      | else-branch w ↦ reply_refused r (called_by x) o (state_in spec) reply
          c.args.items.now.items c.if-branch.items.items c.in_ok-allows.field-0
          (sym known.state_is) says w.if-branch.false
          (ap (λ v. v.items) w.items-is ∙ c.loop-reply.invariant)
    ]
