use Rattle.std.proofs.Common.{ap, sym, ◌∙◌}
use Rattle.std.proofs.lemmas.Result.{IfOk-weaker}
use Rattle.vyrd_base.specs.Rules.{built_in, rules_of}
use Rattle.vyrd_states.specs.Replies.{reply_items}
use Rattle.vyrd_explain.specs.Verdicts.{refused_with_last, state_items}
use Rattle.vyrd_explain.proofs.structure.BuiltInStructureExplains.state_items.Goals as goal

pub returns-in_ok-spec-in-Reply : goal.returns-in_ok-spec-in-Reply
returns-in_ok-spec-in-Reply c =
    let starting = c.args.starting.now in
    let front = c.args.front.now in
    let h = c.new-begins.ensures in
    let items = c.in_ok-items-in-Reply.ensures
    ∙ ap (λ h. reply_items (rules_of h) starting front c.args.at) h in
    IfOk-weaker c.with_last.result _ _ (λ all e. e
    ∙ (λ i. refused_with_last (built_in (h i)) starting front c.args.at (items i))
    ∙ ap (λ why. state_items (built_in c.args.self.now.header) starting front c.args.at why)
    (sym c.in-Reply.is))
    (c.with_last.ensures (built_in c.new-begins.result.header)
    c.in_ok-spec-in-Reply.ensures.charter c.in_ok-spec-in-Reply.ensures.state)
