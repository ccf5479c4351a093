use Rattle.vyrd_own_spec.proofs.Prelude.{ap, ◌∙◌, is_some, written, next_by}
use Rattle.std.proofs.lemmas.Result.{IfOk-weaker}
use Rattle.vyrd_own_spec.proofs.CallLaws.{allowed_is}
use Rattle.vyrd_own_spec.proofs.allowing.allows.Goals as goal

pub returns : goal.returns
returns c = IfOk-weaker c.plan.result _ _ (λ allowed is.
    allowed_is (written c.program-program.result.now) c.args.method c.args.args c.args.reply
    c.args.state.now c.plan.new.room.effects.items allowed is
    ∙ ap (λ w. is_some (next_by w c.args.method c.args.args c.args.reply c.args.state.now))
    c.program-program.ensures.says)
    c.plan.ensures
