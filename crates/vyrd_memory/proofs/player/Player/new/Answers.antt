use Rattle.std.proofs.Common.{◌∙◌}
use Rattle.vyrd_memory.specs.Laws.Player.{operations-sound, callable_method, callable_args}
use Rattle.vyrd_memory.specs.Laws.Player.{callable_small}
use Rattle.vyrd_memory.proofs.player.Player.new.Goals as goal

pub returns-in_err-ops-clause-sound : goal.returns-in_err-ops-clause-sound
returns-in_err-ops-clause-sound g c =
    operations-sound c.args.header (g.P.Progress.procedure c.args.header c.args.variant)
    c.args.ops.now
    (λ op callable. g.met.P.Progress.is_sound c.args.header c.args.variant op c.requires.subject
    (callable_method c.args.header op callable ∙ c.requires.subject)
    (callable_args c.args.header op callable)
    (callable_small c.args.header op callable))
    c.requires.ops

pub returns-clause-sound : goal.returns-clause-sound
returns-clause-sound g c =
    operations-sound c.args.header (g.P.Progress.procedure c.args.header c.args.variant)
    c.args.ops.now
    (λ op callable. g.met.P.Progress.is_sound c.args.header c.args.variant op c.requires.subject
    (callable_method c.args.header op callable ∙ c.requires.subject)
    (callable_args c.args.header op callable)
    (callable_small c.args.header op callable))
    c.requires.ops

pub returns-in_err-ops-clause-alone : goal.returns-in_err-ops-clause-alone
returns-in_err-ops-clause-alone g c = λ op callable.
    g.met.P.Progress.is_right_alone c.args.header op c.requires.subject
    (callable_method c.args.header op callable ∙ c.requires.subject)
    (callable_args c.args.header op callable) (callable_small c.args.header op callable)

pub returns-clause-alone : goal.returns-clause-alone
returns-clause-alone g c = λ op callable.
    g.met.P.Progress.is_right_alone c.args.header op c.requires.subject
    (callable_method c.args.header op callable ∙ c.requires.subject)
    (callable_args c.args.header op callable) (callable_small c.args.header op callable)
