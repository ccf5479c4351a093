use Rattle.std.proofs.Common.{◌≡◌, sym, subst}
use Rattle.std.specs.Prelude.{IfOk, OnOk, Err}
use Rattle.vyrd_base.specs.Limits.{IsLimit}
use Rattle.vyrd_check_command.specs.Inside.Progress.{IsReached}
use Rattle.vyrd_check_command.specs.Checks.{IsReadNoFurther, IsUnsettled, IsCounted}
use Rattle.vyrd_check_command.specs.declared.read_log.ReadFault.TheVariants.{Failed}
use Rattle.vyrd_check_command.proofs.PieceLaws.{nothing_no_further}
use Rattle.vyrd_check_command.proofs.read_log.read_verdict.Goals as goal

pub returns-in_err-buffer-clause-no_further : goal.returns-in_err-buffer-clause-no_further
returns-in_err-buffer-clause-no_further g c = nothing_no_further _ _

pub read_on-requires-clause-limit : goal.read_on-requires-clause-limit
read_on-requires-clause-limit g c =
    subst IsLimit (sym c.new-checker.ensures.limit)
    (record { low = c.requires.low; high = c.requires.high })

pub returns-clause-reached : goal.returns-clause-reached
returns-clause-reached g c =
    subst (λ max. IfOk c.read_on.result
    (IsReached max (g.S.Source.known c.args.source.now) (g.S.Source.known c.read_on.new.source)))
    c.new-checker.ensures.limit c.read_on.ensures.reached

pub returns-clause-no_further : goal.returns-clause-no_further
returns-clause-no_further g c =
    subst (λ max. IsReadNoFurther max (g.S.Source.known c.args.source.now)
    (g.S.Source.known c.read_on.new.source))
    c.new-checker.ensures.limit c.read_on.ensures.no_further

pub returns-clause-unsettled : goal.returns-clause-unsettled
returns-clause-unsettled g c =
    subst (λ max. c.read_on.result ≡ Err Failed
    → IsUnsettled max (g.S.Source.known c.args.source.now) (g.S.Source.known c.read_on.new.source))
    c.new-checker.ensures.limit c.read_on.ensures.unsettled

pub returns-clause-steps : goal.returns-clause-steps
returns-clause-steps g c =
    subst (λ max. OnOk c.read_on.result (IsCounted max (g.S.Source.known c.args.source.now)
    (g.S.Source.known c.read_on.new.source) c.args.steps.now c.read_on.new.steps))
    c.new-checker.ensures.limit c.read_on.ensures.steps
