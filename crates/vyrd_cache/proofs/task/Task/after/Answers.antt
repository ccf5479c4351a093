use Rattle.std.proofs.Common.{refl}
use Rattle.vyrd_cache.specs.declared.place.Place.TheVariants.{LoadState, LoadLow, LoadHigh}
use Rattle.vyrd_cache.proofs.Steps.{at_place, after_other}
use Rattle.vyrd_cache.proofs.task.Task.after.Goals as goal

pub returns-in-LoadState : goal.returns-in-LoadState
returns-in-LoadState c = λ h. at_place h c.args.self c.args.place LoadState c.args.answer _
    c.in-LoadState.is (c.knowing.ensures h)

pub returns-in-LoadLow : goal.returns-in-LoadLow
returns-in-LoadLow c = λ h. at_place h c.args.self c.args.place LoadLow c.args.answer _
    c.in-LoadLow.is refl

pub returns-in-LoadHigh : goal.returns-in-LoadHigh
returns-in-LoadHigh c = λ h. at_place h c.args.self c.args.place LoadHigh c.args.answer _
    c.in-LoadHigh.is (c.loaded.ensures h)

pub returns-in_default : goal.returns-in_default
returns-in_default c = λ h. after_other h c.args.self c.args.place c.after.result c.args.answer
    c.in_default.not-LoadState c.in_default.not-LoadLow c.in_default.not-LoadHigh c.after.ensures
