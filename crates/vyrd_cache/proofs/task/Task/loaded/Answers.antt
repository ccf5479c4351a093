use Rattle.vyrd_cache.proofs.Steps.{loaded_read, loaded_other}
use Rattle.vyrd_cache.proofs.task.Task.loaded.Goals as goal

pub returns-in-Read : goal.returns-in-Read
returns-in-Read c = λ h. loaded_read h c.args.self c.args.high c.in-Read.is

pub returns-in_default : goal.returns-in_default
returns-in_default c = λ h. loaded_other h c.args.self c.args.high c.in_default.not-Read
