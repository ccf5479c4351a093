use Rattle.vyrd_observers.proofs.Prelude.{ap, ◌∙◌, replicate, unwatched}
use Rattle.vyrd_observers.proofs.CostLaws.{nothing_owed}
use Rattle.vyrd_observers.proofs.CallersSee.{none_watched}
use Rattle.vyrd_observers.proofs.watches.Watches.new.Goals as goal

pub returns-clause-unwatched : goal.returns-clause-unwatched
returns-clause-unwatched c = none_watched _ _ _ c.in_ok-no_watches.ensures
    ∙ ap (λ n. replicate n unwatched) c.callers.ensures

pub returns-clause-owed : goal.returns-clause-owed
returns-clause-owed c = nothing_owed _ _ _ c.new.ensures.items c.in_ok-no_watches.ensures
