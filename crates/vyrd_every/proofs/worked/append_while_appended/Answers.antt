use Rattle.vyrd_every.proofs.Prelude.{refl, rules, KeepsLimits}
use Rattle.vyrd_every.specs.Interleaved.{appends, appends_history}
use Rattle.vyrd_every.proofs.Interleaved.{run_is_schedule}
use Rattle.vyrd_every.proofs.worked.append_while_appended.Goals as goal

limits : KeepsLimits appends
limits = search rules

-- some rounds to spare: once all is done they leave the history as it is
pub returns-clause-schedule : goal.returns-clause-schedule
returns-clause-schedule c =
    run_is_schedule appends appends_history limits
    (record { rounds = 30; history_is = refl; done = refl })
