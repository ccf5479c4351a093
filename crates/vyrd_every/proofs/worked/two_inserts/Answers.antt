use Rattle.vyrd_every.proofs.Prelude.{refl, rules, KeepsLimits}
use Rattle.vyrd_every.specs.Interleaved.{inserts, inserts_history}
use Rattle.vyrd_every.proofs.Interleaved.{run_is_schedule}
use Rattle.vyrd_every.proofs.worked.two_inserts.Goals as goal

limits : KeepsLimits inserts
limits = search rules

-- some rounds to spare: once all is done they leave the history as it is
pub returns-clause-schedule : goal.returns-clause-schedule
returns-clause-schedule c =
    run_is_schedule inserts inserts_history limits
    (record { rounds = 30; history_is = refl; done = refl })
