use Rattle.vyrd_mover.proofs.Prelude.{List, map, drop, Stamped, cells_of, is_race_free, step_coded}
use Rattle.vyrd_mover.proofs.Prelude.{HasTaken}
use Rattle.vyrd_mover.proofs.SurveyLaws.{IsSurvey}
use Rattle.vyrd_mover.proofs.survey.Survey.of.Given as goal

abbrev pub invariant-loop-place : goal.invariant-loop-place
invariant-loop-place l = (history : List Stamped)
    → HasTaken (record { header = l.fn.header; uses = l.uses; steps = map step_coded l.codes })
    history
    → IsSurvey (is_race_free (cells_of l.fn.header) history) l.fn.header.callers
    (drop l.place history) l.survey
