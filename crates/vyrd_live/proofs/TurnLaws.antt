-- What is recorded of a run by turns is its run, and that of a correct structure is accepted.
use Rattle.vyrd_live.proofs.Prelude
use Prelude.{◌≡◌, ℕ, List, [], sym, subst, ◌∙◌, Stamped, log_of, built_in, rules_by, accepted}
use Prelude.{verdict, HasRun, RunsTo, run_is_legal, run_plays, Workload, KeepsLimits, work_scripts}
use Prelude.{scripts_sound, IsCorrect, schedule_accepted, Recording, Run, HasRecorded, IsRunByTurns}

-- a recording that was shown the run by turns has what its run is made of
pub run_recorded : (w : Workload) (r : Recording) (words : List ℕ) (run : Run)
    → HasRun (work_scripts w) w.turns w.header HasRecorded r words → r.judge.judge.kept.charter
    ≡ built_in w.header
    → run.history.items ≡ r.history.items → run.words.items ≡ words
    → ((history : List Stamped) → HasRecorded r history → run.verdict
    ≡ verdict (rules_by r.judge.judge.kept.charter) [] (log_of history))
    → IsRunByTurns w run
run_recorded w r words run has_run charter history_is words_is judged =
    let same : run.history.items ≡ has_run.history = history_is ∙ has_run.taken.kept in record {
      history = subst (RunsTo _ _) (sym same) has_run.runs;
      words = cc has_run.words_are;
      verdict_is = cc (judged has_run.history has_run.taken);
    }

pub turns_accepted : (w : Workload) (run : Run) → KeepsLimits w → IsCorrect w → IsRunByTurns w run
    → run.verdict ≡ accepted (log_of run.history.items)
turns_accepted w run limits is by_turns = by_turns.verdict_is ∙ schedule_accepted w _ limits is
    (record {
      legal = run_is_legal w.header (work_scripts w) w.turns run.history.items
          (scripts_sound w limits) by_turns.history;
      parts = run_plays w.header _ w.turns run.history.items (scripts_sound w limits)
          by_turns.history;
    })
