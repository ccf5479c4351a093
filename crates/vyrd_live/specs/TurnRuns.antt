-- What a run by turns leaves: the history that the turns give, its last words and its verdict.
use Rattle.std.specs.Prelude.{[], ◌≡◌}
use Rattle.vyrd_base.specs.Places.{newest_first}
use Rattle.vyrd_base.specs.Histories.{log_of}
use Rattle.vyrd_base.specs.Rules.{rules_of}
use Rattle.vyrd_base.specs.Verdicts.{verdict}
use Rattle.vyrd_memory.specs.Turns.{RunsTo}
use Rattle.vyrd_memory.specs.Playing.{memory_after}
use Rattle.vyrd_work.specs.Workloads.{Workload}
use Rattle.vyrd_work.specs.WorkScripts.{work_scripts}
use Rattle.vyrd_live.specs.declared.run.Run.{Run}

-- The run by turns of the workload ends with this history and these words, and this is the verdict
-- about its log.
pub record IsRunByTurns (w : Workload) (run : Run) : Type 0 where
  pub history : RunsTo (work_scripts w) w.turns run.history.items
  pub words : run.words.items ≡ memory_after w.header (newest_first run.history.items)
  pub verdict_is : run.verdict ≡ verdict (rules_of w.header) [] (log_of run.history.items)
