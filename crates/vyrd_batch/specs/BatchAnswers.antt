-- What is answered about a batch: a line for each log's verdict, in their order, and how many there
-- are; or that the batch is refused.
use Rattle.std.specs.Prelude.{ℕ, ◌+◌, Bool, true, false, List, [], ◌∷◌, ◌++◌, length, map, codes}
use Rattle.std.specs.Prelude.{decimal, if◌then◌else◌}
use Rattle.std.specs.List.{list_any}
use Rattle.vyrd_base.specs.declared.verdict.Verdict.{Verdict}
use Rattle.vyrd_base.specs.declared.verdict.Verdict.TheVariants.{Violation, Malformed}
use Rattle.vyrd_base.specs.Spelling.{ended_line}
use Rattle.vyrd_base.specs.LogVerdicts.{log_verdict}
use Rattle.vyrd_base.specs.VerdictText.{verdict_text}
use Rattle.vyrd_base.specs.Limits.{most_lines}

-- the verdicts about logs, each as a whole input
abbrev pub verdicts_of : List (List ℕ) → List Verdict
verdicts_of logs = map (λ log. log_verdict most_lines log) logs

-- the line of a log's verdict
abbrev pub log_line : ℕ → Verdict → List ℕ
log_line log verdict = codes "log " ++ decimal log ++ codes ": " ++ verdict_text verdict

-- the lines of verdicts, the first of which is about this log
abbrev pub lines_from : ℕ → List Verdict → List ℕ
lines_from log [] = []
lines_from log (verdict ∷ verdicts) = log_line log verdict ++ lines_from (log + 1) verdicts

-- the line that counts the logs
abbrev pub count_line : ℕ → List ℕ
count_line logs = ended_line (codes "batch: " ++ decimal logs ++ codes " logs")

-- all lines about a batch's verdicts
unfoldable pub batch_text : List Verdict → List ℕ
batch_text verdicts = lines_from 0 verdicts ++ count_line (length verdicts)

-- the line of a batch that is refused
abbrev pub refused_line : ℕ → List ℕ
refused_line log = ended_line (codes "batch refused at log " ++ decimal log)

-- whether a verdict is a violation, and whether it is malformed
abbrev pub is_violation : Verdict → Bool
is_violation (Violation line why) = true
is_violation _ = false

abbrev pub is_malformed : Verdict → Bool
is_malformed (Malformed line rule) = true
is_malformed _ = false

-- the status that a batch's verdicts end with: a violation before a malformed log
abbrev pub batch_status : List Verdict → ℕ
batch_status verdicts =
    if list_any is_violation verdicts then 1 else (if list_any is_malformed verdicts then 2 else 0)
