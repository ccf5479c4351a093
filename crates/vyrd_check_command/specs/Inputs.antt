-- What was taken of an input. Bytes that a source doesn't tell are None.
use Rattle.std.specs.Prelude.{◌≡◌, ℕ, Bool, true, false, List, ◌++◌}
use Rattle.std.specs.Prelude.{Option, option_map, Result, Ok, Err, IfSome}
use Rattle.vyrd_base.specs.declared.verdict.Verdict.{Verdict}
use Rattle.vyrd_base.specs.LogVerdicts.{log_verdict}
use Rattle.vyrd_check_command.specs.declared.read_log.ReadFault.{ReadFault}
use Rattle.vyrd_check_command.specs.declared.read_log.ReadFault.TheVariants.{Failed, Memory}

-- how many bytes one read takes at most
abbrev pub longest_read : ℕ
longest_read = 65536

-- whether a read has failed
abbrev pub is_failed : {A : Type 0} → Result A ReadFault → Bool
is_failed (Ok a) = false
is_failed (Err Memory) = false
is_failed (Err Failed) = true

-- the source told its bytes before and after, or neither time
abbrev pub IsTaken : Option (List ℕ) → List ℕ → Option (List ℕ) → Type 0
IsTaken before taken after = before ≡ option_map (λ left. taken ++ left) after

-- the verdict is that of the whole input, if its bytes are told
abbrev pub IsVerdictOf : ℕ → Option (List ℕ) → Verdict → Type 0
IsVerdictOf max input verdict = IfSome input (λ bytes. verdict ≡ log_verdict max bytes)
