-- A batch whose first logs are judged, while its rest is still to come.
use Rattle.std.specs.Prelude.{◌≡◌, ◌⊎◌, ◌≤◌, ◌-◌, ◌+◌, ℕ, Bool, true, false, List, [], ◌++◌}
use Rattle.std.specs.Prelude.{length, map, take, Option, None, Some, Result, Ok, Err}
use Rattle.std.specs.List.{AllByRecursion}
use Rattle.vyrd_base.specs.declared.verdict.Verdict.{Verdict}
use Rattle.vyrd_base.specs.Spelling.{ended_line}
use Rattle.vyrd_batch.specs.declared.span.Span.{Span}
use Rattle.vyrd_batch.specs.Batches.{most_logs, logs_end_within, first_word, last_line, log_at}
use Rattle.vyrd_batch.specs.Batches.{logs_from, bytes_of, logs_of, batch_logs, LiesWithin}
use Rattle.vyrd_batch.specs.BatchAnswers.{verdicts_of}

-- logs before those that are read after them
abbrev pub logs_before : List (List ℕ) → Result (List (List ℕ)) ℕ → Result (List (List ℕ)) ℕ
logs_before logs (Ok more) = Ok (logs ++ more)
logs_before logs (Err log) = Err log

-- the logs of an input from a place on, with its bytes from there on, where `log` logs come before
abbrev pub logs_on : (input : List ℕ) (log place : ℕ) → List ℕ → Result (List (List ℕ)) ℕ
logs_on input log place rest = logs_of input (logs_from (most_logs - log) log place rest)

-- These spans are logs that the bytes begin with, and they take the first `taken` bytes. The bytes
-- stand at a place of an input, where `log` logs come before. Whatever comes after those that are
-- taken, the input's logs from there on are these and then those of what comes.
pub record IsCut (bytes : List ℕ) (log place : ℕ) (spans : List Span) (taken : ℕ) : Type 0 where
  pub few : log + length spans ≤ most_logs
  pub near : place + taken ≤ logs_end_within
  pub within : taken ≤ length bytes
  pub inside : AllByRecursion (LiesWithin (length bytes)) spans
  pub goes_on : (front more : List ℕ) → length front ≡ place
      → logs_on (front ++ (take taken bytes ++ more)) log place (take taken bytes ++ more)
      ≡ logs_before (map (bytes_of bytes) spans) (logs_on (front ++ (take taken bytes ++ more))
      (log + length spans) (place + taken) more)

-- no log stands at a place, or no more may come
abbrev pub IsNoLog : (log place : ℕ) → List ℕ → Type 0
IsNoLog log place bytes = (log ≡ most_logs) ⊎ (log_at place bytes ≡ None)

-- What contracts see of a batch that is judged while it is read: the verdicts about its first logs;
-- the place where the bytes begin that aren't judged, once the first line was read; and whether the
-- batch is refused there.
pub record BatchView : Type 0 where
  pub verdicts : List Verdict
  pub place : Option ℕ
  pub refused : Bool

-- These are the verdicts about the first logs of an input, and `rest` are its bytes from a place
-- on, after these logs. Whatever comes at that place, the logs are these and then those of what
-- comes.
pub record AreJudged (input : List ℕ) (verdicts : List Verdict) (place : ℕ)
    (rest : List ℕ) : Type 0 where
  pub front : List ℕ
  pub logs : List (List ℕ)
  pub input_is : input ≡ front ++ rest
  pub place_is : length front ≡ place
  pub verdicts_are : verdicts ≡ verdicts_of logs
  pub goes_on : (more : List ℕ) → batch_logs (front ++ more)
      ≡ logs_before logs (logs_on (front ++ more) (length logs) place more)

-- The verdicts up to a place, if the first line was read. Otherwise there is no verdict, and the
-- whole input is left.
abbrev pub AreJudgedTo : Option ℕ → List ℕ → List Verdict → List ℕ → Type 0
AreJudgedTo None input verdicts rest = (input ≡ rest) × (verdicts ≡ [])
AreJudgedTo (Some place) input verdicts rest = AreJudged input verdicts place rest

-- These are the verdicts about the first logs of an input, up to a place. However the input goes
-- on, it is refused after these logs.
pub record IsRefused (place : Option ℕ) (input : List ℕ) (verdicts : List Verdict) : Type 0 where
  pub rest : List ℕ
  pub judged : AreJudgedTo place input verdicts rest
  pub lasts : (more : List ℕ) → batch_logs (input ++ more) ≡ Err (length verdicts)

-- the first logs are judged, and these bytes are left; none is needed of what is refused
abbrev pub IsJudgedBy : (refused : Bool) → Option ℕ → List ℕ → List Verdict → List ℕ → Type 0
IsJudgedBy false place input verdicts rest = AreJudgedTo place input verdicts rest
IsJudgedBy true place input verdicts rest = IsRefused place input verdicts

-- the first logs of an input are judged, and these bytes of it are left, or it is refused
abbrev pub IsJudged : List ℕ → BatchView → List ℕ → Type 0
IsJudged input batch rest = IsJudgedBy batch.refused batch.place input batch.verdicts rest

-- no first line, or no log after that many
abbrev pub IsNothingMore : Option ℕ → (log : ℕ) → List ℕ → Type 0
IsNothingMore None log rest = (more : List ℕ) → rest ≡ ended_line first_word ++ more → ⊥
IsNothingMore (Some place) log rest = IsNoLog log place rest

-- However the bytes go on, they don't begin with the first line; or, once it was read, neither are
-- they the last line nor do they begin with a log that may come after that many.
abbrev pub IsNothingEver : Option ℕ → (log : ℕ) → List ℕ → Type 0
IsNothingEver None log rest = (more : List ℕ) → IsNothingMore None log (rest ++ more)
IsNothingEver (Some place) log rest =
    (more : List ℕ) → (rest ++ more ≡ last_line → ⊥) × IsNoLog log place (rest ++ more)

-- How many bytes a log has at most that isn't whole yet: the longest line before one,
-- `log 16777216` with its line feed, and 16 MiB without their last byte.
abbrev pub most_left : ℕ
most_left = 16777228

-- How many bytes the longest line before a log has, without its line feed.
abbrev pub longest_line : ℕ
longest_line = 12

-- Nothing more can be judged in what is left, which is at most one log that isn't whole. Of what is
-- refused nothing is left. If it is refused however it goes on, and an unfinished line hides that,
-- no more is left than such a line.
abbrev pub IsSpentBy : (refused : Bool) → Option ℕ → (log : ℕ) → List ℕ → Type 0
IsSpentBy false place log rest = IsNothingMore place log rest × (length rest ≤ most_left)
    × (IsNothingEver place log rest → length rest ≤ longest_line)
IsSpentBy true place log rest = rest ≡ []

-- nothing more can be judged in what is left
abbrev pub IsSpent : BatchView → List ℕ → Type 0
IsSpent batch rest = IsSpentBy batch.refused batch.place (length batch.verdicts) rest
