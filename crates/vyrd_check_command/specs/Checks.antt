-- What `check` answers about an input, and what it takes of it.
use Rattle.std.specs.Prelude.{◌≡◌, ◌⊎◌, ◌≤◌, ◌+◌, ℕ, Bool, true, List, ◌++◌, length, Option, Some}
use Rattle.std.specs.Prelude.{None, is_some, IfSome}
use Rattle.vyrd_base.specs.declared.verdict.Verdict.{Verdict}
use Rattle.vyrd_base.specs.Devices.{SourceKnown, IsAtEnd}
use Rattle.vyrd_base.specs.VerdictText.{verdict_text}
use Rattle.vyrd_base.specs.LogVerdicts.{log_verdict, log_verdict_so_far}
use Rattle.vyrd_log_check.specs.Costs.{log_cost}
use Rattle.vyrd_check_command.specs.Inputs.{IsTaken, IsVerdictOf, longest_read}
use Rattle.vyrd_check_command.specs.Outputs.{status_of, Appends, AppendsFront}

-- the status and the text are those of the whole input's verdict
pub record IsJudged (max : ℕ) (input : Option (List ℕ)) (status : ℕ) (text : List ℕ) : Type 0 where
  pub verdict : Verdict
  pub is_verdict : IsVerdictOf max input verdict
  pub status_is : status ≡ status_of verdict
  pub text_is : text ≡ verdict_text verdict

-- Enough was taken of a source: all to its end, or enough that it has the whole input's verdict
-- already.
pub record IsSettled (max : ℕ) (before after : SourceKnown) : Type 0 where
  pub taken : List ℕ
  pub told : IsTaken before.rest taken after.rest
  pub enough : IsAtEnd after
      ⊎ IfSome before.rest (λ input. log_verdict_so_far max taken ≡ Some (log_verdict max input))

-- what was taken of a source has no verdict yet
pub record IsUnsettled (max : ℕ) (before after : SourceKnown) : Type 0 where
  pub taken : List ℕ
  pub told : IsTaken before.rest taken after.rest
  pub nothing : log_verdict_so_far max taken ≡ None

-- whether bytes have a verdict already, however they go on
abbrev pub has_verdict : ℕ → List ℕ → Bool
has_verdict max bytes = is_some (log_verdict_so_far max bytes)

-- What was taken of a source is at most one read more than its shortest beginning that has a
-- verdict.
pub record IsReadNoFurther (max : ℕ) (before after : SourceKnown) : Type 0 where
  pub taken : List ℕ
  pub told : IsTaken before.rest taken after.rest
  pub no_more : (first more : List ℕ) → taken ≡ first ++ more → has_verdict max first ≡ true
      → length taken ≤ length first + longest_read

-- The judge's steps, from `first` on to `last`, are at most what the bytes cost that were taken of
-- a source, with what it costs to end.
pub record IsCounted (max : ℕ) (before after : SourceKnown) (first last : ℕ) : Type 0 where
  pub taken : List ℕ
  pub told : IsTaken before.rest taken after.rest
  pub few : last ≤ first + log_cost max taken

-- the sink has taken the line of the whole input's verdict, whose status this is
pub record IsAnswered (max : ℕ) (input : Option (List ℕ)) (status : ℕ)
    (before after : Option (List ℕ)) : Type 0 where
  pub text : List ℕ
  pub judged : IsJudged max input status text
  pub written : Appends before after text

-- the sink has taken some of the first bytes of that line
pub record IsAnsweredInPart (max : ℕ) (input before after : Option (List ℕ)) : Type 0 where
  pub status : ℕ
  pub text : List ℕ
  pub judged : IsJudged max input status text
  pub written : AppendsFront before after text

-- the sink has sure room for the line of the whole input's verdict
abbrev pub HasRoomForAnswer : ℕ → Option (List ℕ) → ℕ → Type 0
HasRoomForAnswer max input room =
    (status : ℕ) (text : List ℕ) → IsJudged max input status text → length text ≤ room
