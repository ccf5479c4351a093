-- What `explain` and `follow` answer about an input, and what they take of it.
use Rattle.std.specs.Prelude.{◌≡◌, ◌⊎◌, ◌≤◌, ◌+◌, ◌*◌, ℕ, true, List, ◌++◌, length, Option}
use Rattle.std.specs.Prelude.{IfSome}
use Rattle.vyrd_base.specs.Devices.{SourceKnown, IsAtEnd}
use Rattle.vyrd_base.specs.LogVerdicts.{log_verdict}
use Rattle.vyrd_explain.specs.declared.about.About.{About}
use Rattle.vyrd_explain.specs.Explained.{explained, is_settled}
use Rattle.vyrd_explain.specs.Explaining.{ExplainerState, HasTaken, limit_of}
use Rattle.vyrd_check_command.specs.Inputs.{IsTaken, longest_read}
use Rattle.vyrd_check_command.specs.Outputs.{status_of}

-- how many lines a log may have that is explained, since its entries are kept
abbrev pub most_explained : ℕ
most_explained = 16777216

-- How many bytes are read at most of a log of at most so many lines: one more than those with which
-- it may still depend on what follows.
abbrev pub longest_explained : ℕ → ℕ
longest_explained max = 201 * max + 1

-- What is said of these bytes is what is said of the whole input.
pub record SaysWhole (about : About) (max : ℕ) (taken input : List ℕ) : Type 0 where
  pub verdict : log_verdict max taken ≡ log_verdict max input
  pub text : explained about max taken ≡ explained about max input

-- The status and the text of an answer to an input. If its bytes are told, what was taken says what
-- they say.
pub record AnswersExplain (about : About) (max : ℕ) (input : Option (List ℕ)) (status : ℕ)
    (text : List ℕ) : Type 0 where
  pub taken : List ℕ
  pub whole : IfSome input (SaysWhole about max taken)
  pub status_is : status ≡ status_of (log_verdict max taken)
  pub text_is : text ≡ explained about max taken

-- Enough was taken of a source: all to its end, or enough that nothing further changes the answer.
pub record IsExplainTaken (max : ℕ) (before after : SourceKnown) : Type 0 where
  pub taken : List ℕ
  pub told : IsTaken before.rest taken after.rest
  pub enough : IsAtEnd after ⊎ (is_settled max taken ≡ true)

-- What was taken of a source is at most one read more than its shortest beginning with which
-- nothing further changes the answer, and in all no more than is read at most.
pub record IsExplainNoFurther (max : ℕ) (before after : SourceKnown) : Type 0 where
  pub taken : List ℕ
  pub told : IsTaken before.rest taken after.rest
  pub no_more : (first more : List ℕ) → taken ≡ first ++ more → is_settled max first ≡ true
      → length taken ≤ length first + longest_read
  pub few : length taken ≤ longest_explained max

-- These bytes were taken of a source, by what explains logs of at most so many lines, and they are
-- enough.
pub record IsLogTaken (max : ℕ) (before after : SourceKnown)
    (explainer : ExplainerState) : Type 0 where
  pub bytes : List ℕ
  pub told : IsTaken before.rest bytes after.rest
  pub enough : IsAtEnd after ⊎ (is_settled max bytes ≡ true)
  pub limit : limit_of explainer ≡ max
  pub taken : HasTaken explainer bytes
