-- What a checker keeps, and the bytes that it stands for.
use Rattle.std.specs.Prelude.{◌≡◌, ◌≤◌, ◌+◌, ◌^◌, ℕ, Bool, true, false, List, [], ◌++◌, length}
use Rattle.std.specs.Prelude.{Option, Some, None, option_and_then, option_map, is_none}
use Rattle.std.specs.Prelude.{if◌then◌else◌}
use Rattle.std.specs.Option.{option_or}
use Rattle.vyrd_base.specs.declared.header.Header.{Header}
use Rattle.vyrd_base.specs.declared.log.Entry.{Entry}
use Rattle.vyrd_base.specs.declared.log.StartWord.{StartWord}
use Rattle.vyrd_base.specs.declared.verdict.Verdict.{Verdict}
use Rattle.vyrd_base.specs.Starts.{state_at_start}
use Rattle.vyrd_base.specs.Rules.{Charter, own, rules_by}
use Rattle.vyrd_base.specs.Verdicts.{verdict_so_far, end_verdict}
use Rattle.vyrd_base.specs.Own.Log.{OwnReading}
use Rattle.vyrd_base.specs.Own.LogVerdicts.{own_text_verdict_so_far}
use Rattle.vyrd_base.specs.Limits.{IsLimit}
use Rattle.vyrd_own_log.specs.Grown.{has_begun}
use Rattle.vyrd_own_log.specs.Readers.{ReaderState, HasRead}
use Rattle.vyrd_judge.specs.Costs.{judge_debt}
use Rattle.vyrd_judge.specs.Following.{JudgeView, HasFollowed}
use Rattle.vyrd_own_spec.specs.Effects.{most_touched}
use Rattle.vyrd_own_check.specs.Costs.{word_price, starting_cost}
use Rattle.vyrd_own_check.specs.LogReadings.{read_so_far}

-- the name of the rules that the specification in front of what was read gives, once there is a
-- header
abbrev pub charter_in : OwnReading → Option Charter
charter_in read = option_map (λ h. own h read.lines) read.header

-- what is wrong with what was read by the rules of that name, told as if starting words, entries
-- and `end` stood right behind the header
abbrev pub untold_by : OwnReading → Charter → Option Verdict
untold_by read charter = option_or
    (verdict_so_far (rules_by charter) read.starting read.entries)
    (if read.ended then end_verdict (rules_by charter) read.starting read.entries else None)

abbrev pub untold_in : OwnReading → Option Verdict
untold_in read = option_and_then (untold_by read) (charter_in read)

-- a judge with no verdict that has followed these entries of what was read, by the rules of the
-- specification that was read
pub record IsAt (j : JudgeView) (read : OwnReading) (log : List Entry) : Type 0 where
  pub charter : charter_in read ≡ Some j.kept.charter
  pub followed : HasFollowed j read.starting log
  pub so_far : j.so_far ≡ None
  pub begun : has_begun read ≡ true

-- The judge has followed what was read, and nothing is wrong with it. There is none before an entry
-- or `end` was read.
abbrev pub IsJudging : Option JudgeView → OwnReading → Type 0
IsJudging None read = (read.entries ≡ []) × (read.ended ≡ false)
IsJudging (Some j) read = IsAt j read read.entries

-- the starting words that were read stand for no state
abbrev pub StandsForNone : OwnReading → Type 0
StandsForNone read = (l : Charter) × (charter_in read ≡ Some l)
    × (is_none (state_at_start (rules_by l) read.starting) ≡ true)

-- The judge that has followed the entries from before. If there is none, no entry came before, and
-- the starting words stand for no state if an entry or `end` was read.
abbrev pub IsBefore : Option JudgeView → OwnReading → List Entry → Type 0
IsBefore None read log = (log ≡ []) × (has_begun read ≡ true → StandsForNone read)
IsBefore (Some j) read log = IsAt j read log

-- The judge is ready for the last entries of what was read, and for `end` if it was read.
pub record IsReady (judge : Option JudgeView) (read : OwnReading) (log more : List Entry)
    (done : Bool) : Type 0 where
  pub before : IsBefore judge read log
  pub entries : read.entries ≡ log ++ more
  pub ended : read.ended ≡ done

-- the judge can count further entries
abbrev pub HasRoom : Option JudgeView → List Entry → Type 0
HasRoom None entries = Unit {0}
HasRoom (Some j) entries = j.kept.entries + length entries ≤ 2 ^ 62

-- the judge that was made if the starting words stand for a state: it has followed no entry, and
-- owes what it costs to start
abbrev pub IsMade : Header → List (List ℕ) → List StartWord → Option JudgeView → Type 0
IsMade h lines starting None = is_none (state_at_start (rules_by (own h lines)) starting) ≡ true
IsMade h lines starting (Some j) = (j.kept.charter ≡ own h lines) × HasFollowed j starting []
    × (j.so_far ≡ None)
    × (judge_debt (λ shows. word_price) most_touched j [] ≡ starting_cost h lines starting)

-- The judge before and after a piece, in which an entry or `end` was read or not: a new one if
-- there was none.
abbrev pub IsBegun : Bool → Option Header → List (List ℕ) → List StartWord → Option JudgeView
    → Option JudgeView → Type 0
IsBegun begun header lines starting (Some j) after = after ≡ Some j
IsBegun false header lines starting None after = after ≡ None
IsBegun true None lines starting None after = after ≡ None
IsBegun true (Some h) lines starting None after = IsMade h lines starting after

-- what reads the text and judges its entries, and the numbers of lines
pub record OwnCheckerKept : Type 0 where
  pub reader : ReaderState
  pub judge : Option JudgeView
  pub numbers : List ℕ

-- the reader's limit
abbrev pub limit_of : OwnCheckerKept → ℕ
limit_of k = k.reader.kept.lines.max_lines

-- Nothing is wrong with the bytes so far, and what is kept stands for them.
pub record IsUndecided (k : OwnCheckerKept) (bytes : List ℕ) : Type 0 where
  pub read : HasRead k.reader bytes
  pub judging : IsJudging k.judge (read_so_far (limit_of k) bytes)
  pub numbers : k.numbers ≡ (read_so_far (limit_of k) bytes).numbers
  pub nothing : own_text_verdict_so_far (limit_of k) bytes ≡ None

-- what is kept stands for some bytes
abbrev pub IsSomewhere : OwnCheckerKept → Type 0
IsSomewhere k = ∥ ((bytes : List ℕ) × IsUndecided k bytes) ∥₁

-- what is kept, the verdict that stands, and whether memory was refused
pub record CheckerState : Type 0 where
  pub kept : OwnCheckerKept
  pub so_far : Option Verdict
  pub has_failed : Bool

-- what is kept stands for the bytes, or a verdict stands
abbrev pub FollowsBy : OwnCheckerKept → List ℕ → Option Verdict → Type 0
FollowsBy k bytes None = IsUndecided k bytes
FollowsBy k bytes (Some v) = own_text_verdict_so_far (limit_of k) bytes ≡ Some v

-- The checker has followed these bytes.
pub record HasChecked (c : CheckerState) (bytes : List ℕ) : Type 0 where
  pub follows : FollowsBy c.kept bytes c.so_far

-- what holds of every checker
pub record IsSound (c : CheckerState) : Type 0 where
  pub limit : IsLimit (limit_of c.kept)
  pub somewhere : c.has_failed ≡ false → c.so_far ≡ None → IsSomewhere c.kept
