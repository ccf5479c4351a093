-- What a checker keeps, and the bytes that it stands for.
use Rattle.std.specs.Prelude.{◌≡◌, ◌≤◌, ◌+◌, ◌^◌, ℕ, Bool, true, false, ◌||◌, List, [], ◌++◌}
use Rattle.std.specs.Prelude.{length, Option, Some, None, option_and_then, option_map, is_none}
use Rattle.vyrd_base.specs.declared.header.Header.{Header}
use Rattle.vyrd_base.specs.declared.log.Entry.{Entry}
use Rattle.vyrd_base.specs.declared.log.StartWord.{StartWord}
use Rattle.vyrd_base.specs.declared.verdict.Verdict.{Verdict}
use Rattle.vyrd_base.specs.Starts.{state_at_start}
use Rattle.vyrd_base.specs.Reading.{Reading, has_any}
use Rattle.vyrd_base.specs.Rules.{built_in, rules_of}
use Rattle.vyrd_base.specs.TextVerdicts.{entries_verdict, text_verdict_so_far}
use Rattle.vyrd_base.specs.Limits.{IsLimit}
use Rattle.vyrd_text.specs.Readers.{ReaderState, HasRead}
use Rattle.vyrd_view.specs.Comparing.{price_by, word_price}
use Rattle.vyrd_view.specs.Known.{by_rules}
use Rattle.vyrd_judge.specs.Costs.{judge_debt, start_cost}
use Rattle.vyrd_judge.specs.Following.{JudgeView, HasFollowed}
use Rattle.vyrd_check.specs.LogReadings.{read_so_far}

-- what is wrong with the starting words and entries that were read, and with their end if `end` was
-- read
abbrev pub wrong_in : Reading → Option Verdict
wrong_in read = option_and_then (entries_verdict read) read.header

-- whether an entry or `end` was read: then no starting word comes any more
abbrev pub has_begun : Reading → Bool
has_begun read = has_any read.entries || read.ended

-- a judge with no verdict that has followed these entries of what was read, by the rules of the
-- header that was read, which its words show too
pub record IsAt (j : JudgeView) (read : Reading) (log : List Entry) : Type 0 where
  pub charter : option_map built_in read.header ≡ Some j.kept.charter
  pub shows : j.kept.views.shows ≡ by_rules j.kept.charter
  pub followed : HasFollowed j read.starting log
  pub so_far : j.so_far ≡ None
  pub begun : has_begun read ≡ true

-- The judge has followed what was read, and nothing is wrong with it. There is none before an entry
-- or `end` was read.
abbrev pub IsJudging : Option JudgeView → Reading → Type 0
IsJudging None read = (read.entries ≡ []) × (read.ended ≡ false)
IsJudging (Some j) read = IsAt j read read.entries

-- the starting words that were read stand for no state
abbrev pub StandsForNone : Reading → Type 0
StandsForNone read =
    (h : Header) × (read.header ≡ Some h)
    × (is_none (state_at_start (rules_of h) read.starting) ≡ true)

-- The judge that has followed the entries from before. If there is none, no entry came before, and
-- the starting words stand for no state if an entry or `end` was read.
abbrev pub IsBefore : Option JudgeView → Reading → List Entry → Type 0
IsBefore None read log = (log ≡ []) × (has_begun read ≡ true → StandsForNone read)
IsBefore (Some j) read log = IsAt j read log

-- The judge is ready for the last entries of what was read, and for `end` if it was read.
pub record IsReady (judge : Option JudgeView) (read : Reading) (log more : List Entry) (done : Bool)
    : Type 0 where
  pub before : IsBefore judge read log
  pub entries : read.entries ≡ log ++ more
  pub ended : read.ended ≡ done

-- the judge can count further entries
abbrev pub HasRoom : Option JudgeView → List Entry → Type 0
HasRoom None entries = Unit {0}
HasRoom (Some j) entries = j.kept.entries + length entries ≤ 2 ^ 62

-- the judge that was made if the starting words stand for a state: it has followed no entry, and
-- owes the comparison of these words
abbrev pub IsMade : Header → List StartWord → Option JudgeView → Type 0
IsMade h starting None = is_none (state_at_start (rules_of h) starting) ≡ true
IsMade h starting (Some j) = (j.kept.charter ≡ built_in h) × HasFollowed j starting []
    × (j.so_far ≡ None)
    × (j.kept.views.shows ≡ by_rules (built_in h))
    × (judge_debt price_by (λ charter. 2) j [] ≡ start_cost (word_price h) starting)

-- The judge before and after a piece, in which an entry or `end` was read or not: a new one if
-- there was none.
abbrev pub IsBegun
    : Bool → Option Header → List StartWord → Option JudgeView → Option JudgeView → Type 0
IsBegun begun header starting (Some j) after = after ≡ Some j
IsBegun false header starting None after = after ≡ None
IsBegun true None starting None after = after ≡ None
IsBegun true (Some h) starting None after = IsMade h starting after

-- what reads the text and judges its entries
pub record CheckerKept : Type 0 where
  pub reader : ReaderState
  pub judge : Option JudgeView

-- Nothing is wrong with the bytes so far, and what is kept stands for them.
pub record IsUndecided (k : CheckerKept) (bytes : List ℕ) : Type 0 where
  pub read : HasRead k.reader bytes
  pub judging : IsJudging k.judge (read_so_far k.reader.max_lines bytes)
  pub nothing : text_verdict_so_far k.reader.max_lines bytes ≡ None

-- what is kept stands for some bytes
abbrev pub IsSomewhere : CheckerKept → Type 0
IsSomewhere k = ∥ ((bytes : List ℕ) × IsUndecided k bytes) ∥₁

-- what is kept, the verdict that stands, and whether memory was refused
pub record CheckerState : Type 0 where
  pub kept : CheckerKept
  pub so_far : Option Verdict
  pub has_failed : Bool

-- what is kept stands for the bytes, or a verdict stands
abbrev pub FollowsBy : CheckerKept → List ℕ → Option Verdict → Type 0
FollowsBy k bytes None = IsUndecided k bytes
FollowsBy k bytes (Some v) = text_verdict_so_far k.reader.max_lines bytes ≡ Some v

-- The checker has followed these bytes.
pub record HasChecked (c : CheckerState) (bytes : List ℕ) : Type 0 where
  pub follows : FollowsBy c.kept bytes c.so_far

-- what holds of every checker
pub record IsSound (c : CheckerState) : Type 0 where
  pub limit : IsLimit c.kept.reader.max_lines
  pub somewhere : c.has_failed ≡ false → c.so_far ≡ None → IsSomewhere c.kept
