-- What a checker owes for the bytes that it has followed: the part of their cost that isn't paid
-- yet.
use Rattle.std.specs.Prelude.{ℕ, Bool, ◌+◌, List, Option, Some, None, if◌then◌else◌}
use Rattle.vyrd_base.specs.declared.log.Entry.{Entry}
use Rattle.vyrd_base.specs.declared.verdict.Verdict.{Verdict}
use Rattle.vyrd_base.specs.Reading.{Reading}
use Rattle.vyrd_view.specs.Comparing.{price_by}
use Rattle.vyrd_judge.specs.Costs.{log_cost, callers_of, judge_debt}
use Rattle.vyrd_judge.specs.Following.{JudgeView}
use Rattle.vyrd_check.specs.LogReadings.{read_so_far}
use Rattle.vyrd_check.specs.Checking.{CheckerKept, CheckerState}
use Rattle.vyrd_check.specs.Costs.{starting_cost}

-- What is owed for these entries of what was read: by the judge, and before there is one, for the
-- starting words.
abbrev pub judge_owes : Option JudgeView → Reading → List Entry → ℕ
judge_owes None read log = starting_cost read.header read.starting
judge_owes (Some j) read log = judge_debt price_by (λ charter. 2) j log

-- what it costs a judge to follow further entries, and `end` if it was read
abbrev pub following_cost : Option JudgeView → List Entry → Bool → ℕ
following_cost None entries ended = 0
following_cost (Some j) entries ended =
    log_cost price_by (λ charter. 2) j.kept entries + (if ended then callers_of j.kept else 0)

-- what is owed for the bytes by what was kept of them
abbrev pub kept_debt : CheckerKept → List ℕ → ℕ
kept_debt k bytes =
    let read = read_so_far k.reader.max_lines bytes in judge_owes k.judge read read.entries

-- the same once this verdict stands, if there is one: then no byte is looked at any more
abbrev pub debt_after : Option Verdict → CheckerKept → List ℕ → ℕ
debt_after None k bytes = kept_debt k bytes
debt_after (Some v) k bytes = 0

-- what is owed by a checker that has followed these bytes
abbrev pub checker_debt : CheckerState → List ℕ → ℕ
checker_debt c bytes = debt_after c.so_far c.kept bytes
