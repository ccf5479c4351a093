-- What a checker owes for the bytes that it has followed: the part of their cost that isn't paid
-- yet.
use Rattle.std.specs.Prelude.{ℕ, Bool, ◌+◌, List, Option, Some, None, if◌then◌else◌}
use Rattle.vyrd_base.specs.declared.log.Entry.{Entry}
use Rattle.vyrd_base.specs.declared.verdict.Verdict.{Verdict}
use Rattle.vyrd_view.specs.Known.{Shows}
use Rattle.vyrd_judge.specs.Costs.{judge_debt, log_cost, callers_of}
use Rattle.vyrd_judge.specs.Following.{JudgeView}
use Rattle.vyrd_own_spec.specs.Effects.{most_touched}
use Rattle.vyrd_own_check.specs.LogReadings.{read_so_far}
use Rattle.vyrd_own_check.specs.Checking.{OwnCheckerKept, CheckerState, limit_of}
use Rattle.vyrd_own_check.specs.Costs.{word_price}

-- the price of a word, whatever the words show
abbrev pub price_by : Shows → ℕ → ℕ
price_by shows = word_price

-- what is owed by the judge for these entries; before there is one, nothing
abbrev pub judge_owes : Option JudgeView → List Entry → ℕ
judge_owes None log = 0
judge_owes (Some j) log = judge_debt price_by most_touched j log

-- what it costs a judge to follow further entries, and `end` if it was read
abbrev pub following_cost : Option JudgeView → List Entry → Bool → ℕ
following_cost None entries ended = 0
following_cost (Some j) entries ended =
    log_cost price_by most_touched j.kept entries + (if ended then callers_of j.kept else 0)

-- what is owed for the bytes by what was kept of them
abbrev pub kept_debt : OwnCheckerKept → List ℕ → ℕ
kept_debt k bytes = judge_owes k.judge (read_so_far (limit_of k) bytes).entries

-- the same once this verdict stands, if there is one: then no byte is looked at any more
abbrev pub debt_after : Option Verdict → OwnCheckerKept → List ℕ → ℕ
debt_after None k bytes = kept_debt k bytes
debt_after (Some v) k bytes = 0

-- what is owed by a checker that has followed these bytes
abbrev pub checker_debt : CheckerState → List ℕ → ℕ
checker_debt c bytes = debt_after c.so_far c.kept bytes
