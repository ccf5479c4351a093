-- What checking the bytes of a log of any version costs, in steps of the judge: as a log of version
-- 3, if they begin as one does, and as one of versions 1 and 2 otherwise.
use Rattle.std.specs.Prelude.{ℕ, ◌+◌, List, if◌then◌else◌}
use Rattle.vyrd_base.specs.LogVerdicts.{is_own_text}
use Rattle.vyrd_check.specs.Costs as first_costs
use Rattle.vyrd_own_check.specs.Costs as own_costs

-- what the bytes of a log cost, with at most so many lines
abbrev pub bytes_cost : ℕ → List ℕ → ℕ
bytes_cost max bytes = if is_own_text bytes
    then own_costs.bytes_cost max bytes
    else first_costs.bytes_cost max bytes

-- what it costs to say the verdict if the bytes end here
abbrev pub finish_cost : ℕ → List ℕ → ℕ
finish_cost max bytes = if is_own_text bytes
    then own_costs.finish_cost max bytes
    else first_costs.finish_cost max bytes

-- what a whole log costs, with its end
abbrev pub log_cost : ℕ → List ℕ → ℕ
log_cost max bytes = bytes_cost max bytes + finish_cost max bytes
