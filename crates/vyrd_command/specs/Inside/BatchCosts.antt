-- What `batch` costs besides reading, and besides judging its logs: a round is made each time that
-- enough bytes have come, and steps are counted as `vyrd_batch` counts them.
use Rattle.std.specs.Prelude.{◌≡◌, ◌≤◌, ◌+◌, ◌*◌, ℕ, List, ◌++◌, length}
use Rattle.vyrd_base.specs.Devices.{SourceKnown}
use Rattle.vyrd_batch.specs.LongBatches.{longest_batch_input}
use Rattle.vyrd_batch.specs.Rounds.{BatchView, IsSpent}
use Rattle.vyrd_check_command.specs.Inputs.{IsTaken}

-- how many bytes come at least between two rounds, except before the last one
abbrev pub round_bytes : ℕ
round_bytes = 1048576

-- The most steps for so many bytes. A round takes 3 for each byte that came, and 32. In each round
-- except the last so many bytes come that 4 for each pay for both. The last takes 32 more.
abbrev pub batch_cost : ℕ → ℕ
batch_cost bytes = 4 * bytes + 32

-- So many bytes came since the last round, behind those that it left. Another round is made once
-- there are `next` bytes.
pub record IsSinceRound (judge : BatchView) (bytes : List ℕ) (next count : ℕ) : Type 0 where
  pub left : List ℕ
  pub fresh : List ℕ
  pub bytes_are : bytes ≡ left ++ fresh
  pub spent : IsSpent judge left
  pub many : length fresh ≡ count
  pub late : length left + round_bytes ≤ next

-- The steps so far are within 4 for each byte, and those that came since the last round pay for
-- steps that are still to come.
abbrev pub IsPaidRound : (judge : BatchView) → (bytes : List ℕ) → (next old new count : ℕ) → Type 0
IsPaidRound judge bytes next old new count =
    (more : ℕ) × IsSinceRound judge bytes next more × (new + 4 * more ≤ old + 4 * count)

-- A source was read as far as it is. The steps so far are within what the bytes cost that came
-- before the last round.
pub record IsReadFor (before after : SourceKnown) (judge : BatchView) (rest : List ℕ)
    (old new : ℕ) : Type 0 where
  pub taken : List ℕ
  pub told : IsTaken before.rest taken after.rest
  pub few : length taken ≤ longest_batch_input
  pub left : List ℕ
  pub fresh : List ℕ
  pub rest_is : rest ≡ left ++ fresh
  pub spent : IsSpent judge left
  pub steps : new + 4 * length fresh ≤ old + 4 * length taken

-- At most as many bytes were taken of a source as are read at most, if they are told, and the steps
-- are within what they cost.
abbrev pub IsTakenFor : (old new : ℕ) → SourceKnown → SourceKnown → Type 0
IsTakenFor old new before after =
    (taken : List ℕ) × IsTaken before.rest taken after.rest
    × (length taken ≤ longest_batch_input) × (new ≤ old + batch_cost (length taken))
