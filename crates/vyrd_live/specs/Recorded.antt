-- What a recording of a run has kept and judged so far.
use Rattle.std.specs.Prelude.{◌≡◌, List}
use Rattle.vyrd_base.specs.declared.history.Stamped.{Stamped}
use Rattle.vyrd_live.specs.declared.recording.Recording.{Recording}
use Rattle.vyrd_verifier.specs.Judging.{HasJudged}

-- these events were judged and are kept
pub record HasRecorded (r : Recording) (history : List Stamped) : Type 0 where
  pub judged : HasJudged r.judge history
  pub kept : r.history.items ≡ history
