-- The status tells whether a read or a write has failed. `own` is the status that was made ready.
use Rattle.std.proofs.Common.{◌≡◌, ℕ, ◌≤◌, Bool, false, arith}
use Rattle.std.specs.Prelude.{◌≢◌, ◌⊎◌, ◌==◌}
use Rattle.std.proofs.lemmas.Bool.{ne_eqb}
use Rattle.vyrd_base.specs.declared.verdict.Verdict.{Verdict}
use Rattle.vyrd_base.specs.Devices.{SourceKnown, AfterReads, SinkKnown, AfterWrites}
use Rattle.vyrd_check_command.specs.Outputs.{status_of}

-- no verdict has the status of a failed read
pub verdict_low : (v : Verdict) → status_of v ≤ 2
verdict_low v = grind arith

pub verdict_isnt_four : (status : ℕ) (v : Verdict) → status ≡ status_of v → status ≢ 4
verdict_isnt_four status v is four = omega (arith, is, four, verdict_low v)

-- a status that isn't that of a failed read says that none failed, and one that is that one did
pub none_failed : (status : ℕ) (before after : SourceKnown) → status ≢ 4
    → AfterReads false before after → AfterReads (status == 4) before after
none_failed status before after isnt reads = grind (arith, ne_eqb status 4 isnt)

-- what was read is told by the status in the end, where nothing was written after a failed read
pub reads_told : (status own : ℕ) (before after : SourceKnown) → (status ≡ 5) ⊎ (status ≡ own)
    → (own ≡ 4 → status ≡ own)
    → AfterReads (own == 4) before after → AfterReads (status == 4) before after
reads_told status own before after given silent reads = search arith

-- writes of less than fits
pub writes_within : (failed : Bool) (all text : Type 0) (before after : SinkKnown) → (all → text)
    → AfterWrites failed text before after
    → AfterWrites failed all before after
writes_within failed all text before after fits writes = search arith

-- a status that isn't that of a failed write says that none failed, and one that is that one did
pub none_unwritten : (status : ℕ) (fits : Type 0) (before after : SinkKnown) → status ≢ 5
    → AfterWrites false fits before after
    → AfterWrites (status == 5) fits before after
none_unwritten status fits before after isnt writes = grind (arith, ne_eqb status 5 isnt)

-- a sink that isn't written to
pub unwritten : (status : ℕ) (fits : Type 0) (sink : SinkKnown) → status ≢ 5
    → AfterWrites (status == 5) fits sink sink
unwritten status fits sink isnt = search (none_unwritten, arith)

-- the status of a line that was made ready and written
pub line_status : (status own : ℕ) → (status ≡ 5) ⊎ (status ≡ own) → (own ≤ 2) ⊎ (own ≡ 4)
    ⊎ (own ≡ 6)
    → (status ≤ 2) ⊎ (status ≡ 4) ⊎ (status ≡ 5) ⊎ (status ≡ 6)
line_status status own e2 why = search arith
