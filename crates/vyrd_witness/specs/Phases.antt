-- What is kept of each caller, to find the effects at its next entry.
use Rattle.std.specs.Prelude.{◌≡◌, ◌<◌, ℕ, true, false, List, Some, slice_get}
use Rattle.vyrd_base.specs.declared.header.Header.{Header}
use Rattle.vyrd_base.specs.declared.log.Kind.{Kind}
use Rattle.vyrd_base.specs.declared.log.Kind.TheVariants.{Commit, BlockOpen, BlockClose}
use Rattle.vyrd_base.specs.declared.log.Kind.TheVariants.{BlockCommit}
use Rattle.vyrd_base.specs.declared.log.Entry.{Entry}
use Rattle.vyrd_base.specs.Callers.{has_block, has_inner_commit}
use Rattle.vyrd_witness.specs.declared.phase.Phase.{Phase}

-- whether the caller has an open block after these entries, given the newest first, and whether a
-- lone commit stands in it
abbrev pub phase_of : ℕ → List Entry → Phase
phase_of c earlier = record {
  in_block = has_block c earlier;
  has_commit = has_inner_commit c earlier;
}

-- the phase of an entry's caller after the entry
abbrev pub phase_after : Kind → Phase → Phase
phase_after Commit phase = record { in_block = phase.in_block; has_commit = phase.in_block }
phase_after BlockOpen phase = record { in_block = true; has_commit = false }
phase_after BlockClose phase = record { in_block = false; has_commit = false }
phase_after BlockCommit phase = record { in_block = false; has_commit = false }
phase_after _ phase = phase

-- the list has each caller's phase after these entries
abbrev pub ArePhases : Header → List Phase → List Entry → Type 0
ArePhases h phases earlier =
    (c : ℕ) → c < h.callers → slice_get phases c ≡ Some (phase_of c earlier)
