-- What a caller is in the middle of, as one value.
use Rattle.std.specs.Prelude.{ℕ, List, option_map}
use Rattle.vyrd_base.specs.declared.log.Entry.{Entry}
use Rattle.vyrd_base.specs.Callers.{open_call, has_block, has_committed, has_inner_commit}
use Rattle.vyrd_shape.specs.declared.phase.Phase.{Phase}

-- the phase of the caller after these entries, given the newest first
abbrev pub phase_of : ℕ → List Entry → Phase
phase_of c earlier = record {
  open_method = option_map (λ called. called.method) (open_call c earlier);
  committed = has_committed c earlier;
  in_block = has_block c earlier;
  inner = has_inner_commit c earlier;
}
