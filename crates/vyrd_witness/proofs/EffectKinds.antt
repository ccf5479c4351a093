-- The effects at an entry, by its kind and by the phase of its caller.
use Rattle.vyrd_witness.proofs.Prelude.{◌≡◌, ℕ, ◌+◌, true, false, cond, List, [], ◌∷◌, ◌++◌, map}
use Rattle.vyrd_witness.proofs.Prelude.{take, Some, slice_get, ◌⊎◌, inl, inr, option_map_or, Write}
use Rattle.vyrd_witness.proofs.Prelude.{Commit, BlockClose, BlockCommit, Entry, newest_first}
use Rattle.vyrd_witness.proofs.Prelude.{has_block, has_inner_commit, block_writes, writes_ahead}
use Rattle.vyrd_witness.proofs.Prelude.{Effect, Phase, value_at, effect_of, effects_by, phase_of}
use Rattle.vyrd_witness.proofs.Valued.{block_same, inner_commit_same}
use Rattle.vyrd_witness.proofs.NumberedLaws.{behind, ahead, behind_back, value_here}

-- The phase of the entry's caller is that in the numbered log too.
pub record IsPhase (log : List Entry) (at : ℕ) (e : Entry) (phase : Phase) : Type 0 where
  pub block : has_block e.caller (behind log at) ≡ phase.in_block
  pub commit : has_inner_commit e.caller (behind log at) ≡ phase.has_commit

pub is_phase : (log : List Entry) (at : ℕ) (e : Entry) (phase : Phase)
    → phase ≡ phase_of e.caller (newest_first (take at log)) → IsPhase log at e phase
is_phase log at e phase is = record {
  block = cc (block_same (value_at log) e.caller (behind log at), behind_back log at);
  commit = cc (inner_commit_same (value_at log) e.caller (behind log at), behind_back log at);
}

pub write_inside : (log : List Entry) (at word value : ℕ) (e : Entry) (phase : Phase)
    → IsPhase log at e phase → e.kind ≡ Write word value → phase.in_block ≡ true
    → [] ≡ effects_by log at e
write_inside log at word value e phase are is inside = cc (are.block)

pub write_outside : (log : List Entry) (at word value : ℕ) (e : Entry) (phase : Phase)
    → slice_get log at ≡ Some e → IsPhase log at e phase → e.kind ≡ Write word value
    → phase.in_block ≡ false
    → record { written = at; at = at; caller = e.caller; word = word; value = value } ∷ []
    ≡ effects_by log at e
write_outside log at word value e phase here are is outside =
    cc (are.block, value_here log at e here)

pub commit_inside : (log : List Entry) (at : ℕ) (e : Entry) (phase : Phase) (es : List Effect)
    → IsPhase log at e phase → e.kind ≡ Commit → phase.in_block ≡ true
    → es ≡ map (effect_of log at e.caller) (newest_first (option_map_or
    (λ more. more ++ block_writes e.caller (behind log at))
    (writes_ahead e.caller (ahead log (at + 1))) []))
    → es ≡ effects_by log at e
commit_inside log at e phase es are is inside found = cc (are.block)

pub commit_outside : (log : List Entry) (at : ℕ) (e : Entry) (phase : Phase)
    → IsPhase log at e phase → e.kind ≡ Commit → phase.in_block ≡ false
    → [] ≡ effects_by log at e
commit_outside log at e phase are is outside = cc (are.block)

-- the two ends of a block
as_end : (log : List Entry) (at : ℕ) (e : Entry) (phase : Phase) → IsPhase log at e phase
    → (e.kind ≡ BlockClose) ⊎ (e.kind ≡ BlockCommit)
    → effects_by log at e ≡ map (effect_of log at e.caller)
    (newest_first (cond phase.has_commit [] (block_writes e.caller (behind log at))))
as_end log at e phase are (inl is) = cc (are.commit)
as_end log at e phase are (inr is) = cc (are.commit)

pub end_committed : (log : List Entry) (at : ℕ) (e : Entry) (phase : Phase)
    → IsPhase log at e phase → (e.kind ≡ BlockClose) ⊎ (e.kind ≡ BlockCommit)
    → phase.has_commit ≡ true → [] ≡ effects_by log at e
end_committed log at e phase are ends committed = cc (as_end log at e phase are ends)

pub end_alone : (log : List Entry) (at : ℕ) (e : Entry) (phase : Phase) (es : List Effect)
    → IsPhase log at e phase → (e.kind ≡ BlockClose) ⊎ (e.kind ≡ BlockCommit)
    → phase.has_commit ≡ false
    → es ≡ map (effect_of log at e.caller)
    (newest_first (block_writes e.caller (behind log at)))
    → es ≡ effects_by log at e
end_alone log at e phase es are ends alone found = cc (as_end log at e phase are ends)
