-- The locals of a caller, and what one of its acts makes of them and of the memory that the log
-- shows.
--
-- The locks that it holds, and whether a block of its own is open, are its `Situation` already
-- (vyrd_memory/specs/Soundness). Its locals are what the proof keeps beside it:
-- what is local to the caller, as no other one changes it.
use Rattle.std.specs.Prelude.{◌≡◌, ℕ, ◌<◌, Bool, true, false, List, [], ◌∷◌, Option, Some, None}
use Rattle.std.specs.Prelude.{if◌then◌else◌}
use Rattle.vyrd_base.specs.declared.log.Kind.TheVariants.{Call, Return, BlockClose, BlockCommit}
use Rattle.vyrd_base.specs.Callers.{Called}
use Rattle.vyrd_base.specs.Words.{with_write}
use Rattle.vyrd_memory.specs.declared.act.Act.{Act}
use Rattle.vyrd_memory.specs.declared.act.Act.TheVariants.{Load, Store, Mark}
use Rattle.vyrd_memory.specs.Alone.{Memory, with_cell}
use Rattle.vyrd_memory.specs.Soundness.{Situation, holds, at_rest}
use Rattle.vyrd_every.specs.Structures.{Structure}

-- the slots that the caller has reserved, what it wrote since its last open, the call of its open
-- execution, and, for an observer that has seen enough, the answer
pub record Locals : Type 0 where
  pub owned : ℕ → Bool
  pub pending : List (ℕ × ℕ)
  pub called : Option Called
  pub answered : Option ℕ

-- the locals of a caller before its first operation
abbrev pub empty_locals : Locals
empty_locals = record { owned = λ slot. false; pending = []; called = None; answered = None }

-- the caller is between two operations: it holds no lock, has reserved nothing, and has no call
-- open
pub record Rests (s : Situation) (k : Locals) : Type 0 where
  pub rests : s ≡ at_rest
  pub owned : (slot : ℕ) → k.owned slot ≡ false
  pub called : k.called ≡ None

-- the cell is a guarded word, and the caller holds its lock
pub record Access (S : Structure) (s : Situation) (cell : ℕ) : Type 0 where
  pub low : cell < S.words
  pub held : holds s (S.guard cell) ≡ true

-- the memory with these writes, the newest first
abbrev pub written : List (ℕ × ℕ) → Memory → Memory
written [] shown = shown
written (w ∷ ws) shown = with_cell (written ws shown) w.0 w.1

-- What an act makes of the memory that the log shows. A store shows at once, but not in a block:
-- its writes show when it ends.
abbrev pub shown_after : Situation → Locals → Memory → Act → Memory
shown_after s k shown (Store cell value) = if s.in_block then shown else with_cell shown cell value
shown_after s k shown (Mark BlockClose) = written k.pending shown
shown_after s k shown (Mark BlockCommit) = written k.pending shown
shown_after s k shown _ = shown

-- what an act makes of the writes since the last open
abbrev pub pending_after : Act → List (ℕ × ℕ) → List (ℕ × ℕ)
pending_after (Store cell value) pending = (cell, value) ∷ pending
pending_after (Mark kind) pending = with_write true kind pending
pending_after _ pending = pending

-- what an act makes of the open call
abbrev pub called_after : Act → Option Called → Option Called
called_after (Mark (Call method args)) called = Some (record { method = method; args = args })
called_after (Mark (Return reply)) called = None
called_after _ called = called

-- a load finds what the log shows, and any other act is answered by 0
abbrev pub answer_at : Memory → Act → ℕ
answer_at shown (Load cell) = shown cell
answer_at shown _ = 0
