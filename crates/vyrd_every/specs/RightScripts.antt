-- Scripts that do right, whatever the others do meanwhile. This is all that a structure's
-- procedures have to show.
use Rattle.std.specs.Prelude.{◌≡◌, ◌⊎◌, ℕ, ◌<◌, true, false, List, Some, None}
use Rattle.vyrd_base.specs.declared.log.Kind.TheVariants.{Call, Return, Write, Commit, BlockCommit}
use Rattle.vyrd_base.specs.Callers.{Called}
use Rattle.vyrd_base.specs.Subjects.{is_observer}
use Rattle.vyrd_base.specs.Amounts.{Amounts}
use Rattle.vyrd_base.specs.Specification.{next_state, answer_in}
use Rattle.vyrd_memory.specs.declared.act.Act.{Act}
use Rattle.vyrd_memory.specs.declared.act.Act.TheVariants.{Load, Store, Take, Give, Mark, Done}
use Rattle.vyrd_memory.specs.declared.op.Op.{Op}
use Rattle.vyrd_memory.specs.Alone.{Memory}
use Rattle.vyrd_memory.specs.Scripts.{Script, stop, step, IsAnswer}
use Rattle.vyrd_memory.specs.Soundness.{Situation, holds, at_rest, just_called, after_act}
use Rattle.vyrd_memory.specs.Turns.{script_of}
use Rattle.vyrd_memory.specs.Runs.{AreSoundScripts}
use Rattle.vyrd_every.specs.Structures.{Structure, Fits}
use Rattle.vyrd_every.specs.Locals.{Locals, empty_locals, Rests, Access, shown_after, pending_after}
use Rattle.vyrd_every.specs.Locals.{called_after, answer_at}
use Rattle.vyrd_every.specs.Others.{Rely, Guarantee}

-- What an act may reach. A load or a store reaches words whose lock is held; a load not within a
-- block, where own writes are hidden. A lock is taken only above all that are held, so that no
-- callers wait for one another in a circle. None is given back in a block.
abbrev pub Reaches : Structure → Situation → Act → Type 0
Reaches S s (Load cell) = Access S s cell × (s.in_block ≡ false)
Reaches S s (Store cell value) = Access S s cell
Reaches S s (Take lock) = (held : ℕ) → holds s held ≡ true → held < lock
Reaches S s (Give lock) = s.in_block ≡ false
Reaches S s (Mark (Write word value)) = ⊥
Reaches S s (Mark kind) = Unit {0}
Reaches S s Done = ⊥

-- the next return in the script has this reply, whatever is loaded before it
abbrev pub WillReturn : ℕ → Script → Type 0
WillReturn reply stop = ⊥
WillReturn reply (step (Mark (Return other)) rest) = other ≡ reply
WillReturn reply (step act rest) =
    (answer : ℕ) → IsAnswer act answer → WillReturn reply (rest answer)

-- A commit leads from this state to another one: by the specification, with the reply that the
-- script will return, and the memory after the commit represents it.
pub record Commits (k : Locals) (S : Structure) (rest : Script) (now : Memory)
    (state : Amounts) : Type 0 where
  pub called : Called
  pub is_called : k.called ≡ Some called
  pub reply : ℕ
  pub returns : WillReturn reply rest
  pub next : Amounts
  pub allowed : next_state called.method called.args reply state ≡ Some next
  pub means : S.Represents now next

-- a commit leads to the next state, and after any other act the memory represents the state as
-- before
abbrev pub Leads : Structure → Locals → Act → Script → Memory → Amounts → Type 0
Leads S k (Mark Commit) rest now state = Commits k S rest now state
Leads S k (Mark BlockCommit) rest now state = Commits k S rest now state
Leads S k _ rest now state = S.Represents now state

-- an observer has its answer now: it is the answer in each state for which the memory may stand
pub record Sees (S : Structure) (k next : Locals) (shown : Memory) : Type 0 where
  pub called : Called
  pub is_called : k.called ≡ Some called
  pub reply : ℕ
  pub answer : next.answered ≡ Some reply
  pub seen : (state : Amounts) → S.Represents shown state
      → answer_in state called.method called.args ≡ reply

-- An observer may find its answer when it gives a lock back. It keeps it until it returns, and
-- returns no other. A call begins without one.
abbrev pub Answers : Structure → Locals → Memory → Act → Locals → Type 0
Answers S k shown (Give lock) next = (next.answered ≡ k.answered) ⊎ Sees S k next shown
Answers S k shown (Mark (Call method args)) next = next.answered ≡ None
Answers S k shown (Mark (Return reply)) next = (next.answered ≡ None)
    × ((called : Called) → k.called ≡ Some called → is_observer called.method ≡ true
    → k.answered ≡ Some reply)
Answers S k shown _ next = next.answered ≡ k.answered

-- An act does right: it reaches what it may, gives the others what it guarantees, keeps the slots
-- that it has reserved or reserves free ones, and leads to the right state. The next locals are
-- those that the caller has then.
pub record ActsRight (S : Structure) (s : Situation) (k : Locals) (shown : Memory) (act : Act)
    (rest : Script) (next : Locals) : Type 0 where
  pub reaches : Reaches S s act
  pub guarantee : Guarantee S s k shown (shown_after s k shown act)
  pub kept : (slot : ℕ) → next.owned slot ≡ true → k.owned slot ≡ true
      → S.Reserved shown slot → S.Reserved (shown_after s k shown act) slot
  pub fresh : (slot : ℕ) → next.owned slot ≡ true → k.owned slot ≡ false
      → S.Free shown slot × S.Reserved (shown_after s k shown act) slot
  pub leads : (state : Amounts) → S.Represents shown state
      → Leads S k act rest (shown_after s k shown act) state
  pub pending : next.pending ≡ pending_after act k.pending
  pub called : next.called ≡ called_after act k.called
  pub answers : Answers S k shown act next

-- A script does right from here on: its next act does, and whatever the others make of the memory
-- then, so does the rest. At its end the caller is at rest.
abbrev pub DoesRight : Structure → Situation → Locals → Memory → Script → Type 0
DoesRight S s k shown stop = Rests s k
DoesRight S s k shown (step act rest) = (next : Locals) × ActsRight S s k shown act (rest 0) next
    × ((now : Memory) → Rely S (after_act s act) next (shown_after s k shown act) now
    → DoesRight S (after_act s act) next now (rest (answer_at shown act)))

-- the procedure of an operation does right, if it was just called and nothing is reserved, from any
-- memory on
abbrev pub IsRight : Structure → (Op → Script) → Op → Type 0
IsRight S procedure op = (k : Locals) (shown : Memory) → ((slot : ℕ) → k.owned slot ≡ false)
    → k.called ≡ Some (record { method = op.method; args = op.args })
    → DoesRight S (just_called op.method) k shown (procedure op)

-- the scripts of all callers are sound and do right from the beginning on
pub record AreRight (S : Structure) (scripts : List Script) : Type 0 where
  pub fits : Fits S
  pub sound : AreSoundScripts S.header scripts
  pub right : (c : ℕ) → c < S.header.callers → (now : Memory)
      → DoesRight S at_rest empty_locals now (script_of scripts c)
