-- What holds between any two events of a schedule: the invariant.
use Rattle.std.specs.Prelude.{◌≡◌, ℕ, ◌<◌, ◌==◌, Bool, true, false, List, [], ◌∷◌, ◌++◌, Some}
use Rattle.std.specs.Prelude.{length, drop, filter_map}
use Rattle.std.specs.List.{list_any}
use Rattle.vyrd_base.specs.declared.log.Entry.{Entry}
use Rattle.vyrd_base.specs.declared.history.Did.{Did}
use Rattle.vyrd_base.specs.declared.history.Stamped.{Stamped}
use Rattle.vyrd_base.specs.Callers.{Called, open_call, holds_word, entries_before_call}
use Rattle.vyrd_base.specs.Amounts.{Amounts}
use Rattle.vyrd_base.specs.Specification.{answer_in}
use Rattle.vyrd_base.specs.Words.{block_writes}
use Rattle.vyrd_base.specs.Commits.{commit_count}
use Rattle.vyrd_base.specs.Front.{WellFormed}
use Rattle.vyrd_base.proofs.HistoryLaws.{log_entry}
use Rattle.vyrd_memory.specs.Alone.{Memory}
use Rattle.vyrd_memory.specs.Scripts.{Script, left_after}
use Rattle.vyrd_memory.specs.Turns.{part_of, script_of}
use Rattle.vyrd_memory.proofs.Situations.{situation_after}
use Rattle.vyrd_every.specs.Structures.{Structure, shown_by}
use Rattle.vyrd_every.specs.Locals.{Locals, Access}
use Rattle.vyrd_every.specs.Others.{Rely}
use Rattle.vyrd_every.specs.RightScripts.{DoesRight}

-- the log of a history; the newest stands first in both
abbrev pub log_in : List Stamped → List Entry
log_in earlier = filter_map log_entry earlier

-- whether a call has this answer in one of the states from this place on
abbrev pub has_answer : List Amounts → ℕ → Called → ℕ → Bool
has_answer states n called reply =
    list_any (λ state. answer_in state called.method called.args == reply) (drop n states)

-- What holds of one caller, after its part of the history: what is left of its script does right,
-- whatever the others do next; its locals are what the log says of it; its open block has written
-- only words whose lock it holds; and the slots that it has reserved are so in the memory.
pub record OfCaller (S : Structure) (script : Script) (part : List Did) (log : List Entry) (c : ℕ)
    (k : Locals) : Type 0 where
  pub right : (now : Memory) → Rely S (situation_after part) k (shown_by log) now
      → DoesRight S (situation_after part) k now (left_after script part)
  pub pending : k.pending ≡ block_writes c log
  pub called : k.called ≡ open_call c log
  pub covers : (w : ℕ) → holds_word c w log ≡ true → Access S (situation_after part) w
  pub reserved : (slot : ℕ) → k.owned slot ≡ true → S.Reserved (shown_by log) slot

-- The log so far is well formed; the above holds of each caller, with its locals; no slot is
-- reserved by two callers; the memory represents the state, and that state was led to by as many
-- commits as the log has; and an observer that has its answer found it in one of the states since
-- its call.
pub record Invariant (S : Structure) (scripts : List Script) (earlier : List Stamped)
    (locals : ℕ → Locals) (passed : List Amounts) (state : Amounts) : Type 0 where
  pub kept : WellFormed S.header (log_in earlier)
  pub each : (c : ℕ) → c < S.header.callers
      → OfCaller S (script_of scripts c) (part_of c earlier) (log_in earlier) c (locals c)
  pub apart : (c d : ℕ) → c < S.header.callers → d < S.header.callers → (c == d) ≡ false
      → (slot : ℕ) → (locals c).owned slot ≡ true → (locals d).owned slot ≡ true → ⊥
  pub means : S.Represents (shown_by (log_in earlier)) state
  pub count : length passed ≡ commit_count (log_in earlier)
  pub seen : (c : ℕ) → c < S.header.callers → (called : Called) → (locals c).called ≡ Some called
      → (reply : ℕ) → (locals c).answered ≡ Some reply
      → has_answer (passed ++ state ∷ []) (commit_count (entries_before_call c (log_in earlier)))
      called reply
      ≡ true
