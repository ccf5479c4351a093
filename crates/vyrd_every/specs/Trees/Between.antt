-- What holds between any two events of a schedule of the tree: the invariant.
use Rattle.std.specs.Prelude.{◌≡◌, ◌⊎◌, ℕ, ◌<◌, ◌==◌, true, false, List, [], ◌∷◌, ◌++◌, Some}
use Rattle.std.specs.Prelude.{length}
use Rattle.vyrd_base.specs.declared.header.Header.{Header}
use Rattle.vyrd_base.specs.declared.log.Entry.{Entry}
use Rattle.vyrd_base.specs.declared.history.Did.{Did}
use Rattle.vyrd_base.specs.declared.history.Stamped.{Stamped}
use Rattle.vyrd_base.specs.Callers.{Called, open_call, holds_word, entries_before_call}
use Rattle.vyrd_base.specs.Amounts.{Amounts}
use Rattle.vyrd_base.specs.Words.{block_writes}
use Rattle.vyrd_base.specs.Commits.{commit_count}
use Rattle.vyrd_base.specs.Front.{WellFormed}
use Rattle.vyrd_memory.specs.Alone.{Memory}
use Rattle.vyrd_memory.specs.Scripts.{Script, left_after}
use Rattle.vyrd_memory.specs.Soundness.{Situation, holds}
use Rattle.vyrd_memory.specs.Turns.{part_of, script_of}
use Rattle.vyrd_memory.proofs.Situations.{situation_after}
use Rattle.vyrd_tree.specs.Cells.{root_cell, root_lock}
use Rattle.vyrd_tree.specs.Contents.{level_at, root_in}
use Rattle.vyrd_every.specs.Structures.{shown_by}
use Rattle.vyrd_every.specs.Locals.{written}
use Rattle.vyrd_every.specs.Between.{log_in, has_answer}
use Rattle.vyrd_every.specs.Trees.Shapes.{Shape, IsLinked}
use Rattle.vyrd_every.specs.Trees.States.{ShowsState}
use Rattle.vyrd_every.specs.Trees.Locals.{TreeLocals, Owns, AreApart, IsWordOf, InNode}
use Rattle.vyrd_every.specs.Trees.Others.{TreeRely}
use Rattle.vyrd_every.specs.Trees.RightScripts.{TreeRight}

-- A word that a caller's open block may have written: until its writes are seen, a word of a node
-- that the caller may store; and then the root's word, or one of the new root's.
abbrev pub MayHold : Header → Situation → TreeLocals → Shape → Memory → ℕ → Type 0
MayHold h s k g m cell = ((k.out ≡ false) × InNode h s k g m cell)
    ⊎ ((k.out ≡ true) × ((cell ≡ root_cell h) ⊎ IsWordOf (root_in h.size m) cell))

-- What holds of one caller, after its part of the history: what is left of its script does right,
-- whatever the others do next; its locals are what the log says of it, and are right; its open
-- block has written only such words; and if its block's writes are seen before its end, it holds
-- the root's lock, and the root is above the one that the log shows.
pub record OfTreeCaller (h : Header) (script : Script) (part : List Did) (log : List Entry) (c : ℕ)
    (k : TreeLocals) (g : Shape) (m : Memory) : Type 0 where
  pub right : (g' : Shape) (now : Memory) → TreeRely h (situation_after part) k g m g' now
      → TreeRight h (situation_after part) k g' now (left_after script part)
  pub pending : k.pending ≡ block_writes c log
  pub called : k.called ≡ open_call c log
  pub covers : (w : ℕ) → holds_word c w log ≡ true → MayHold h (situation_after part) k g m w
  pub owns : Owns h k g m
  pub alone : k.out ≡ true
      → (holds (situation_after part) (root_lock h) ≡ true)
      × ((situation_after part).in_block ≡ true)
  pub ahead : k.out ≡ true → g.top < level_at m (root_in h.size m)

-- no block's writes are seen before its end: callers see what the log shows
pub record NoneOut (h : Header) (locals : ℕ → TreeLocals) (g : Shape)
    (m shown : Memory) : Type 0 where
  pub quiet : (c : ℕ) → c < h.callers → (locals c).out ≡ false
  pub same : m ≡ shown
  pub calm : g.top ≡ level_at m (root_in h.size m)

-- one caller's are, and no other's: callers see these writes besides
pub record OneOut (h : Header) (locals : ℕ → TreeLocals) (m shown : Memory) : Type 0 where
  pub who : ℕ
  pub low : who < h.callers
  pub out : (locals who).out ≡ true
  pub others : (c : ℕ) → c < h.callers → (who == c) ≡ false → (locals c).out ≡ false
  pub same : m ≡ written (locals who).pending shown

-- The log so far is well formed; the memory that callers see holds a linked tree; the above holds
-- of each caller, with its locals; no node is in two callers' locals; callers see what the log
-- shows, or one block's writes besides; the tree shows the state, and that state was led to by as
-- many commits as the log has; and an observer that has its answer found it in one of the states
-- since its call.
pub record TreeInvariant (h : Header) (scripts : List Script) (earlier : List Stamped)
    (locals : ℕ → TreeLocals) (g : Shape) (m : Memory) (passed : List Amounts)
    (state : Amounts) : Type 0 where
  pub kept : WellFormed h (log_in earlier)
  pub tree : IsLinked h.size g m
  pub each : (c : ℕ) → c < h.callers
      → OfTreeCaller h (script_of scripts c) (part_of c earlier) (log_in earlier) c (locals c) g m
  pub apart : (c d : ℕ) → c < h.callers → d < h.callers → (c == d) ≡ false
      → AreApart (locals c) (locals d)
  pub ties : NoneOut h locals g m (shown_by (log_in earlier))
      ⊎ OneOut h locals m (shown_by (log_in earlier))
  pub shows : ShowsState g m state
  pub count : length passed ≡ commit_count (log_in earlier)
  pub seen : (c : ℕ) → c < h.callers → (called : Called) → (locals c).called ≡ Some called
      → (reply : ℕ) → (locals c).answered ≡ Some reply
      → has_answer (passed ++ state ∷ []) (commit_count (entries_before_call c (log_in earlier)))
      called reply
      ≡ true
