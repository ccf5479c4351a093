-- Scripts of the tree that do right, whatever the others do meanwhile. The memory is the one that
-- callers see.
use Rattle.std.specs.Prelude.{◌≡◌, ◌⊎◌, ℕ, ◌<◌, ◌≤◌, true, false, Some, None}
use Rattle.std.specs.List.{AllByRecursion}
use Rattle.vyrd_base.specs.declared.header.Header.{Header}
use Rattle.vyrd_base.specs.declared.log.Kind.TheVariants.{Call, Return, Write, Commit, BlockCommit}
use Rattle.vyrd_base.specs.Callers.{Called}
use Rattle.vyrd_base.specs.Subjects.{is_observer}
use Rattle.vyrd_base.specs.Amounts.{Amounts}
use Rattle.vyrd_base.specs.Specification.{next_state, answer_in}
use Rattle.vyrd_memory.specs.declared.act.Act.{Act}
use Rattle.vyrd_memory.specs.declared.act.Act.TheVariants.{Load, Store, Take, Give, Mark, Done}
use Rattle.vyrd_memory.specs.Alone.{Memory}
use Rattle.vyrd_memory.specs.Scripts.{Script, stop, step}
use Rattle.vyrd_memory.specs.Soundness.{Situation, holds, after_act}
use Rattle.vyrd_tree.specs.Cells.{root_lock}
use Rattle.vyrd_tree.specs.Contents.{level_at, last_in, root_in}
use Rattle.vyrd_every.specs.Locals.{answer_at, pending_after, called_after}
use Rattle.vyrd_every.specs.RightScripts.{WillReturn}
use Rattle.vyrd_every.specs.Trees.Shapes.{Shape, IsLinked, Hangs}
use Rattle.vyrd_every.specs.Trees.States.{ShowsState}
use Rattle.vyrd_every.specs.Trees.Locals.{TreeLocals, TreeRests, IsWordOf, MayLoad, MayStore}
use Rattle.vyrd_every.specs.Trees.Seen.{seen_after, out_after}
use Rattle.vyrd_every.specs.Trees.Others.{Grows, TreeRely, TreeLeaves}

-- What an act may reach. A load is not within a block, where own writes are hidden. A lock is taken
-- only above all that are held, so that no callers wait for one another in a circle. None is given
-- back in a block.
abbrev pub TreeReaches : Header → Situation → TreeLocals → Shape → Memory → Act → Type 0
TreeReaches h s k g m (Load cell) = MayLoad h s g cell × (s.in_block ≡ false)
TreeReaches h s k g m (Store cell value) = MayStore h s k g m cell
TreeReaches h s k g m (Take lock) = (held : ℕ) → holds s held ≡ true → held < lock
TreeReaches h s k g m (Give lock) = s.in_block ≡ false
TreeReaches h s k g m (Mark (Write word value)) = ⊥
TreeReaches h s k g m (Mark kind) = Unit {0}
TreeReaches h s k g m Done = ⊥

-- A commit leads from this state to another one: by the specification, with the reply that the
-- script will return, and the memory after the commit shows it.
pub record TreeCommits (k : TreeLocals) (rest : Script) (g' : Shape) (m' : Memory)
    (state : Amounts) : Type 0 where
  pub called : Called
  pub is_called : k.called ≡ Some called
  pub reply : ℕ
  pub returns : WillReturn reply rest
  pub next : Amounts
  pub allowed : next_state called.method called.args reply state ≡ Some next
  pub means : ShowsState g' m' next

-- a commit leads to the next state, and after any other act the memory shows the state as before
abbrev pub TreeLeads : TreeLocals → Act → Script → Shape → Memory → Amounts → Type 0
TreeLeads k (Mark Commit) rest g' m' state = TreeCommits k rest g' m' state
TreeLeads k (Mark BlockCommit) rest g' m' state = TreeCommits k rest g' m' state
TreeLeads k _ rest g' m' state = ShowsState g' m' state

-- an observer has its answer now: it is the answer in each state that the memory may show
pub record TreeSees (k next : TreeLocals) (g : Shape) (m : Memory) : Type 0 where
  pub called : Called
  pub is_called : k.called ≡ Some called
  pub reply : ℕ
  pub answer : next.answered ≡ Some reply
  pub seen : (state : Amounts) → ShowsState g m state
      → answer_in state called.method called.args ≡ reply

-- An observer may find its answer when it gives a lock back. It keeps it until it returns, and
-- returns no other. A call begins without one.
abbrev pub TreeAnswers : TreeLocals → Shape → Memory → Act → TreeLocals → Type 0
TreeAnswers k g m (Give lock) next = (next.answered ≡ k.answered) ⊎ TreeSees k next g m
TreeAnswers k g m (Mark (Call method args)) next = next.answered ≡ None
TreeAnswers k g m (Mark (Return reply)) next = (next.answered ≡ None)
    × ((called : Called) → k.called ≡ Some called → is_observer called.method ≡ true
    → k.answered ≡ Some reply)
TreeAnswers k g m _ next = next.answered ≡ k.answered

-- An act does right: it reaches what it may, undoes nothing that stays true for good, leaves alone
-- what others rely on, keeps the tree, and leads to the right state. The next locals are those that
-- the caller has then, and the next shape that of the tree.
pub record TreeDoes (h : Header) (s : Situation) (k : TreeLocals) (g : Shape) (m : Memory)
    (act : Act) (rest : Script) (next : TreeLocals) (g' : Shape) : Type 0 where
  pub reaches : TreeReaches h s k g m act
  pub grows : Grows g m g' (seen_after h s k m act)
  pub leaves : TreeLeaves h s k g m g' (seen_after h s k m act)
  pub tree : IsLinked h.size g' (seen_after h s k m act)
  -- if no block's writes are seen before it ends, callers see the root that the log shows, before
  -- the act and after it
  pub top : k.out ≡ false → g.top ≡ level_at m (root_in h.size m) → next.out ≡ false
      → g'.top ≡ level_at (seen_after h s k m act) (root_in h.size (seen_after h s k m act))
  -- if the caller's block was seen and ends, the log shows the new root
  pub closed : k.out ≡ true → next.out ≡ false
      → g'.top ≡ level_at (seen_after h s k m act) (root_in h.size (seen_after h s k m act))
  -- its writes are seen before the end only in a block, and while the caller holds the root's lock
  pub alone : next.out ≡ true → (holds s (root_lock h) ≡ true) × (s.in_block ≡ true)
  -- when they come to be seen, the node that was taken is the root, and above the one that the log
  -- shows
  pub ahead : k.out ≡ false → next.out ≡ true
      → (k.fresh ≡ Some (root_in h.size (seen_after h s k m act)))
      × (g'.top < level_at (seen_after h s k m act) (root_in h.size (seen_after h s k m act)))
  -- and its block has written words of that node alone
  pub wrote : k.out ≡ false → next.out ≡ true
      → AllByRecursion (λ write. IsWordOf (root_in h.size (seen_after h s k m act)) write.0)
      k.pending
  -- in a block the shape and the node that was taken stay as they are, until the block's writes are
  -- seen
  pub within : s.in_block ≡ true → (after_act s act).in_block ≡ true → next.out ≡ k.out
      → (g' ≡ g) × (next.fresh ≡ k.fresh)
  -- the node that is taken isn't linked, and was the caller's already, or not in use
  pub taken : (n : ℕ) → next.fresh ≡ Some n
      → (g'.linked n ≡ false) × (n ≤ last_in h.size (seen_after h s k m act))
      × ((k.fresh ≡ Some n) ⊎ (last_in h.size m < n))
  -- the node that hangs is linked, and hung for the caller already, or wasn't linked
  pub hung : (n : ℕ) → next.hanging ≡ Some n
      → (g'.linked n ≡ true) × Hangs g' (seen_after h s k m act) n
      × ((k.hanging ≡ Some n) ⊎ (g.linked n ≡ false))
  pub leads : (state : Amounts) → ShowsState g m state
      → TreeLeads k act rest g' (seen_after h s k m act) state
  pub pending : next.pending ≡ pending_after act k.pending
  pub out : next.out ≡ out_after h s act k.out
  pub called : next.called ≡ called_after act k.called
  pub answers : TreeAnswers k g m act next

-- A script does right from here on: its next act does, and whatever the others make of the tree
-- then, so does the rest. At its end the caller is at rest.
abbrev pub TreeRight : Header → Situation → TreeLocals → Shape → Memory → Script → Type 0
TreeRight h s k g m stop = TreeRests s k
TreeRight h s k g m (step act rest) =
    (next : TreeLocals) × (grown : Shape) × TreeDoes h s k g m act (rest 0) next grown
    × ((g' : Shape) → (now : Memory)
    → TreeRely h (after_act s act) next grown (seen_after h s k m act) g' now
    → TreeRight h (after_act s act) next g' now (rest (answer_at m act)))
