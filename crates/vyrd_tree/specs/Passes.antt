-- What an insert has done before its ascent, and what each round of the ascent does.
use Rattle.std.specs.Prelude.{◌≡◌, ℕ, ◌+◌, true, Some, ◌⊎◌}
use Rattle.vyrd_base.specs.declared.header.Header.{Header}
use Rattle.vyrd_base.specs.declared.subject.Method.TheVariants.{Tree as OfTree}
use Rattle.vyrd_base.specs.declared.tree.TreeMethod.TheVariants.{Insert}
use Rattle.vyrd_base.specs.declared.subject.Args.{Args}
use Rattle.vyrd_base.specs.Amounts.{Amounts}
use Rattle.vyrd_base.specs.Specification.{next_state}
use Rattle.vyrd_memory.specs.declared.op.Variant.TheVariants.{Correct}
use Rattle.vyrd_memory.specs.Scripts.{Script}
use Rattle.vyrd_memory.specs.Alone.{Memory, state_in, alone}
use Rattle.vyrd_tree.specs.Procedures.{insert_then}
use Rattle.vyrd_tree.specs.Procedures.Ascent.{ascend_once}
use Rattle.vyrd_tree.specs.Hanging.{is_hanging}

-- An insert that splits a leaf, played alone, comes to the unlock after its commit with words that
-- represent the next state with the reply 1, and the new leaf hangs. There it goes on with what is
-- given to follow a split, whatever that is: it may read any cell, so no other memory would do.
-- What `insert_entry` gives is the ascent.
pub record SplitsLeaf (h : Header) (c : ℕ) (args : Args) (memory : Memory)
    (state : Amounts) : Type 0 where
  pub key : ℕ
  pub leaf : ℕ
  pub after : Memory
  pub rest : (split : ℕ → ℕ → Script)
      → alone c (insert_then h Correct args.a args.b split) memory ≡ alone c (split key leaf) after
  pub represents : state_in h after ≡ next_state (OfTree Insert) args 1 state
  pub hangs : is_hanging h after 0 key leaf ≡ true

-- What a round goes on with is given: one script for where the ascent stops, and one for where the
-- next round begins. This round, played alone, comes to this memory and goes on with the first,
-- whatever both are.
abbrev pub StopsAt : ℕ → (Script → (ℕ → ℕ → ℕ → Script) → Script) → Memory → Memory → Type 0
StopsAt c round memory after = (stops : Script) (next : ℕ → ℕ → ℕ → Script)
    → alone c (round stops next) memory ≡ alone c stops after

-- It comes to this memory, and the next round begins there, at the next level, with a node that
-- hangs.
pub record GoesOnFrom (h : Header) (c level : ℕ) (round : Script → (ℕ → ℕ → ℕ → Script) → Script)
    (memory after : Memory) : Type 0 where
  pub key : ℕ
  pub node : ℕ
  pub rest : (stops : Script) (next : ℕ → ℕ → ℕ → Script)
      → alone c (round stops next) memory ≡ alone c (next (level + 1) key node) after
  pub hangs : is_hanging h after (level + 1) key node ≡ true

-- A round, played alone, comes to words that represent the same state, and there the ascent stops
-- or the next round begins.
pub record KeepsState (h : Header) (c level key node : ℕ) (memory : Memory)
    (state : Amounts) : Type 0 where
  pub after : Memory
  pub represents : state_in h after ≡ Some state
  pub goes_on : StopsAt c (ascend_once h Correct level key node) memory after
      ⊎ GoesOnFrom h c level (ascend_once h Correct level key node) memory after
