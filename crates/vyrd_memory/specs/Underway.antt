-- An operation under way, which began with the mark of its call and isn't over.
use Rattle.std.specs.Prelude.{◌≡◌, ℕ, true, is_some}
use Rattle.vyrd_base.specs.declared.header.Header.{Header}
use Rattle.vyrd_memory.specs.Scripts.{Script}
use Rattle.vyrd_memory.specs.Soundness.{Situation, IsSound}
use Rattle.vyrd_memory.specs.Bounds.{EndsByReturn}

-- what is left of its procedure is sound, and ends by its return within n acts
pub record IsUnderway (h : Header) (n : ℕ) (script : Script) : Type 0 where
  pub situation : Situation
  pub called : is_some situation.called ≡ true
  pub sound : IsSound h situation script
  pub ends : EndsByReturn n script
