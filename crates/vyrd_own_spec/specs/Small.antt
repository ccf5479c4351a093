-- How much a specification has at most, by the limits of its text.
use Rattle.std.specs.Prelude.{◌≡◌, ℕ, ◌≤◌, length, slice_get, Some}
use Rattle.vyrd_base.specs.Own.Programs.{Method, Written}

pub record IsSmall (w : Written) : Type 0 where
  pub constants : length w.constants ≤ 64
  pub registers : length w.registers ≤ 16
  pub words : w.words ≤ 16
  pub shows : length w.shows ≤ 4
  pub lets : (i : ℕ) (m : Method) → slice_get w.methods i ≡ Some m → length m.lets ≤ 16
