-- What tells that a state shows few keys.
use Rattle.std.specs.Prelude.{◌≤◌, ℕ, List, length}
use Rattle.vyrd_base.specs.declared.log.StartWord.{StartWord}
use Rattle.vyrd_base.specs.Amounts.{IsAmounts}
use Rattle.vyrd_base.specs.Rules.{Rules}
use Rattle.vyrd_base.specs.States.{State}
use Rattle.vyrd_base.specs.Words.{words_with}

-- A state shows no more keys than the words do after some writes: those up to the last commit that
-- is judged, where the two were compared.
pub record ShowsFew (r : Rules) (starting : List StartWord) (state : State) : Type 0 where
  pub writes : List (ℕ × ℕ)
  pub few : length (r.shown state) ≤ length (r.view (words_with r.header starting writes))
  pub formed : IsAmounts state.shown
