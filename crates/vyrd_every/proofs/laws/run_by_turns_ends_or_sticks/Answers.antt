use Rattle.vyrd_every.proofs.Ending.{run_ends_or_sticks}
use Rattle.vyrd_every.proofs.laws.run_by_turns_ends_or_sticks.Goals as goal

pub returns : goal.returns
returns c = λ scripts turns. ∣ run_ends_or_sticks scripts turns ∣₁
