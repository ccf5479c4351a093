use Rattle.vyrd_follow.proofs.KeyLaws.{other_key_stays}
use Rattle.vyrd_follow.proofs.laws.a_step_changes_no_other_key.Goals as goal

pub returns : goal.returns
returns c = other_key_stays
