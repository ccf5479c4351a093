use Rattle.vyrd_work.proofs.SoundScripts.{scripts_sound}
use Rattle.vyrd_work.proofs.laws.scripts_are_sound.Goals as goal

pub returns : goal.returns
returns c = scripts_sound
