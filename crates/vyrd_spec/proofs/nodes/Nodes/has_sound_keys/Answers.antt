use Rattle.std.proofs.Common.{arith}
use Rattle.vyrd_spec.proofs.NodeLaws.{keys_fail, keys_pass}
use Rattle.vyrd_spec.proofs.RowLaws.{passes_more}
use Rattle.vyrd_spec.proofs.nodes.Nodes.has_sound_keys.Goals as goal

pub returns-then-not-is_sound_key : goal.returns-then-not-is_sound_key
returns-then-not-is_sound_key = grind (arith, keys_fail)

pub loop-place-preserved : goal.loop-place-preserved
loop-place-preserved = grind (arith, passes_more)

pub returns : goal.returns
returns = grind (arith, keys_pass)
