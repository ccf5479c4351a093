use Rattle.vyrd_every.proofs.Trees.Wholes as wholes
use Rattle.vyrd_every.proofs.tree_laws.tree_operations_do_right.Goals as goal

pub returns : goal.returns
returns c = wholes.tree_script_right
