use Rattle.vyrd_every.proofs.Trees.Starts as starts
use Rattle.vyrd_every.proofs.tree_laws.tree_begins_linked.Goals as goal

pub returns-clause-linked : goal.returns-clause-linked
returns-clause-linked c = starts.starts_linked

pub returns-clause-empty : goal.returns-clause-empty
returns-clause-empty c = starts.starts_state
