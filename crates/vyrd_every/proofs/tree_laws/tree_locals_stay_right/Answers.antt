use Rattle.vyrd_every.proofs.Trees.Others as others
use Rattle.vyrd_every.proofs.tree_laws.tree_locals_stay_right.Goals as goal

pub returns-clause-apart : goal.returns-clause-apart
returns-clause-apart c = others.still_apart_from

pub returns-clause-own : goal.returns-clause-own
returns-clause-own c = others.owns_after

pub returns-clause-other : goal.returns-clause-other
returns-clause-other c = others.still_owns
