use Rattle.vyrd_every.proofs.Trees.Parts as parts
use Rattle.vyrd_every.proofs.Trees.Others as others
use Rattle.vyrd_every.proofs.tree_laws.tree_acts_are_relied_on.Goals as goal

pub returns-clause-relied : goal.returns-clause-relied
returns-clause-relied c = others.others_rely

pub returns-clause-one_after_another : goal.returns-clause-one_after_another
returns-clause-one_after_another c = parts.tree_rely_more
