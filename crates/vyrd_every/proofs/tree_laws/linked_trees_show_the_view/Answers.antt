use Rattle.vyrd_every.proofs.Trees.Views as views
use Rattle.vyrd_every.proofs.tree_laws.linked_trees_show_the_view.Goals as goal

pub returns : goal.returns
returns c = views.view_is
