use Rattle.std.proofs.Common.{◌+◌, ◌*◌, length}
use Rattle.vyrd_own.proofs.evaluation.+evaluation.Given as goal

abbrev pub decreases-evaluate_counted : goal.decreases-evaluate_counted
decreases-evaluate_counted g l = 3 * length l.nodes.now

abbrev pub decreases-node_value : goal.decreases-node_value
decreases-node_value g l = 3 * length l.front.now + 2

abbrev pub decreases-earlier : goal.decreases-earlier
decreases-earlier g l = 3 * length l.front.now + 1
