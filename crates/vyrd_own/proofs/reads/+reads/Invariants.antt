use Rattle.std.proofs.Common.{◌+◌, ◌*◌, length}
use Rattle.vyrd_own.proofs.reads.+reads.Given as goal

abbrev pub decreases-put_counted : goal.decreases-put_counted
decreases-put_counted l = 2 * length l.nodes.now + 1

abbrev pub decreases-put_inner : goal.decreases-put_inner
decreases-put_inner l = 2 * length l.nodes.now
