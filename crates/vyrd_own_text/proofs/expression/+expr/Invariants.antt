use Rattle.std.proofs.Common.{◌+◌, ◌*◌}
use Rattle.vyrd_own_text.proofs.expression.+expr.Given as goal

abbrev pub decreases-read_expr : goal.decreases-read_expr
decreases-read_expr l = 4 * l.depth

abbrev pub decreases-read_round : goal.decreases-read_round
decreases-read_round l = 4 * l.depth + 3

abbrev pub decreases-read_of_state : goal.decreases-read_of_state
decreases-read_of_state l = 4 * l.depth + 2

abbrev pub decreases-read_one : goal.decreases-read_one
decreases-read_one l = 4 * l.depth + 1

abbrev pub decreases-read_infix : goal.decreases-read_infix
decreases-read_infix l = 4 * l.depth + 1

abbrev pub decreases-read_choice : goal.decreases-read_choice
decreases-read_choice l = 4 * l.depth + 1
