use Rattle.std.proofs.Common.{◌+◌, ◌*◌}
use Rattle.c_consts.proofs.evaluate.+evaluate.Given as goal

abbrev pub decreases-evaluate : goal.decreases-evaluate
decreases-evaluate l = l.node * 8589934592 + 8589934591

abbrev pub decreases-climb : goal.decreases-climb
decreases-climb l = l.node * 8589934592 + l.depth + 2

abbrev pub decreases-finish : goal.decreases-finish
decreases-finish l = l.node * 8589934592 + 1

abbrev pub decreases-finish_operator : goal.decreases-finish_operator
decreases-finish_operator l = l.node * 8589934592

abbrev pub decreases-finish_choice : goal.decreases-finish_choice
decreases-finish_choice l = l.node * 8589934592
