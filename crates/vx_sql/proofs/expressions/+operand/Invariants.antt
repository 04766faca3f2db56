use Rattle.std.proofs.Common.{◌+◌, ◌*◌}
use Rattle.vx_sql.proofs.expressions.+operand.Given as goal

-- an expression is one more than what is read below it
abbrev pub decreases-operand_within : goal.decreases-operand_within
decreases-operand_within l = 4 * l.levels

abbrev pub decreases-opened : goal.decreases-opened
decreases-opened l = 4 * l.levels + 3

abbrev pub decreases-prefixed : goal.decreases-prefixed
decreases-prefixed l = 4 * l.levels + 2

abbrev pub decreases-signed : goal.decreases-signed
decreases-signed l = 4 * l.levels + 1

abbrev pub decreases-operation : goal.decreases-operation
decreases-operation l = 4 * l.levels + 1

abbrev pub decreases-in_range : goal.decreases-in_range
decreases-in_range l = 4 * l.levels + 1

abbrev pub decreases-in_list : goal.decreases-in_list
decreases-in_list l = 4 * l.levels + 1

abbrev pub decreases-in_type : goal.decreases-in_type
decreases-in_type l = 4 * l.levels + 1
