-- Operands joined by one operator.
use Rattle.std.specs.Prelude.{List, [], ◌∷◌, Option, Some, None}
use Rattle.vx_expr.specs.declared.Operator.{Operator}
use Rattle.vx_expr.specs.Trees.{Tree, binary}

-- an operand before others, nested to the right
abbrev pub joined_before : Operator → Tree → List Tree → Tree
joined_before op e [] = e
joined_before op e (d ∷ ds) = binary e op (joined_before op d ds)

-- the operands nested to the right, none where there are none
abbrev pub joined_right : Operator → List Tree → Option Tree
joined_right op [] = None
joined_right op (e ∷ es) = Some (joined_before op e es)

-- an operand and those after it, nested to the left
abbrev pub joined_after : Operator → Tree → List Tree → Tree
joined_after op e [] = e
joined_after op e (d ∷ ds) = joined_after op (binary e op d) ds

-- the operands nested to the left, none where there are none
abbrev pub joined_left : Operator → List Tree → Option Tree
joined_left op [] = None
joined_left op (e ∷ es) = Some (joined_after op e es)
