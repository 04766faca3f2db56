-- The operators on one operand that have no other part.
use Rattle.std.specs.Prelude.{ℕ}
use Rattle.vx_expr.specs.Trees.{Tree, not_of, is_null_of}

-- an operator on one operand
pub data Unary : Type 0 where
  -- true and false exchanged
  negation : Unary
  -- whether a value is null
  null_test : Unary

-- the expression of an operator on an operand
abbrev pub operation : Unary → Tree → Tree
operation negation e = not_of e
operation null_test e = is_null_of e

-- the number of an operator's kind, which a hash takes in
abbrev pub unary_number : Unary → ℕ
unary_number negation = 4
unary_number null_test = 5
