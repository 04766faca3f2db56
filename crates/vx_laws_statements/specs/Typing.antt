-- What SQL names is strictly typed over the table.
use Rattle.std.specs.Prelude.{◌≡◌, true, Option, MatchOption, Ok}
use Rattle.sqlite_ast.specs.declared.Expr.{Expr}
use Rattle.vx_dtype.specs.Types.{Bytes, Ty}
use Rattle.vx_dtype.specs.TypeRules.{no_name_twice}
use Rattle.vx_laws_sql.specs.Operands.{TypedTree, Operand}
use Rattle.vx_laws_sql.specs.Typing.{HasItsType, IsTest, IsTyped}
use Rattle.vx_laws_statements.specs.Expressions.{operand_of, condition_of}
use Rattle.vx_laws_statements.specs.Statements.{Plan, plan_of}

-- what an expression is has its type, where the table has no name twice
abbrev pub ExpressionsAreTyped : Type 0
ExpressionsAreTyped = (t : Ty) (e : Expr) (o : Operand) → no_name_twice t ≡ true → operand_of t e ≡ Ok o → IsTyped t o

-- a condition is of boolean type
abbrev pub ConditionsAreTests : Type 0
ConditionsAreTests = (t : Ty) (e : Expr) (x : TypedTree) → no_name_twice t ≡ true → condition_of t e ≡ Ok x → IsTest t x

-- the condition that rows are taken by is a test, where there is one
abbrev pub FilterIsTest : Ty → Option TypedTree → Type 0
FilterIsTest t filter = MatchOption filter (Unit {0}) (IsTest t)

-- what a statement names: a test, and rows of their type
abbrev pub PlansAreTyped : Type 0
PlansAreTyped =
    (t : Ty) (text : Bytes) (p : Plan) → no_name_twice t ≡ true → plan_of t text ≡ Ok p → FilterIsTest t p.filter × HasItsType t p.rows
