-- Two tables of two small numbers that agree on the first in the block that a filter keeps, and on nothing else.
use Rattle.std.specs.Prelude.{ℕ, pos, List, [], ◌∷◌, codes, length, map}
use Rattle.vx_dtype.specs.declared.PType.TheVariants.{I8}
use Rattle.vx_dtype.specs.declared.Nullability.TheVariants.{NonNullable}
use Rattle.vx_dtype.specs.declared.Stat.TheVariants.{Max}
use Rattle.vx_dtype.specs.Types.{int_ty, Fields, field}
use Rattle.vx_dtype.specs.Values.{Val, int_val, struct_val, no_members, member}
use Rattle.vx_expr.specs.declared.Operator.TheVariants.{Gt}
use Rattle.vx_expr.specs.Trees.{Tree}
use Rattle.vx_semantics.specs.Tables.{Zones}
use Rattle.vx_worked_examples.specs.Samples.{col, number, ◌⟨◌⟩◌, only, bounds, statistic}

-- the columns
abbrev pub two_columns : Fields
two_columns = field (codes "x") (int_ty I8 NonNullable) (only "y" (int_ty I8 NonNullable))

-- a row
abbrev pub row_of : ℕ → ℕ → Val
row_of x y = struct_val (member (codes "x") (int_val I8 (pos x)) (member (codes "y") (int_val I8 (pos y)) no_members))

-- the blocks of the two tables: of the first the filter keeps none
abbrev pub blocks : List (List Val)
blocks = (row_of 1 1 ∷ row_of 4 2 ∷ []) ∷ (row_of 6 3 ∷ row_of 7 4 ∷ []) ∷ []

abbrev pub other_blocks : List (List Val)
other_blocks = (row_of 2 9 ∷ []) ∷ (row_of 6 8 ∷ row_of 7 7 ∷ []) ∷ []

-- the greatest first number of each block, of both tables
abbrev pub statistics : Zones
statistics = record { columns = two_columns; lengths = map length blocks; stats = statistic ("x" ∷ []) Max (bounds I8 (pos 4 ∷ pos 7 ∷ [])) ∷ [] }

-- the filter
abbrev pub above_five : Tree
above_five = col "x" ⟨ Gt ⟩ number I8 (pos 5)
