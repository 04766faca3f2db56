-- Tables and answers for the examples of the first rows by a key.
use Rattle.std.specs.Prelude.{ℕ, pos, Bool, true, List, [], ◌∷◌, codes}
use Prim.Native.String.{String}
use Rattle.vx_dtype.specs.declared.PType.TheVariants.{I32, I64}
use Rattle.vx_dtype.specs.declared.Nullability.TheVariants.{NonNullable}
use Rattle.vx_dtype.specs.Types.{Ty, int_ty, field}
use Rattle.vx_dtype.specs.Values.{Val}
use Rattle.vx_semantics.specs.Tables.{Table, Zones}
use Rattle.vx_laws_topk.specs.TopRows.{TopAsk, top_rows_of, top_skipped}
use Rattle.vx_worked_examples.specs.Samples.{boolean, col, number_table, only, row_of_two}

-- the first rows by the column `x`, of what this column holds
abbrev pub first_of_x : String → Ty → Bool → ℕ → TopAsk
first_of_x shown t descending count =
    record { filter_expr = boolean true; projection = col shown; key = codes "x"; key_type = t; descending = descending; count = count }

-- the rows of the answer, and the skipped blocks
abbrev pub top_answer : TopAsk → Table → Zones → List Val × List ℕ
top_answer ask table zones = (top_rows_of ask table zones, top_skipped ask table zones)

-- a table of five numbers in three blocks
abbrev pub five_numbers : Table
five_numbers = number_table I64 "x" ((pos 5 ∷ pos 1 ∷ []) ∷ (pos 7 ∷ pos 9 ∷ []) ∷ (pos 3 ∷ []) ∷ [])

-- a table of three rows in two blocks whose `x` is one, and whose `y` tells them apart
abbrev pub three_ones : Table
three_ones = record {
  columns = field (codes "x") (int_ty I32 NonNullable) (only "y" (int_ty I32 NonNullable));
  blocks = (row_of_two "x" (pos 1) "y" (pos 10) ∷ row_of_two "x" (pos 1) "y" (pos 20) ∷ []) ∷ (row_of_two "x" (pos 1) "y" (pos 30) ∷ []) ∷ [];
}
