-- For the checker: no public clause cites this. How columns and their numbers are seen.
use Rattle.std.specs.Prelude.{ℕ, ℤ, pos, List, map, Option, option_map}
use Rattle.vx_laws_generated.specs.GeneratedTable.{GeneratedColumn, id_column, v_column}
use Rattle.vx_generated.specs.declared.numbers.Column.{Column}
use Rattle.vx_generated.specs.declared.numbers.Column.TheVariants.{Id, V}

-- the column that a value of the code stands for
abbrev pub column_view : Column → GeneratedColumn
column_view Id = id_column
column_view V = v_column

-- numbers as integers, none where there is none
abbrev pub integers_of : List (Option ℕ) → List (Option ℤ)
integers_of ns = map (option_map pos) ns
