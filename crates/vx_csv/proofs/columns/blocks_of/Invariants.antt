use Rattle.std.proofs.Common.{◌≡◌, ◌++◌, true, map, length}
use Rattle.csv.specs.Records.{fields_of}
use Rattle.vx_dtype.specs.TypeViews.{type_view}
use Rattle.vx_tables.specs.Blocks.{block_view}
use Rattle.vx_laws_csv.specs.Sheets.{are_texts}
use Rattle.vx_laws_csv.specs.CsvTables.{cut, rows_taken, columns_from}
use Rattle.vx_csv.proofs.columns.blocks_of.Given as goal

abbrev pub decreases-loop-left : goal.decreases-loop-left
decreases-loop-left l = length l.left

-- the blocks so far, before those of the rows that are left
abbrev pub invariant-loop-left : goal.invariant-loop-left
invariant-loop-left l =
    (are_texts (map fields_of l.left) ≡ true)
    × (rows_taken l.fn.null (map type_view l.fn.dtypes) (map fields_of l.left) ≡ true)
    × (map length (cut l.fn.size (map fields_of l.fn.rows)) ≡ l.lengths.items ++ map length (cut l.fn.size (map fields_of l.left)))
    × (map (columns_from l.fn.null 0 (map type_view l.fn.dtypes)) (cut l.fn.size (map fields_of l.fn.rows))
    ≡ map block_view l.columns.items ++ map (columns_from l.fn.null 0 (map type_view l.fn.dtypes)) (cut l.fn.size (map fields_of l.left)))
