-- The line that tells what the scan of the generated table gives.
use Rattle.std.specs.Prelude.{ℕ, pos, ℤ, ◌+ℤ◌, List, [], ◌++◌, length, codes, decimal}
use Rattle.std.specs.List.{fold}
use Rattle.std.specs.Fmt.{signed_decimal}
use Rattle.vx_dtype.specs.Types.{Bytes}
use Rattle.vx_dtype.specs.Values.{Val, int_val}
use Rattle.vx_semantics.specs.Scans.{kept_rows_of, skipped_blocks}
use Rattle.vx_laws_generated.specs.GeneratedTable.{generated_table, generated_zones, generated_filter, generated_projection}

-- the rows that the scan answers, and the blocks that it skips
abbrev pub answered_rows : ℕ → List Val
answered_rows rows = kept_rows_of (generated_table rows) (generated_zones rows) [] (generated_filter rows) generated_projection

abbrev pub skipped_in : ℕ → List ℕ
skipped_in rows = skipped_blocks (generated_zones rows) [] (generated_filter rows)

-- the number that a value is, and the sum of numbers
abbrev pub number_of : Val → ℤ
number_of (int_val p i) = i
number_of _ = pos 0

abbrev pub sum_of : List Val → ℤ
sum_of xs = fold (λ sum x. sum +ℤ number_of x) (pos 0) xs

-- how many blocks there are and how many were skipped, how many rows were answered, and the sum of their values
abbrev pub summary_line : ℕ → ℕ → ℕ → ℤ → Bytes
summary_line blocks skipped rows sum =
    codes "blocks " ++ (decimal blocks ++ (codes " skipped " ++ (decimal skipped ++ (codes " rows " ++ (decimal rows
    ++ (codes " sum " ++ (signed_decimal sum ++ codes "\n")))))))

-- the line of the scan of the table of so many rows
abbrev pub gen_line : ℕ → Bytes
gen_line rows = summary_line (length (generated_zones rows).lengths) (length (skipped_in rows)) (length (answered_rows rows)) (sum_of (answered_rows rows))
