-- What holds of the generated table, whatever its number of rows: its statistics and its blocks are a table's, its expressions are typed, no phase of
-- its scan breaks, and what the scan answers in plain numbers.
use Rattle.std.specs.Prelude.{◌≡◌, ℕ, ◌+◌, ◌/◌, ◌^◌, ◌<◌, nat_lt, nat_le, pos, Bool, true, false, ◌&&◌, ◌||◌, List, [], map, length, Option, Some, None, Ok}
use Rattle.std.specs.List.{range_with_len, flat_map, filter, sum}
use Rattle.vx_dtype.specs.declared.PType.TheVariants.{I64}
use Rattle.vx_dtype.specs.declared.Nullability.TheVariants.{NonNullable, Nullable}
use Rattle.vx_dtype.specs.Types.{bool_ty, int_ty}
use Rattle.vx_dtype.specs.Values.{int_val}
use Rattle.vx_semantics.specs.Typing.{typed_of}
use Rattle.vx_semantics.specs.Tables.{row_type}
use Rattle.vx_semantics.specs.Honest.{IsHonest}
use Rattle.vx_semantics.specs.Scans.{rows_of, some_phase_breaks}
use Rattle.vx_zones.specs.Zoning.{broken_rule, values_fit}
use Rattle.vx_laws_scan.specs.Agreeing.{all_rows_fit}
use Rattle.vx_laws_generated.specs.GeneratedTable.{id_column, v_column, number_at, numbers_in, block_numbers, rows_in, least_of, greatest_of}
use Rattle.vx_laws_generated.specs.GeneratedTable.{generated_columns, generated_table, generated_zones, generated_filter, generated_projection}
use Rattle.vx_laws_generated.specs.GeneratedLine.{answered_rows, skipped_in, summary_line, gen_line}

-- the blocks hold the rows from 0 on, in order, each once
abbrev pub BlocksHoldAllRows : Type 0
BlocksHoldAllRows = (rows : ℕ) → flat_map (rows_in rows) (block_numbers rows) ≡ range_with_len 0 rows

-- the statistics break no rule of zones, and each of their values is one of its type
pub record IsLawful (rows : ℕ) : Type 0 where
  pub lawful : broken_rule (generated_zones rows) ≡ None
  pub fitting : values_fit (generated_zones rows) ≡ true

abbrev pub GeneratedZonesAreLawful : Type 0
GeneratedZonesAreLawful = (rows : ℕ) → rows < 2 ^ 32 → IsLawful rows

-- the blocks have as many rows as the statistics say, and each row is one of the table's type
pub record HasFittingBlocks (rows : ℕ) : Type 0 where
  pub long : map length (generated_table rows).blocks ≡ (generated_zones rows).lengths
  pub fitting : all_rows_fit (row_type generated_columns) (generated_table rows).blocks ≡ true

abbrev pub GeneratedBlocksFit : Type 0
GeneratedBlocksFit = (rows : ℕ) → rows < 2 ^ 32 → HasFittingBlocks rows

-- the statistics are honest for the table
abbrev pub GeneratedZonesAreHonest : Type 0
GeneratedZonesAreHonest = (rows : ℕ) → IsHonest (generated_zones rows) (generated_table rows)

-- both expressions are strictly typed, the filter as a boolean
abbrev pub GeneratedFilterIsTyped : Type 0
GeneratedFilterIsTyped = (rows : ℕ) → rows < 2 ^ 32 → typed_of (row_type generated_columns) (generated_filter rows) ≡ Ok (bool_ty Nullable)

abbrev pub GeneratedProjectionIsTyped : Type 0
GeneratedProjectionIsTyped = typed_of (row_type generated_columns) generated_projection ≡ Ok (int_ty I64 NonNullable)

-- no phase of the scan breaks
abbrev pub NoGeneratedPhaseBreaks : Type 0
NoGeneratedPhaseBreaks = (rows : ℕ) → some_phase_breaks (generated_table rows) (generated_zones rows) [] (generated_filter rows) generated_projection ≡ false

-- whether there is a number below a bound, and one at least as great
abbrev pub is_below : ℕ → Option ℕ → Bool
is_below bound None = false
is_below bound (Some n) = nat_lt n bound

abbrev pub reaches : ℕ → Option ℕ → Bool
reaches bound None = false
reaches bound (Some n) = nat_le bound n

-- the rows that are answered: those of the second half in which `v` is below 50
abbrev pub is_answered : ℕ → ℕ → Bool
is_answered rows row = reaches (rows / 2) (number_at id_column row) && is_below 50 (number_at v_column row)

abbrev pub answered_ids : ℕ → List ℕ
answered_ids rows = filter (is_answered rows) (range_with_len 0 rows)

-- the scan answers their numbers, which are also all that match in the whole table
pub record AnswersIds (rows : ℕ) : Type 0 where
  pub kept : answered_rows rows ≡ map (λ row. int_val I64 (pos row)) (answered_ids rows)
  pub whole : answered_rows rows ≡ rows_of (generated_table rows) [] (generated_filter rows) generated_projection

abbrev pub GeneratedScansAnswerIds : Type 0
GeneratedScansAnswerIds = (rows : ℕ) → AnswersIds rows

-- the blocks that are skipped: those that end in the first half, and those in which no `v` is below 50
abbrev pub is_skipped : ℕ → ℕ → Bool
is_skipped rows block = is_below (rows / 2) (greatest_of (numbers_in id_column rows block)) || reaches 50 (least_of (numbers_in v_column rows block))

abbrev pub GeneratedScansSkip : Type 0
GeneratedScansSkip = (rows : ℕ) → skipped_in rows ≡ filter (is_skipped rows) (block_numbers rows)

-- the line in plain numbers
abbrev pub GeneratedLineIsOfNumbers : Type 0
GeneratedLineIsOfNumbers =
    (rows : ℕ)
    → gen_line rows
    ≡ summary_line ((rows + 63) / 64) (length (filter (is_skipped rows) (block_numbers rows))) (length (answered_ids rows)) (pos (sum (answered_ids rows)))
