-- What a scan answers: the blocks that it keeps, the rows, the reads, and the phases in which it evaluates.
use Rattle.std.specs.Prelude.{ℕ, Bool, true, false, cond, not, List, [], ◌∷◌, ◌++◌, map}
use Rattle.std.specs.List.{filter, list_any, flat_map}
use Rattle.std.specs.Str.{bytes_eq}
use Rattle.vx_dtype.specs.Types.{Bytes, Ty}
use Rattle.vx_dtype.specs.TypeRules.{has_name, field_names}
use Rattle.vx_dtype.specs.Values.{Val}
use Rattle.vx_dtype.specs.Logic.{is_true_val}
use Rattle.vx_expr.specs.Trees.{Tree}
use Rattle.vx_semantics.specs.Meaning.{Slots, mean}
use Rattle.vx_semantics.specs.Breaks.{Cause, breaks_by}
use Rattle.vx_semantics.specs.Asked.{asked_nodes, asked_columns, some_asked_breaks}
use Rattle.vx_semantics.specs.Tables.{Table, Zones, row_type, numbered_from}
use Rattle.vx_semantics.specs.Pruning.{rules_out}

-- the rows of a block at which the filter means true
abbrev pub matching_rows : Ty → Slots → Tree → List Val → List Val
matching_rows t slots filter_expr rows = filter (λ row. is_true_val (mean t slots row filter_expr)) rows

-- what the projection means at the rows of a block at which the filter means true
abbrev pub block_rows : Ty → Slots → Tree → Tree → List Val → List Val
block_rows t slots filter_expr projection rows = map (λ row. mean t slots row projection) (matching_rows t slots filter_expr rows)

-- the rows of the answer: those of all blocks, in order
abbrev pub rows_of : Table → Slots → Tree → Tree → List Val
rows_of table slots filter_expr projection = flat_map (block_rows (row_type table.columns) slots filter_expr projection) table.blocks

-- the numbers of the blocks that the filter rules out, and of those that it keeps
abbrev pub skipped_blocks : Zones → Slots → Tree → List ℕ
skipped_blocks zones slots filter_expr = map (λ b. b.0) (filter (λ b. rules_out zones slots b.0 filter_expr) (numbered_from 0 zones.lengths))

abbrev pub kept_blocks : Zones → Slots → Tree → List ℕ
kept_blocks zones slots filter_expr = map (λ b. b.0) (filter (λ b. not (rules_out zones slots b.0 filter_expr)) (numbered_from 0 zones.lengths))

-- the blocks of the table that the filter keeps, each with its number
abbrev pub kept_of : Table → Zones → Slots → Tree → List (ℕ × List Val)
kept_of table zones slots filter_expr = filter (λ b. not (rules_out zones slots b.0 filter_expr)) (numbered_from 0 table.blocks)

-- the rows of the answer over the kept blocks alone
abbrev pub kept_rows_of : Table → Zones → Slots → Tree → Tree → List Val
kept_rows_of table zones slots filter_expr projection =
    flat_map (λ b. block_rows (row_type table.columns) slots filter_expr projection b.1) (kept_of table zones slots filter_expr)

-- whether a list has an item
abbrev pub has_rows : List Val → Bool
has_rows [] = false
has_rows (row ∷ rows) = true

-- a phase: an expression that is evaluated, the reads that are made for it, block and column, and the rows at which it is evaluated
pub record Phase : Type 0 where
  pub expression : Tree
  pub reads : List (ℕ × Bytes)
  pub rows : List Val

-- the reads of columns of a block
abbrev pub reads_in : ℕ → List Bytes → List (ℕ × Bytes)
reads_in block names = map (λ c. (block, c)) names

-- the columns that the projection asks and the filter doesn't
abbrev pub further_columns : Ty → Tree → Tree → List Bytes
further_columns t filter_expr projection = filter (λ c. not (has_name c (asked_columns t filter_expr))) (asked_columns t projection)

-- the phases of a block: the filter at its rows, and where it is true at some row the projection at these
abbrev pub block_phases : Ty → Slots → Tree → Tree → ℕ × List Val → List Phase
block_phases t slots filter_expr projection b =
    record { expression = filter_expr; reads = reads_in b.0 (asked_columns t filter_expr); rows = b.1 }
    ∷ cond (has_rows (matching_rows t slots filter_expr b.1))
    (record {
      expression = projection;
      reads = reads_in b.0 (further_columns t filter_expr projection);
      rows = matching_rows t slots filter_expr b.1;
    } ∷ []) []

-- the phases of the scan, in order
abbrev pub phases_of : Table → Zones → Slots → Tree → Tree → List Phase
phases_of table zones slots filter_expr projection =
    flat_map (block_phases (row_type table.columns) slots filter_expr projection) (kept_of table zones slots filter_expr)

-- whether an asked node of the phase's expression breaks at one of its rows
abbrev pub phase_breaks : Ty → Slots → Phase → Bool
phase_breaks t slots phase = list_any (λ row. some_asked_breaks t slots row phase.expression) phase.rows

-- whether it does so by this cause
abbrev pub phase_breaks_by : Cause → Ty → Slots → Phase → Bool
phase_breaks_by c t slots phase = list_any (λ row. list_any (breaks_by c t slots row) (asked_nodes t phase.expression)) phase.rows

-- the phases up to and with the first that breaks, all where none does
abbrev pub phases_to_break : Ty → Slots → List Phase → List Phase
phases_to_break t slots [] = []
phases_to_break t slots (phase ∷ phases) = phase ∷ cond (phase_breaks t slots phase) [] (phases_to_break t slots phases)

-- whether a phase breaks, and the first that does so breaks by this cause
abbrev pub first_breaks_by : Cause → Ty → Slots → List Phase → Bool
first_breaks_by c t slots [] = false
first_breaks_by c t slots (phase ∷ phases) = cond (phase_breaks t slots phase) (phase_breaks_by c t slots phase) (first_breaks_by c t slots phases)

-- the reads of phases, in order
abbrev pub phase_reads : List Phase → List (ℕ × Bytes)
phase_reads phases = flat_map (λ phase. phase.reads) phases

-- the reads of the scan, block and column, in order
abbrev pub reads_of : Table → Zones → Slots → Tree → Tree → List (ℕ × Bytes)
reads_of table zones slots filter_expr projection = phase_reads (phases_of table zones slots filter_expr projection)

-- the reads up to the end of the first phase that breaks, all where none does
abbrev pub reads_to_break : Table → Zones → Slots → Tree → Tree → List (ℕ × Bytes)
reads_to_break table zones slots filter_expr projection =
    phase_reads (phases_to_break (row_type table.columns) slots (phases_of table zones slots filter_expr projection))

-- whether some phase of the scan breaks
abbrev pub some_phase_breaks : Table → Zones → Slots → Tree → Tree → Bool
some_phase_breaks table zones slots filter_expr projection =
    list_any (phase_breaks (row_type table.columns) slots) (phases_of table zones slots filter_expr projection)

-- the columns that are read at least once, in the table's order
abbrev pub read_columns : Table → List (ℕ × Bytes) → List Bytes
read_columns table reads = filter (λ c. list_any (λ r. bytes_eq c r.1) reads) (field_names table.columns)
