-- What a run answers over a table: its exit status, the lines that it writes, and what it counts.
use Rattle.std.specs.Prelude.{ℕ, ◌-◌, Bool, cond, nat_eq, List, [], ◌∷◌, map, length, take, Option, Some, None, is_some, Result, Ok, Err}
use Rattle.std.specs.List.{flat_map, list_any}
use Rattle.std.specs.Option.{option_or}
use Rattle.vx_dtype.specs.Types.{Bytes, Ty}
use Rattle.vx_dtype.specs.TypeRules.{field_names}
use Rattle.vx_dtype.specs.Values.{Val}
use Rattle.vx_expr.specs.Trees.{Tree}
use Rattle.vx_semantics.specs.Tables.{Table, Zones, row_type}
use Rattle.vx_semantics.specs.Scans.{Phase, block_phases, block_rows, kept_of, read_columns}
use Rattle.vx_laws_topk.specs.TopRows.{TopAsk, top_rows_of, top_skipped}
use Rattle.vx_laws_topk.specs.TopPhases.{SlottedPhase, slotted_breaks, slotted_reads, top_phases}
use Rattle.vx_laws_statements.specs.Refusals.{StatementRefusal}
use Rattle.vx_laws_statements.specs.Statements.{Plan, plan_of}
use Rattle.vx_scan.specs.Stores.{Read}
use Rattle.vx_laws_shell.specs.Lines.{Counts, row_lines}
use Rattle.vx_laws_shell.specs.Parts.{zones_within, table_within, range_or_all, is_within, read_behind}
use Rattle.vx_laws_shell.specs.Wants.{OrderRefusal, Wanted, in_order, first_by, condition_tree, wanted_of}
use Rattle.vx_laws_shell.specs.Words.{BlockRange, Asked}

-- ---- how phases end

-- what stops a run: a column that is read is damaged, or a sum or a cast has no value
pub data Stop : Type 0 where
  damaged : Stop
  broken : Stop

-- how a phase stops a run, where it does: its columns are read before its expression is evaluated
abbrev pub phase_stop : (Read → Bool) → Ty → SlottedPhase → Option Stop
phase_stop is_damaged t s = cond (list_any is_damaged s.phase.reads) (Some damaged) (cond (slotted_breaks t s) (Some broken) None)

-- how the first phase that stops a run does so
abbrev pub first_stop : (Read → Bool) → Ty → List SlottedPhase → Option Stop
first_stop is_damaged t [] = None
first_stop is_damaged t (s ∷ ss) = option_or (phase_stop is_damaged t s) (first_stop is_damaged t ss)

-- ---- rows in the table's order

-- the phases of a block
abbrev pub unslotted : Phase → SlottedPhase
unslotted phase = record { slots = []; phase = phase }

abbrev pub phases_in : Ty → Tree → Tree → ℕ × List Val → List SlottedPhase
phases_in t f p block = map unslotted (block_phases t [] f p block)

-- the rows that a block gives
abbrev pub rows_in : Ty → Tree → Tree → ℕ × List Val → List Val
rows_in t f p block = block_rows t [] f p block.1

-- of blocks those that are scanned: the first ones, until they give as many rows as are wanted
abbrev pub scanned_for : Ty → Tree → Tree → ℕ → List (ℕ × List Val) → List (ℕ × List Val)
scanned_for t f p n [] = []
scanned_for t f p n (block ∷ blocks) =
    cond (nat_eq n 0) [] (block ∷ scanned_for t f p (n - length (rows_in t f p block)) blocks)

abbrev pub scanned_of : Ty → Tree → Tree → Option ℕ → List (ℕ × List Val) → List (ℕ × List Val)
scanned_of t f p None blocks = blocks
scanned_of t f p (Some n) blocks = scanned_for t f p n blocks

-- the blocks before the first one in which a run is stopped
abbrev pub before_stop : (Read → Bool) → Ty → Tree → Tree → List (ℕ × List Val) → List (ℕ × List Val)
before_stop is_damaged t f p [] = []
before_stop is_damaged t f p (block ∷ blocks) =
    cond (is_some (first_stop is_damaged t (phases_in t f p block))) [] (block ∷ before_stop is_damaged t f p blocks)

-- the first rows, so many where a number is wanted
abbrev pub first_of_rows : Option ℕ → List Val → List Val
first_of_rows None rows = rows
first_of_rows (Some n) rows = take n rows

-- ---- what is found

-- what a run finds: the rows that it writes, the phases of the blocks that it scans, and how many blocks it skips
pub record Found : Type 0 where
  pub rows : List Val
  pub phases : List SlottedPhase
  pub skipped : ℕ

-- rows in the table's order: those of the scanned blocks before the one in which the run is stopped. Skipped are the blocks that the statistics rule out,
-- and those behind the ones that gave as many rows as are wanted
abbrev pub found_among : (Read → Bool) → Table → Tree → Tree → Option ℕ → List (ℕ × List Val) → Found
found_among is_damaged table f p limit scanned =
    let t = row_type table.columns in
    record {
      rows = first_of_rows limit (flat_map (rows_in t f p) (before_stop is_damaged t f p scanned));
      phases = flat_map (phases_in t f p) scanned;
      skipped = length table.blocks - length scanned;
    }

abbrev pub found_in_order : (Read → Bool) → Table → Zones → Tree → Tree → Option ℕ → Found
found_in_order is_damaged table zones f p limit =
    found_among is_damaged table f p limit (scanned_of (row_type table.columns) f p limit (kept_of table zones [] f))

-- the first rows by a key: none where the run is stopped, since they are known behind the last block
abbrev pub rows_unless : Option Stop → List Val → List Val
rows_unless None rows = rows
rows_unless (Some stop) rows = []

abbrev pub found_by_key : (Read → Bool) → Table → Zones → TopAsk → Found
found_by_key is_damaged table zones ask =
    let phases = top_phases ask table zones in
    record {
      rows = rows_unless (first_stop is_damaged (row_type table.columns) phases) (top_rows_of ask table zones);
      phases = phases;
      skipped = length (top_skipped ask table zones);
    }

abbrev pub found_as : (Read → Bool) → Table → Zones → Plan → Wanted → Found
found_as is_damaged table zones plan (in_order limit) =
    found_in_order is_damaged table zones (condition_tree plan.filter) plan.rows.tree limit
found_as is_damaged table zones plan (first_by ask) = found_by_key is_damaged table zones ask

-- ---- answers

-- an exit status, what is written to the output, and what is counted, which is told where the rows were written whole
pub record Answer : Type 0 where
  pub status : ℕ
  pub output : Bytes
  pub counts : Option Counts

-- a refusal before the first row, with its status
abbrev pub refused_with : ℕ → Answer
refused_with status = record { status = status; output = []; counts = None }

-- the counts of what was found
abbrev pub counts_of : Table → Found → Counts
counts_of table found =
    record {
      blocks = length table.blocks;
      skipped = found.skipped;
      columns = length (field_names table.columns);
      columns_read = length (read_columns table (slotted_reads found.phases));
      rows = length found.rows;
    }

-- the answer of what was found: the rows, and how the run was stopped, where it was
abbrev pub answer_stopped : Table → Found → Option Stop → Answer
answer_stopped table found None = record { status = 0; output = row_lines found.rows; counts = Some (counts_of table found) }
answer_stopped table found (Some damaged) = record { status = 3; output = row_lines found.rows; counts = None }
answer_stopped table found (Some broken) = record { status = 5; output = row_lines found.rows; counts = None }

abbrev pub answer_found : (Read → Bool) → Table → Found → Answer
answer_found is_damaged table found = answer_stopped table found (first_stop is_damaged (row_type table.columns) found.phases)

-- the answer of a plan
abbrev pub answer_wanted : (Read → Bool) → Table → Zones → Plan → Result Wanted OrderRefusal → Answer
answer_wanted is_damaged table zones plan (Ok wanted) = answer_found is_damaged table (found_as is_damaged table zones plan wanted)
answer_wanted is_damaged table zones plan (Err refusal) = refused_with 4

abbrev pub answer_planned : (Read → Bool) → Table → Zones → Result Plan StatementRefusal → Answer
answer_planned is_damaged table zones (Ok plan) = answer_wanted is_damaged table zones plan (wanted_of table.columns plan)
answer_planned is_damaged table zones (Err refusal) = refused_with 4

-- the answer of a statement over a whole table
abbrev pub answer_of_statement : (Read → Bool) → Table → Zones → Bytes → Answer
answer_of_statement is_damaged table zones statement = answer_planned is_damaged table zones (plan_of (row_type table.columns) statement)

-- the answer over some blocks of a table; blocks past its end are refused
abbrev pub answer_within : (Read → Bool) → Table → Zones → Bytes → BlockRange → Answer
answer_within is_damaged table zones statement range =
    cond (is_within (length table.blocks) range)
    (answer_of_statement (λ read. is_damaged (read_behind range read)) (table_within range table) (zones_within range zones) statement) (refused_with 2)

-- what is answered over a table of which these reads are of damaged columns
unfoldable pub answer_of : (Read → Bool) → Table → Zones → Asked → Answer
answer_of is_damaged table zones asked = answer_within is_damaged table zones asked.statement (range_or_all (length table.blocks) asked.blocks)
