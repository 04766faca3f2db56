-- How a scan ends: with a report, refused before its first block, broken by a sum or a cast, at a read that failed, or without memory; and what each
-- end leaves.
use Rattle.std.specs.Prelude.{◌≡◌, ◌⊎◌, ℕ, ◌≤◌, Bool, true, false, cond, ◌||◌, List, [], ◌∷◌, ◌++◌, Some, Result, Ok, Err}
use Rattle.std.specs.List.{flat_map, list_any}
use Rattle.vx_dtype.specs.Types.{Bytes, Ty}
use Rattle.vx_dtype.specs.TypeRules.{is_bool_ty}
use Rattle.vx_expr.specs.Trees.{Tree}
use Rattle.vx_semantics.specs.Typing.{Refusal, not_struct, nullable_select, unknown_field, duplicate_field, type_mismatch}
use Rattle.vx_semantics.specs.Meaning.{Slots}
use Rattle.vx_semantics.specs.Breaks.{Cause, by_sum, by_cast}
use Rattle.vx_semantics.specs.Asked.{asked_nodes, asked_columns}
use Rattle.vx_semantics.specs.Tables.{Table, Zones, row_type}
use Rattle.vx_semantics.specs.Scans.{kept_blocks, skipped_blocks, kept_rows_of, reads_in, further_columns, phases_of, reads_of, reads_to_break}
use Rattle.vx_semantics.specs.Scans.{some_phase_breaks, first_breaks_by}
use Rattle.vx_eval.specs.Evaluating.{checked_type}
use Rattle.vx_prepare.specs.Preparing.{is_sum, is_cast}
use Rattle.vx_io.specs.Counts.{one_more}
use Rattle.vx_wire.specs.declared.encodings.ExprEncoding.{ExprEncoding}
use Rattle.vx_scan.specs.ErrorKinds.{ErrorKind, of_memory, of_text, of_types, of_break, of_read, kind_of, OnlyOfText}
use Rattle.vx_scan.specs.Stores.{Read, StoreSeen, WhereTold}
use Rattle.vx_scan.specs.Texts.{SpellBoth, AreRefused}
use Rattle.vx_scan.specs.Reports.{Report, report_view}
use Rattle.vx_scan.specs.declared.errors.Side.{Side}
use Rattle.vx_scan.specs.declared.errors.Side.TheVariants as sides
use Rattle.vx_scan.specs.declared.errors.ScanError.{ScanError}
use Rattle.vx_scan.specs.declared.errors.ScanError.TheVariants as errors
use Rattle.vx_scan.specs.declared.reports.ScanReport.{ScanReport}

-- the refusal of typing an expression, with its side
abbrev pub typing_error : Side → Refusal → ScanError
typing_error side not_struct = errors.NotStruct side
typing_error side nullable_select = errors.NullableSelect side
typing_error side unknown_field = errors.UnknownField side
typing_error side duplicate_field = errors.DuplicateField side
typing_error side type_mismatch = errors.TypeMismatch side

-- a type, or the refusal with its side
abbrev pub on_side : Side → Result Ty Refusal → Result Ty ScanError
on_side side (Ok u) = Ok u
on_side side (Err r) = Err (typing_error side r)

-- the answer after that of the filter's typing: its refusal, else the filter has to be a boolean
abbrev pub after_filter : Result Ty ScanError → Result Ty ScanError → Result Ty ScanError
after_filter (Err e) next = Err e
after_filter (Ok u) next = cond (is_bool_ty u) next (Err errors.FilterNotBool)

-- the type of a scan's rows, which is the projection's strict type; else the first refusal: of the filter's typing and of its slots, of a filter that is no
-- boolean, of the projection's typing and of its slots
abbrev pub scan_type : Ty → Slots → Tree → Tree → Result Ty ScanError
scan_type t slots filter_expr projection =
    after_filter (on_side sides.Filter (checked_type t slots filter_expr)) (on_side sides.Projection (checked_type t slots projection))

-- all reads that a scan may make: of each kept block the filter's asked columns, and then the projection's that are not among them
abbrev pub asked_reads : Zones → Slots → Tree → Tree → List Read
asked_reads zones slots filter_expr projection =
    flat_map
    (λ b.
    reads_in b (asked_columns (row_type zones.columns) filter_expr) ++ reads_in b (further_columns (row_type zones.columns) filter_expr projection))
    (kept_blocks zones slots filter_expr)

-- items that are some of these, each once, in their order
abbrev pub AreAmong : {X : Type 0} → List X → List X → Type 0
AreAmong [] all = Unit {0}
AreAmong (r ∷ made) [] = ⊥
AreAmong (r ∷ made) (s ∷ all) = ((r ≡ s) × AreAmong made all) ⊎ AreAmong (r ∷ made) all

-- how a scan's reads grow the log: they are asked ones, and where the table is told just these
pub record GrowsLog (slots : Slots) (filter_expr projection : Tree) (before after : StoreSeen) (AreJust : Table → List Read → Type 0) : Type 0 where
  pub made : List Read
  pub grown : after.log ≡ before.log ++ made
  pub asked : AreAmong made (asked_reads before.zones slots filter_expr projection)
  pub told : WhereTold before.held (λ table. AreJust table made)

-- the report of a scan: all its reads were made, and none failed; where the table is told the rows are those of the kept blocks, and no phase breaks
pub record IsReport (slots : Slots) (filter_expr projection : Tree) (before after : StoreSeen) (report : Report) : Type 0 where
  pub typed : scan_type (row_type before.zones.columns) slots filter_expr projection ≡ Ok report.ty
  pub rows : WhereTold before.held (λ table. report.rows ≡ kept_rows_of table before.zones slots filter_expr projection)
  pub unbroken : WhereTold before.held (λ table. some_phase_breaks table before.zones slots filter_expr projection ≡ false)
  pub kept : report.kept ≡ kept_blocks before.zones slots filter_expr
  pub skipped : report.skipped ≡ skipped_blocks before.zones slots filter_expr
  pub filter_columns : report.filter_columns ≡ asked_columns (row_type before.zones.columns) filter_expr
  pub projection_columns : report.projection_columns ≡ asked_columns (row_type before.zones.columns) projection
  pub reads : GrowsLog slots filter_expr projection before after (λ table made. made ≡ reads_of table before.zones slots filter_expr projection)
  pub unfailed : after.failed ≡ before.failed

-- whether a node is one that can break by this cause: a sum or difference, or a cast
abbrev pub can_break_by : Cause → Tree → Bool
can_break_by by_sum = is_sum
can_break_by by_cast = is_cast

-- whether an expression asks a node that can break by this cause
abbrev pub asks_breaking : Cause → Ty → Tree → Bool
asks_breaking cause t e = list_any (can_break_by cause) (asked_nodes t e)

-- whether there are blocks
abbrev pub some_block : List ℕ → Bool
some_block [] = false
some_block (b ∷ bs) = true

-- a phase broke by this cause: a block is kept, and one of the expressions asks a node that can; where the table is told the first phase that breaks does so,
-- and just the reads up to its end were made
pub record IsScanBroken (cause : Cause) (slots : Slots) (filter_expr projection : Tree) (before after : StoreSeen) : Type 0 where
  pub ty : Ty
  pub typed : scan_type (row_type before.zones.columns) slots filter_expr projection ≡ Ok ty
  pub asks : (asks_breaking cause (row_type before.zones.columns) filter_expr || asks_breaking cause (row_type before.zones.columns) projection) ≡ true
  pub kept : some_block (kept_blocks before.zones slots filter_expr) ≡ true
  pub first_breaks : WhereTold before.held
      (λ table. first_breaks_by cause (row_type table.columns) slots (phases_of table before.zones slots filter_expr projection) ≡ true)
  pub reads : GrowsLog slots filter_expr projection before after (λ table made. made ≡ reads_to_break table before.zones slots filter_expr projection)
  pub unfailed : after.failed ≡ before.failed

-- a read failed: the store counted a fault; the reads before it were made, and where the table is told it is the next one
pub record IsStoreFault (slots : Slots) (filter_expr projection : Tree) (before after : StoreSeen) : Type 0 where
  pub ty : Ty
  pub typed : scan_type (row_type before.zones.columns) slots filter_expr projection ≡ Ok ty
  pub risen : one_more before.faults ≤ after.faults
  pub read : Read
  pub failed : after.failed ≡ Some read
  pub reads : GrowsLog slots filter_expr projection before after
      (λ table made. (left : List Read) × (reads_to_break table before.zones slots filter_expr projection ≡ made ++ (read ∷ left)))
  pub next_asked : AreAmong (reads.made ++ (read ∷ [])) (asked_reads before.zones slots filter_expr projection)

-- there was no memory: before the first block nothing was read; later some first reads were made
pub record IsCutOff (slots : Slots) (filter_expr projection : Tree) (before after : StoreSeen) : Type 0 where
  pub ty : Ty
  pub typed : scan_type (row_type before.zones.columns) slots filter_expr projection ≡ Ok ty
  pub reads : GrowsLog slots filter_expr projection before after
      (λ table made. (left : List Read) × (reads_to_break table before.zones slots filter_expr projection ≡ made ++ left))
  pub unfailed : after.failed ≡ before.failed

-- the expressions are refused before the first block, by this answer of their typing: nothing was read
abbrev pub AreIllTyped : Slots → Tree → Tree → StoreSeen → StoreSeen → ScanError → Type 0
AreIllTyped slots filter_expr projection before after e =
    (after ≡ before) × (scan_type (row_type before.zones.columns) slots filter_expr projection ≡ Err e)

-- how the scan of two expressions ends by an error of a kind: none of texts comes
abbrev pub IsScanStopped : ErrorKind → Slots → Tree → Tree → StoreSeen → StoreSeen → ScanError → Type 0
IsScanStopped of_memory slots filter_expr projection before after e = (after ≡ before) ⊎ IsCutOff slots filter_expr projection before after
IsScanStopped of_text slots filter_expr projection before after e = ⊥
IsScanStopped of_types slots filter_expr projection before after e = AreIllTyped slots filter_expr projection before after e
IsScanStopped (of_break cause) slots filter_expr projection before after e = IsScanBroken cause slots filter_expr projection before after
IsScanStopped of_read slots filter_expr projection before after e = IsStoreFault slots filter_expr projection before after

-- how the scan of two expressions ends
abbrev pub IsScanOf : Slots → Tree → Tree → StoreSeen → StoreSeen → Result ScanReport ScanError → Type 0
IsScanOf slots filter_expr projection before after (Ok report) = IsReport slots filter_expr projection before after (report_view report)
IsScanOf slots filter_expr projection before after (Err e) = IsScanStopped (kind_of e) slots filter_expr projection before after e

-- two texts are refused, or there was no memory for them: nothing was read
abbrev pub IsUnspelled : (ExprEncoding → Bool) → Bytes → Bytes → StoreSeen → StoreSeen → Result ScanReport ScanError → Type 0
IsUnspelled holds filter_text projection_text before after (Ok report) = ⊥
IsUnspelled holds filter_text projection_text before after (Err e) =
    (after ≡ before) × OnlyOfText (kind_of e) (AreRefused holds filter_text projection_text e)

-- how the scan of two byte texts ends: they are refused, or it ends as that of the expressions that they spell, without slots
abbrev pub IsScan : (ExprEncoding → Bool) → Bytes → Bytes → StoreSeen → StoreSeen → Result ScanReport ScanError → Type 0
IsScan holds filter_text projection_text before after result =
    IsUnspelled holds filter_text projection_text before after result
    ⊎ ((filter_expr : Tree) × (projection : Tree) × SpellBoth holds filter_text projection_text filter_expr projection
    × IsScanOf [] filter_expr projection before after result)
