-- How finding the first rows by a key ends: with a report, refused before the first block, broken by a sum or a cast, at a read that failed, or without
-- memory; and what each end leaves.
use Rattle.std.specs.Prelude.{◌≡◌, ◌⊎◌, ℕ, ◌≤◌, nat_eq, Bool, true, false, ◌||◌, List, [], ◌∷◌, ◌++◌, map, length, Some, None, Result, Ok, Err}
use Rattle.std.specs.List.{list_any}
use Rattle.vx_dtype.specs.Types.{Bytes, Ty}
use Rattle.vx_dtype.specs.TypeRules.{is_plain, field_type}
use Rattle.vx_dtype.specs.TypeViews.{type_view}
use Rattle.vx_dtype.specs.Values.{Val}
use Rattle.vx_column.specs.Columns.{raw_rows}
use Rattle.vx_expr.specs.Trees.{Tree}
use Rattle.vx_semantics.specs.Breaks.{Cause}
use Rattle.vx_semantics.specs.Scans.{skipped_blocks}
use Rattle.vx_semantics.specs.Tables.{Table, Zones, row_type, numbered_from}
use Rattle.vx_io.specs.Counts.{one_more}
use Rattle.vx_scan.specs.ErrorKinds.{ErrorKind, of_memory, of_text, of_types, of_break, of_read, kind_of}
use Rattle.vx_scan.specs.Stores.{Read, StoreSeen, WhereTold}
use Rattle.vx_scan.specs.Scanning.{scan_type, asks_breaking, some_block, AreAmong, AreIllTyped}
use Rattle.vx_scan.specs.declared.errors.ScanError.{ScanError}
use Rattle.vx_laws_topk.specs.TopRows.{TopAsk, top_rows_of, top_skipped}
use Rattle.vx_laws_topk.specs.TopPhases.{top_reads, top_reads_to_break, some_top_phase_breaks, first_top_breaks_by, top_blocks, top_asked}
use Rattle.vx_topk.specs.declared.reports.TopReport.{TopReport}
use Rattle.vx_topk.specs.declared.errors.TopError.{TopError}
use Rattle.vx_topk.specs.declared.errors.TopError.TheVariants as errors

-- a report of the first rows: the type of the rows, the rows, and the numbers of the skipped blocks
pub record Topped : Type 0 where
  pub ty : Ty
  pub rows : List Val
  pub skipped : List ℕ

-- the report that a value of the code stands for
abbrev pub top_view : TopReport → Topped
top_view r = record { ty = type_view r.dtype; rows = raw_rows (type_view r.dtype) r.rows; skipped = r.skipped }

-- the rows are asked of a table with these zones: the key is one of its columns, of a plain type, and filter and projection are strictly typed for its rows,
-- with this type of the projection, the filter a boolean
pub record IsTypedTop (zones : Zones) (ask : TopAsk) (ty : Ty) : Type 0 where
  pub column : field_type ask.key zones.columns ≡ Some ask.key_type
  pub plain : is_plain ask.key_type ≡ true
  pub typed : scan_type (row_type zones.columns) [] ask.filter_expr ask.projection ≡ Ok ty

-- how the reads grow the log: they are asked ones, and where the table is told just these
pub record GrowsTopLog (ask : TopAsk) (before after : StoreSeen) (AreJust : Table → List Read → Type 0) : Type 0 where
  pub made : List Read
  pub grown : after.log ≡ before.log ++ made
  pub asked : AreAmong made (top_asked ask before.zones)
  pub told : WhereTold before.held (λ table. AreJust table made)

-- the numbers of items, from 0 on
abbrev pub numbers_of : {X : Type 0} → List X → List ℕ
numbers_of xs = map (λ b. b.0) (numbered_from 0 xs)

-- the skipped blocks, whether the table is told or not: they are blocks of the table, each once and in order, and those that the filter alone rules out are
-- among them; where no row is asked they are all blocks
pub record SkipsBlocks (ask : TopAsk) (zones : Zones) (skipped : List ℕ) : Type 0 where
  pub blocks : AreAmong skipped (numbers_of zones.lengths)
  pub ruled_out : AreAmong (skipped_blocks zones [] ask.filter_expr) skipped
  pub none_asked : ask.count ≡ 0 → skipped ≡ numbers_of zones.lengths

-- whether a read is one of these blocks
abbrev pub is_read_of : List ℕ → Read → Bool
is_read_of blocks read = list_any (nat_eq read.0) blocks

-- the report: all reads were made, none of a skipped block, and none failed; where the table is told the rows are the first ones over the blocks that aren't
-- skipped, and no phase breaks; no more rows are told than are asked
pub record IsTopReport (ask : TopAsk) (before after : StoreSeen) (report : Topped) : Type 0 where
  pub typed : IsTypedTop before.zones ask report.ty
  pub few : length report.rows ≤ ask.count
  pub rows : WhereTold before.held (λ table. report.rows ≡ top_rows_of ask table before.zones)
  pub skipped : WhereTold before.held (λ table. report.skipped ≡ top_skipped ask table before.zones)
  pub skips : SkipsBlocks ask before.zones report.skipped
  pub unbroken : WhereTold before.held (λ table. some_top_phase_breaks ask table before.zones ≡ false)
  pub reads : GrowsTopLog ask before after (λ table made. made ≡ top_reads ask table before.zones)
  pub unread : list_any (is_read_of report.skipped) reads.made ≡ false
  pub unfailed : after.failed ≡ before.failed

-- a phase broke by this cause: a block may be read, and filter or projection ask a node that can; where the table is told the first phase that breaks does
-- so, and just the reads up to its end were made
pub record IsTopBroken (cause : Cause) (ask : TopAsk) (before after : StoreSeen) : Type 0 where
  pub ty : Ty
  pub typed : IsTypedTop before.zones ask ty
  pub asks : (asks_breaking cause (row_type before.zones.columns) ask.filter_expr || asks_breaking cause (row_type before.zones.columns) ask.projection) ≡ true
  pub kept : some_block (top_blocks ask before.zones) ≡ true
  pub first_breaks : WhereTold before.held (λ table. first_top_breaks_by cause ask table before.zones ≡ true)
  pub reads : GrowsTopLog ask before after (λ table made. made ≡ top_reads_to_break ask table before.zones)
  pub unfailed : after.failed ≡ before.failed

-- a read failed: the store counted a fault; the reads before it were made, and where the table is told it is the next one
pub record IsTopFault (ask : TopAsk) (before after : StoreSeen) : Type 0 where
  pub ty : Ty
  pub typed : IsTypedTop before.zones ask ty
  pub risen : one_more before.faults ≤ after.faults
  pub read : Read
  pub failed : after.failed ≡ Some read
  pub reads : GrowsTopLog ask before after (λ table made. (left : List Read) × (top_reads_to_break ask table before.zones ≡ made ++ (read ∷ left)))
  pub next_asked : AreAmong (reads.made ++ (read ∷ [])) (top_asked ask before.zones)

-- there was no memory: some first reads were made
pub record IsTopCutOff (ask : TopAsk) (before after : StoreSeen) : Type 0 where
  pub ty : Ty
  pub typed : IsTypedTop before.zones ask ty
  pub reads : GrowsTopLog ask before after (λ table made. (left : List Read) × (top_reads_to_break ask table before.zones ≡ made ++ left))
  pub unfailed : after.failed ≡ before.failed

-- what is asked of a table whose key is of this type
abbrev pub top_ask : Tree → Tree → Bytes → Bool → ℕ → Ty → TopAsk
top_ask f p key descending count t =
    record { filter_expr = f; projection = p; key = key; key_type = t; descending = descending; count = count }

-- the table has no column of this name, or one whose type isn't plain
abbrev pub IsUnknownKey : Bytes → StoreSeen → Type 0
IsUnknownKey key store = field_type key store.zones.columns ≡ None

abbrev pub IsBadKey : Bytes → StoreSeen → Type 0
IsBadKey key store = (t : Ty) × (field_type key store.zones.columns ≡ Some t) × (is_plain t ≡ false)

abbrev pub IsGoodKey : Bytes → StoreSeen → Type 0
IsGoodKey key store = (t : Ty) × (field_type key store.zones.columns ≡ Some t) × (is_plain t ≡ true)

-- some key type has this
abbrev pub OfSomeKey : (Ty → Type 0) → Type 0
OfSomeKey P = (t : Ty) × P t

-- how the scan of the first rows ends that gives none, by the kind of the error: broken by a sum or a cast, or at a read that failed; else the key is good,
-- and the expressions are refused by their typing before the first block, the filter as it stands
abbrev pub IsTopUnscanned : ErrorKind → Tree → Tree → Bytes → Bool → ℕ → StoreSeen → StoreSeen → ScanError → Type 0
IsTopUnscanned of_memory f p key descending count before after e = ⊥
IsTopUnscanned of_text f p key descending count before after e = ⊥
IsTopUnscanned of_types f p key descending count before after e = IsGoodKey key before × AreIllTyped [] f p before after e
IsTopUnscanned (of_break cause) f p key descending count before after e =
    OfSomeKey (λ t. IsTopBroken cause (top_ask f p key descending count t) before after)
IsTopUnscanned of_read f p key descending count before after e = OfSomeKey (λ t. IsTopFault (top_ask f p key descending count t) before after)

-- how finding the first rows of two expressions by a key ends
abbrev pub IsTopOf : Tree → Tree → Bytes → Bool → ℕ → StoreSeen → StoreSeen → Result TopReport TopError → Type 0
IsTopOf f p key descending count before after (Ok report) =
    OfSomeKey (λ t. IsTopReport (top_ask f p key descending count t) before after (top_view report))
IsTopOf f p key descending count before after (Err errors.NoMemory) =
    (after ≡ before) ⊎ OfSomeKey (λ t. IsTopCutOff (top_ask f p key descending count t) before after)
IsTopOf f p key descending count before after (Err errors.UnknownKey) = (after ≡ before) × IsUnknownKey key before
IsTopOf f p key descending count before after (Err errors.BadKey) = (after ≡ before) × IsBadKey key before
IsTopOf f p key descending count before after (Err (errors.Scan e)) = IsTopUnscanned (kind_of e) f p key descending count before after e
