-- The rows of a request's table are values of its columns' types, so the statistics that it has are honest.
use Rattle.std.proofs.Common.{◌≡◌, ◌∙◌, sym, ap, refl, subst, Bool, true, false, List, [], ◌∷◌, map, ok_or, Ok}
use Rattle.std.specs.List.{list_all}
use Rattle.vx_dtype.specs.Fits.{val_fits}
use Rattle.vx_dtype.specs.StructTypes.{field_types}
use Rattle.vx_dtype.specs.Types.{Bytes, Ty, Fields}
use Rattle.vx_dtype.specs.Values.{Val}
use Rattle.vx_expr.specs.Trees.{Tree}
use Rattle.vx_column.specs.Columns.{Column, rows_fit}
use Rattle.vx_semantics.specs.Honest.{IsHonest}
use Rattle.vx_semantics.specs.Tables.{row_type}
use Rattle.vx_tables.specs.Blocks.{block_fits, have_lengths, have_types}
use Rattle.vx_tables.proofs.FitLemmas.{table_fit}
use Rattle.vx_laws_scan.specs.Agreeing.{all_rows_fit}
use Rattle.vx_laws_scan.specs.Pruned.{KeptRowsAreAll}
use Rattle.vx_laws_stats.specs.BuiltLaws.{BuiltStatisticsAreHonest, IsTable}
use Rattle.vx_laws_stats.specs.BuiltStatistics.{built_zones}
use Rattle.vx_request.specs.Cells.{blocks_of}
use Rattle.vx_request.specs.RequestMembers.{BlockText}
use Rattle.vx_request.specs.Requests.{◌>>=◌, RequestedScan, ensured, request_of}
use Rattle.vx_request.specs.declared.errors.RequestError.{RequestError}
use Rattle.vx_query.specs.BlockAgreement.{agree}
use Rattle.vx_query.specs.Causes.{whole_report}
use Rattle.vx_query.specs.Running.{built, scan_by, scan_report, scan_table}
use Rattle.vx_query.proofs.BlockAgreementLemmas.{agree_in, found_ok}
use Rattle.vx_query.proofs.CauseLemmas.{whole_where_honest}
use Rattle.vx_query.proofs.CellFits.{blocks_fit}
use Rattle.vx_query.proofs.CellLemmas.{and_left, and_right, both_true}
use Rattle.vx_query.proofs.SoundScans.{scan_made, unbroken_type}
use Rattle.vx_query.proofs.StatisticsLemmas.{table_built}

-- the columns of rectangles hold values of their types
made_fit : (fs : Fields) (bs : List BlockText) (b : Bool) (e g : RequestError) (made : List (List Column))
    → (ensured b e >>= λ shaped. ok_or (blocks_of (field_types fs) (map (λ b. b.values) bs)) g) ≡ Ok made → list_all block_fits made ≡ true
made_fit fs bs true e g made h = blocks_fit (field_types fs) (map (λ b. b.values) bs) made (found_ok _ g made h)
made_fit fs bs false e g made h = absurd (cc h)

-- so the rows are of the row type
rows_all : (t : Ty) (vs : List Val) → rows_fit t vs ≡ true → list_all (λ row. val_fits row t) vs ≡ true
rows_all t [] h = refl
rows_all t (v ∷ vs) h =
    both_true (val_fits v t) (list_all (λ row. val_fits row t) vs) (and_left (val_fits v t) (rows_fit t vs) h)
    (rows_all t vs (and_right (val_fits v t) (rows_fit t vs) h))

blocks_all : (t : Ty) (bs : List (List Val)) → list_all (rows_fit t) bs ≡ true → all_rows_fit t bs ≡ true
blocks_all t [] h = refl
blocks_all t (b ∷ bs) h =
    both_true (list_all (λ row. val_fits row t) b) (all_rows_fit t bs) (rows_all t b (and_left (rows_fit t b) (list_all (rows_fit t) bs) h))
    (blocks_all t bs (and_right (rows_fit t b) (list_all (rows_fit t) bs) h))

-- the blocks agree with the zones, and the table is one
agreeing : (input : Bytes) (a : RequestedScan) → request_of input ≡ Ok a → agree (Ok a) ≡ true
agreeing input a asked = ap agree (sym asked) ∙ agree_in input

pub request_table : (input : Bytes) (a : RequestedScan) → request_of input ≡ Ok a → IsTable (scan_table a)
request_table input a asked =
    let made = scan_made input a asked in
    let agrees = agreeing input a asked in
    let lengths = and_left (have_lengths a.zones a.blocks) (have_types a.zones a.blocks) agrees in
    let types = and_right (have_lengths a.zones a.blocks) (have_types a.zones a.blocks) agrees in
    let fit = made_fit a.zones.columns made.blocks _ _ _ a.blocks made.columns in
    record {
      names = unbroken_type a.zones made.unbroken;
      fit = blocks_all (row_type a.zones.columns) (scan_table a).blocks (table_fit a.zones.columns a.zones.lengths a.blocks lengths types fit);
    }

-- by the statistics that it has it stays the same table, of which they are honest
pub table_stays : (input : Bytes) (a : RequestedScan) → request_of input ≡ Ok a → scan_table (scan_by built a) ≡ scan_table a
table_stays input a asked = table_built a (agreeing input a asked)

pub built_honest : BuiltStatisticsAreHonest → (input : Bytes) (a : RequestedScan) → request_of input ≡ Ok a
    → IsHonest (scan_by built a).zones (scan_table a)
built_honest honest input a asked = honest (scan_table a) (request_table input a asked)

-- a report by them tells all rows
pub built_whole : KeptRowsAreAll → BuiltStatisticsAreHonest → (input : Bytes) (a : RequestedScan) (f p : Tree) → request_of input ≡ Ok a
    → scan_report (scan_by built a) f p ≡ whole_report (scan_by built a) f p
built_whole all honest input a f p asked =
    whole_where_honest all (scan_by built a) f p
    (subst (IsHonest (built_zones (scan_table a))) (sym (table_stays input a asked)) (built_honest honest input a asked))
