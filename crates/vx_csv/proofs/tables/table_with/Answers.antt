use Rattle.std.proofs.Common.{◌∙◌, ap, ℕ, List, [], map, length, arith}
use Rattle.std.specs.List.{list_all}
use Rattle.std.proofs.lemmas.List.{length-map}
use Rattle.csv.specs.Records.{fields_of}
use Rattle.vx_dtype.specs.Types.{Ty}
use Rattle.vx_dtype.specs.TypeRules.{is_plain}
use Rattle.vx_semantics.specs.Tables.{row_type}
use Rattle.vx_zones.specs.ZoneViews.{zones_with}
use Rattle.vx_laws_csv.specs.CsvTables.{cut, rows_taken, columns_from}
use Rattle.vx_csv.proofs.Blocks.{cut-count}
use Rattle.vx_csv.proofs.tables.table_with.Goals as goal

pub blocks_of-requires-clause-plain : goal.blocks_of-requires-clause-plain
blocks_of-requires-clause-plain c = ap (list_all is_plain) c.dtypes.ensures ∙ c.requires.plain

pub blocks_of-requires-clause-taken : goal.blocks_of-requires-clause-taken
blocks_of-requires-clause-taken c = ap (λ (ts : List Ty). rows_taken c.args.null.now ts (map fields_of c.args.rows.now)) c.dtypes.ensures ∙ c.requires.taken

pub zones_of-requires-clause-count : goal.zones_of-requires-clause-count
zones_of-requires-clause-count c =
    let rows = map fields_of c.args.rows.now in
    let parts = cut c.args.size rows in
    let made = ap length c.in_ok-made.ensures.lengths in
    let parted = length-map parts length in
    let fewer = cut-count c.args.size rows c.requires.size in
    let seen = length-map c.args.rows.now fields_of in
    omega (arith, made, parted, fewer, seen, c.requires.count)

pub returns : goal.returns
returns c =
    let rows = map fields_of c.args.rows.now in
    let parts = cut c.args.size rows in
    let zones = c.in_ok-zones.ensures ∙ ap (λ (ns : List ℕ). zones_with (row_type c.args.fields) ns []) c.in_ok-made.ensures.lengths in
    let blocks = c.in_ok-made.ensures.columns ∙ ap (λ (ts : List Ty). map (columns_from c.args.null.now 0 ts) parts) c.dtypes.ensures in
    λ j. record { zones = zones j; blocks = blocks j }
