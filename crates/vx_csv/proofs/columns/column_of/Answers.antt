use Rattle.std.proofs.Common.{◌≡◌, ◌∙◌, ap, map}
use Rattle.std.proofs.lemmas.Result.{IfOk-weaker}
use Rattle.csv.specs.Records.{fields_of}
use Rattle.vx_dtype.specs.TypeViews.{type_view}
use Rattle.vx_column.specs.Columns.{column, raws_fit, raw_rows, seen_rows}
use Rattle.vx_laws_csv.specs.Cells.{cell_at}
use Rattle.vx_laws_csv.specs.CsvTables.{column_of}
use Rattle.vx_laws_csv.proofs.Taken.{taken-fit, raws-mean}
use Rattle.vx_csv.proofs.Blocks.{plain-names}
use Rattle.vx_csv.proofs.columns.column_of.Goals as goal

pub kept-requires-clause-fit : goal.kept-requires-clause-fit
kept-requires-clause-fit c =
    let t = type_view c.args.dtype.now in
    let cells = map (cell_at c.args.place) (map fields_of c.args.rows.now) in
    ap (raws_fit t) c.in_ok-values.ensures ∙ taken-fit c.args.null.now t cells c.requires.taken

pub kept-requires-clause-names : goal.kept-requires-clause-names
kept-requires-clause-names c = plain-names (type_view c.args.dtype.now) c.requires.plain

pub returns : goal.returns
returns c =
    let t = type_view c.args.dtype.now in
    let null = c.args.null.now in
    let place = c.args.place in
    let rows = map fields_of c.args.rows.now in
    let same = ap (raw_rows t) c.in_ok-values.ensures ∙ raws-mean null place t rows in
    IfOk-weaker c.kept.result (λ made. made ≡ column t (seen_rows t c.in_ok-values.values.items)) (λ made. made ≡ column_of null place t rows)
    (λ made e. e ∙ ap (column t) same) c.kept.ensures
