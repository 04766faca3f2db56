use Rattle.std.proofs.Common.{◌≡◌, ◌∙◌, Ok}
use Rattle.std.proofs.lemmas.Result.{IfOk-weaker}
use Rattle.vx_column.specs.Columns.{column}
use Rattle.vx_semantics.specs.Tables.{row_type}
use Rattle.vx_calls.specs.FilteredRows.{rows_told}
use Rattle.vx_calls.proofs.RowLemmas.{made_is, rows_answered}
use Rattle.vx_calls.proofs.row_truths.told_rows.Goals as goal

pub made-requires : goal.made-requires
made-requires c =
    let fields = c.args.fields.now in
    let cells = c.args.columns.items in
    let named = c.in_ok-names.ensures.cases ∙ c.names.ensures in (
      column (row_type fields) (rows_told fields c.args.rows cells),
      rows_answered fields c.in_ok-names.names cells c.args.rows c.struct_.result named c.requires.types c.requires.rows c.requires.names c.struct_.ensures,
    )

pub returns : goal.returns
returns c =
    let fields = c.args.fields.now in
    let cells = c.args.columns.items in
    let named = c.in_ok-names.ensures.cases ∙ c.names.ensures in
    let told = column (row_type fields) (rows_told fields c.args.rows cells) in
    let answer =
    rows_answered fields c.in_ok-names.names cells c.args.rows c.struct_.result named c.requires.types c.requires.rows c.requires.names c.struct_.ensures in
    IfOk-weaker c.made.result (λ made. c.struct_.result ≡ Ok made) (λ made. made ≡ told) (λ made i. made_is c.struct_.result told made answer i) c.made.ensures
