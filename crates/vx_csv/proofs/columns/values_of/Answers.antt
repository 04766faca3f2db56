use Rattle.std.proofs.Common.{◌∙◌, ap}
use Rattle.std.specs.Str.{is_utf8}
use Rattle.vx_csv.proofs.Texts.{text-cell, text-row}
use Rattle.csv.specs.Records.{fields_of}
use Rattle.vx_csv.proofs.columns.values_of.Goals as goal

pub value_of-requires : goal.value_of-requires
value_of-requires c =
    let row = c.row-item.result in
    let texts = text-row c.loop-row.row-index c.args.rows.now row c.requires c.loop-row-test.true c.row-item.is in
    ap is_utf8 c.cell_at.ensures ∙ text-cell c.args.place (fields_of row) texts
