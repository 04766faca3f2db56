use Rattle.std.proofs.Common.{◌≡◌, ◌∙◌, ◌<◌, sym, ap, [], ◌∷◌, ◌++◌, length, get_or, arith}
use Rattle.std.specs.Str.{is_utf8}
use Rattle.std.proofs.lemmas.List.{take_more}
use Rattle.csv.specs.Records.{fields_of}
use Rattle.vx_csv.proofs.Texts.{text-cell}
use Rattle.vx_csv.proofs.RecordCells.{cell-get}
use Rattle.vx_csv.proofs.forms.names_of.Goals as goal

pub name_of-requires : goal.name_of-requires
name_of-requires c = ap is_utf8 c.cell_at.ensures ∙ text-cell c.loop-i.i (fields_of c.args.line.now) c.requires

pub loop-i-preserved : goal.loop-i-preserved
loop-i-preserved c =
    let cells = fields_of c.args.line.now in
    let i = c.loop-i.i in
    let within : i < length cells = omega (arith, c.loop-i-test.true, c.len-i-end.ensures) in
    let name : c.in_ok-name_of.field-0 ≡ get_or cells i [] = c.in_ok-name_of.ensures ∙ c.cell_at.ensures ∙ cell-get i cells in
    let made = c.in_ok-push.ensures.items in
    made ∙ (λ j. c.loop-i.invariant j ++ name j ∷ []) ∙ sym (take_more cells i [] within)
