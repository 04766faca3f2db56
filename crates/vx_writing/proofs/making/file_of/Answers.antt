use Rattle.std.proofs.Common.{◌≡◌, ◌∙◌, ap, sym, subst, map, None, Err}
use Rattle.vx_tables.specs.Blocks.{block_view, table_of_blocks, table_refusal}
use Rattle.vx_laws_stats.specs.BuiltStatistics.{built_zones}
use Rattle.vx_request.specs.RequestViews.{told_view}
use Rattle.vx_writing.specs.Making.{MakesFile}
use Rattle.vx_writing.proofs.MadeTables.{built_unrefused, of_file, file_refused}
use Rattle.vx_writing.proofs.making.file_of.Goals as goal

pub file_refusal-requires : goal.file_refusal-requires
file_refusal-requires c =
    let blocks = map block_view c.as_slice-blocks.result.now in
    let whole : table_refusal c.in-Ok.zones blocks ≡ None =
    ap (λ z. table_refusal z blocks) c.in-Ok.ensures.0 ∙ built_unrefused c.args.table.now.zones blocks c.in-Ok.ensures.1 in
    of_file c.in-Ok.zones blocks c.in-Err-write_file.error whole c.in-Err-write_file.ensures.refused

pub returns : goal.returns
returns c =
    let told = told_view c.args.table.now in
    let blocks = map block_view c.as_slice-blocks.result.now in
    let same = ap (map block_view) c.as_slice-blocks.ensures.value in
    let whole : table_refusal c.in-Ok.zones blocks ≡ None =
    ap (λ z. table_refusal z blocks) c.in-Ok.ensures.0 ∙ built_unrefused c.args.table.now.zones blocks c.in-Ok.ensures.1 in
    subst (λ r. MakesFile None told (Err r)) (sym c.file_refusal.ensures)
    (file_refused told c.in-Ok.zones blocks c.in-Err-write_file.error (c.in-Ok.ensures.0 ∙ ap (λ bs. built_zones (table_of_blocks c.args.table.now.zones bs)) same) same whole
    c.in-Err-write_file.ensures.refused)
