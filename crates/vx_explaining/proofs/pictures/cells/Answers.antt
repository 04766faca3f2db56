use Rattle.std.proofs.Common.{rules, ◌+◌, ◌<◌, ◌≤◌, length, map, drop}
use Rattle.std.proofs.Math.ListN.{get_or}
use Rattle.std.specs.String.{string_bytes}
use Rattle.vx_laws_explaining.specs.ExplainedPictures.{cell, cells}
use Rattle.vx_explaining.specs.ExplainedViews.{column_view, usage_view}
use Rattle.vx_explaining.proofs.TextLemmas.{cells_end, cells_step, written_all, written_one}
use Rattle.vx_explaining.proofs.pictures.cells.Goals as goal

pub loop-column-preserved : goal.loop-column-preserved
loop-column-preserved c =
    let columns = c.args.columns.now in
    let i = c.loop-column.column in
    let one = get_or columns i c.index-columns-column.result in
    let within : i < length columns = search rules in
    written_one (string_bytes c.loop-column.cells) (string_bytes c.push_cell.new.out) (cell c.args.block c.args.skipped i (usage_view one.usage)) (cells c.args.block c.args.skipped i (map column_view (drop i columns))) (cells c.args.block c.args.skipped (i + 1) (map column_view (drop (i + 1) columns))) (cells c.args.block c.args.skipped 0 (map column_view columns))
    c.in_ok-push_cell.ensures (cells_step column_view c.args.block c.args.skipped columns i c.index-columns-column.result within) c.loop-column.invariant

pub returns : goal.returns
returns c =
    let columns = c.args.columns.now in
    let i = c.loop-column.column in
    let past : length columns ≤ i = search rules in
    written_all (string_bytes c.loop-column.cells) (cells c.args.block c.args.skipped i (map column_view (drop i columns))) (cells c.args.block c.args.skipped 0 (map column_view columns)) (cells_end column_view c.args.block c.args.skipped columns i past) c.loop-column.invariant
