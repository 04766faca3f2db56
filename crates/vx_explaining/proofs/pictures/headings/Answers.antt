use Rattle.std.proofs.Common.{rules, ◌+◌, ◌<◌, ◌≤◌, length, map, drop}
use Rattle.std.proofs.Math.ListN.{get_or}
use Rattle.std.specs.String.{string_bytes}
use Rattle.vx_laws_explaining.specs.ExplainedPictures.{heading, headings}
use Rattle.vx_explaining.specs.ExplainedViews.{column_view}
use Rattle.vx_explaining.proofs.TextLemmas.{headings_end, headings_step, written_all, written_one}
use Rattle.vx_explaining.proofs.pictures.headings.Goals as goal

pub loop-column-preserved : goal.loop-column-preserved
loop-column-preserved c =
    let columns = c.args.columns.now in
    let i = c.loop-column.column in
    let one = get_or columns i c.index-columns-column.result in
    let within : i < length columns = search rules in
    written_one (string_bytes c.loop-column.names) (string_bytes c.push_heading.new.out) (heading i one.name.now) (headings i (map column_view (drop i columns))) (headings (i + 1) (map column_view (drop (i + 1) columns))) (headings 0 (map column_view columns))
    c.in_ok-push_heading.ensures (headings_step column_view columns i c.index-columns-column.result within) c.loop-column.invariant

pub returns : goal.returns
returns c =
    let columns = c.args.columns.now in
    let i = c.loop-column.column in
    let past : length columns ≤ i = search rules in
    written_all (string_bytes c.loop-column.names) (headings i (map column_view (drop i columns))) (headings 0 (map column_view columns)) (headings_end column_view columns i past) c.loop-column.invariant
