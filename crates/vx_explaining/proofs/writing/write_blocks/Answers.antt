use Rattle.std.proofs.Common.{rules, ◌≡◌, ap, ◌+◌, ◌<◌, ◌≤◌, false, Bool, List, [], length, drop, refl, Ok, Err, arith}
use Rattle.std.proofs.Math.ListN.{get_or}
use Rattle.vx_laws_explaining.specs.Explanations.{block_in, blocks_in}
use Rattle.vx_explaining.specs.ExplainedViews.{explained_view, form_view}
use Rattle.vx_explaining.proofs.WriteLemmas.{all_written, blocks_end, blocks_step, more_cut, more_written, none_written, text_as}
use Rattle.vx_explaining.proofs.writing.write_blocks.Goals as goal

pub loop-block-init : goal.loop-block-init
loop-block-init g c = ([], none_written _, refl)

pub loop-block-preserved : goal.loop-block-preserved
loop-block-preserved g c =
    let form = form_view c.args.form in
    let x = explained_view c.args.explained.now in
    let i = c.loop-block.block in
    let flags = c.as_slice-skipped.result.now in
    let same : flags ≡ x.skipped = c.as_slice-skipped.ensures.value in
    let within : i < length x.lengths = search rules in
    let there : i < length x.skipped = omega (arith, within, c.requires) in
    let n = get_or x.lengths i 0 in
    let piece = block_in form x i n (get_or x.skipped i false) in
    let written =
    text_as (block_in form x i n (get_or flags i false)) piece _ _ (Ok tt) (ap (λ (fs : List Bool). block_in form x i n (get_or fs i false)) same) c.in-Ok.ensures in
    let so_far = c.loop-block.invariant in
    more_written so_far.0 piece (blocks_in form x i (drop i x.lengths) (drop i x.skipped)) (blocks_in form x (i + 1) (drop (i + 1) x.lengths) (drop (i + 1) x.skipped))
    (blocks_in form x 0 x.lengths x.skipped) _ _ _ so_far.2 (blocks_step form x x.lengths x.skipped i 0 false within there) so_far.1 written

pub returns-in-Err : goal.returns-in-Err
returns-in-Err g c =
    let form = form_view c.args.form in
    let x = explained_view c.args.explained.now in
    let i = c.loop-block.block in
    let flags = c.as_slice-skipped.result.now in
    let same : flags ≡ x.skipped = c.as_slice-skipped.ensures.value in
    let within : i < length x.lengths = search rules in
    let there : i < length x.skipped = omega (arith, within, c.requires) in
    let n = get_or x.lengths i 0 in
    let piece = block_in form x i n (get_or x.skipped i false) in
    let written =
    text_as (block_in form x i n (get_or flags i false)) piece _ _ (Err c.in-Err.error) (ap (λ (fs : List Bool). block_in form x i n (get_or fs i false)) same) c.in-Err.ensures in
    let so_far = c.loop-block.invariant in
    more_cut so_far.0 piece (blocks_in form x i (drop i x.lengths) (drop i x.skipped)) (blocks_in form x (i + 1) (drop (i + 1) x.lengths) (drop (i + 1) x.skipped))
    (blocks_in form x 0 x.lengths x.skipped) _ _ _ c.in-Err.error so_far.2 (blocks_step form x x.lengths x.skipped i 0 false within there) so_far.1 written

pub returns : goal.returns
returns g c =
    let form = form_view c.args.form in
    let x = explained_view c.args.explained.now in
    let i = c.loop-block.block in
    let past : length x.lengths ≤ i = search rules in
    let so_far = c.loop-block.invariant in
    all_written so_far.0 (blocks_in form x i (drop i x.lengths) (drop i x.skipped)) (blocks_in form x 0 x.lengths x.skipped) _ _ so_far.2
    (blocks_end form x x.lengths x.skipped i past) so_far.1
