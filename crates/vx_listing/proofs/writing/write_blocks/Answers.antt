use Rattle.std.proofs.Common.{rules, ◌+◌, ◌<◌, ◌≤◌, [], refl}
use Rattle.std.proofs.Math.ListN.{get_or}
use Rattle.vx_laws_listing.specs.ListingTexts.{block_line, block_lines, lengths_between}
use Rattle.vx_listing.proofs.TextLemmas.{lines_end, lines_step}
use Rattle.vx_listing.proofs.WriteLemmas.{all_written, more_cut, more_written, none_written}
use Rattle.vx_listing.proofs.writing.write_blocks.Goals as goal

pub loop-block-init : goal.loop-block-init
loop-block-init g c = ([], none_written _, refl)

pub loop-block-preserved : goal.loop-block-preserved
loop-block-preserved g c =
    let path = c.args.path.now in
    let stats = c.args.statistics.now in
    let lengths = c.args.lengths.now in
    let begin = c.args.begin in
    let end = c.args.end in
    let i = c.loop-block.block in
    let n = get_or lengths i 0 in
    let within : i < end = search rules in
    let so_far = c.loop-block.invariant in
    more_written so_far.0 (block_line path stats i n) (block_lines path stats i (lengths_between i end lengths))
    (block_lines path stats (i + 1) (lengths_between (i + 1) end lengths)) (block_lines path stats begin (lengths_between begin end lengths)) _ _ _
    so_far.2 (lines_step path stats lengths i end within c.requires) so_far.1 c.in-Ok.ensures

pub returns-in-Err : goal.returns-in-Err
returns-in-Err g c =
    let path = c.args.path.now in
    let stats = c.args.statistics.now in
    let lengths = c.args.lengths.now in
    let begin = c.args.begin in
    let end = c.args.end in
    let i = c.loop-block.block in
    let n = get_or lengths i 0 in
    let within : i < end = search rules in
    let so_far = c.loop-block.invariant in
    more_cut so_far.0 (block_line path stats i n) (block_lines path stats i (lengths_between i end lengths))
    (block_lines path stats (i + 1) (lengths_between (i + 1) end lengths)) (block_lines path stats begin (lengths_between begin end lengths)) _ _ _ c.in-Err.error
    so_far.2 (lines_step path stats lengths i end within c.requires) so_far.1 c.in-Err.ensures

pub returns : goal.returns
returns g c =
    let path = c.args.path.now in
    let stats = c.args.statistics.now in
    let lengths = c.args.lengths.now in
    let begin = c.args.begin in
    let end = c.args.end in
    let i = c.loop-block.block in
    let past : end ≤ i = search rules in
    let so_far = c.loop-block.invariant in
    all_written so_far.0 (block_lines path stats i (lengths_between i end lengths)) (block_lines path stats begin (lengths_between begin end lengths)) _ _
    so_far.2 (lines_end path stats lengths i end past) so_far.1
