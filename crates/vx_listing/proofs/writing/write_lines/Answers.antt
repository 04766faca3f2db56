use Rattle.std.proofs.Common.{ap, length}
use Rattle.vx_laws_listing.specs.ListingTexts.{block_lines, columns_line}
use Rattle.vx_listing.proofs.WriteLemmas.{all_blocks_as, text_cut, text_then}
use Rattle.vx_listing.proofs.writing.write_lines.Goals as goal

pub returns-in-Ok-clause-writes : goal.returns-in-Ok-clause-writes
returns-in-Ok-clause-writes g c =
    let path = c.args.path.now in
    let zones = c.args.zones.now in
    let blocks =
    all_blocks_as path c.statistics.result.now zones.stats (length c.lengths-lengths.result.now) c.lengths-lengths.result.now zones.lengths _ _ _ c.statistics.ensures.stats c.lengths-lengths.ensures.lengths
    (ap length c.lengths-lengths.ensures.lengths) c.write_blocks.ensures in
    text_then (columns_line zones.columns) (block_lines path zones.stats 0 zones.lengths) _ _ _ _ c.in-Ok.ensures blocks

pub returns-in-Err-clause-writes : goal.returns-in-Err-clause-writes
returns-in-Err-clause-writes g c = text_cut _ _ _ _ c.in-Err.error c.in-Err.ensures
