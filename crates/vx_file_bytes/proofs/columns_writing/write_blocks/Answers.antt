use Rattle.std.proofs.Common.{map, refl, sym, subst}
use Rattle.std.specs.List.{AllByRecursion}
use Rattle.std.proofs.lemmas.Result.{err_from_is_err_and}
use Rattle.vx_tables.specs.Blocks.{block_view}
use Rattle.vx_wire_bytes.specs.Fields.{IsShort, IsText}
use Rattle.vx_file_bytes.specs.WritingParts.{BlockIs, block_bytes, block_numbers}
use Rattle.vx_file_bytes.proofs.WritingLoops.{item_here, seen_breaks, seen_ends}
use Rattle.vx_file_bytes.proofs.WritingLemmas.{too_long}
use Rattle.vx_file_bytes.proofs.columns_writing.write_blocks.Goals as goal

pub returns-in_err-write_block-clause-err : goal.returns-in_err-write_block-clause-err
returns-in_err-write_block-clause-err c =
    let bs = c.args.blocks.now in
    let own = c.index-blocks-i.result in
    let here = item_here bs c.loop-i.i own c.loop-i-test.true c.index-blocks-i.is in
    let p = err_from_is_err_and c.from_residual.result c.from_residual.ensures.1 in
    rw (p.1, p.2)
    (too_long (AllByRecursion (BlockIs IsShort) (map block_view bs)) (BlockIs IsShort c.as_slice.result.now) c.in_err-write_block.field-0.0
    (λ h. subst (BlockIs IsShort) (sym c.as_slice.ensures.value)
    (seen_breaks block_view block_bytes (BlockIs IsText) (BlockIs IsShort) c.args.ranges.now.items c.loop-i.ranges.items bs (map block_view bs) c.loop-i.i own refl here c.loop-i.invariant.0 h))
    c.in_err-write_block.ensures.err)

pub returns-clause-ok : goal.returns-clause-ok
returns-clause-ok c =
    let bs = c.args.blocks.now in
    let ranges = seen_ends block_view block_bytes (BlockIs IsText) (BlockIs IsShort) c.args.ranges.now.items c.loop-i.ranges.items bs (map block_view bs) c.loop-i.i refl c.loop-i-test.false c.loop-i.invariant.0 in
    let lengths = seen_ends block_view block_numbers (BlockIs IsText) (BlockIs IsShort) c.args.header.now.items c.loop-i.header.items bs (map block_view bs) c.loop-i.i refl c.loop-i-test.false c.loop-i.invariant.1 in
    (ranges.0, lengths.0, ranges.1)
