use Rattle.vx_wire_bytes.specs.Fields.{IsShort, IsText}
use Rattle.vx_tables.specs.Blocks.{block_view}
use Rattle.vx_file_bytes.specs.WritingParts.{BlockIs, block_bytes, block_numbers}
use Rattle.vx_file_bytes.proofs.WritingLoops.{IsWritingSeen}
use Rattle.vx_file_bytes.proofs.columns_writing.write_blocks.Given as goal

abbrev pub invariant-loop-i : goal.invariant-loop-i
invariant-loop-i l =
    IsWritingSeen block_view block_bytes (BlockIs IsText) (BlockIs IsShort) l.fn.ranges.items l.ranges.items l.blocks l.i
    × IsWritingSeen block_view block_numbers (BlockIs IsText) (BlockIs IsShort) l.fn.header.items l.header.items l.blocks l.i
