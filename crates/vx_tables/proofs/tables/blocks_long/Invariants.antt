use Rattle.std.proofs.Common.{◌≡◌, map, drop}
use Rattle.vx_tables.specs.Blocks.{blocks_long}
use Rattle.vx_tables.specs.Blocks.{block_view}
use Rattle.vx_tables.proofs.tables.blocks_long.Given as goal

-- what is left to test
abbrev pub invariant-loop-i : goal.invariant-loop-i
invariant-loop-i l = blocks_long l.fn.width l.fn.lengths (map block_view l.fn.blocks) ≡ blocks_long l.fn.width (drop l.i l.fn.lengths) (map block_view (drop l.i l.fn.blocks))
