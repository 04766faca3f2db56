use Rattle.std.proofs.Common.{◌≡◌, map, drop}
use Rattle.std.specs.List.{list_all}
use Rattle.vx_tables.specs.Blocks.{have_types, block_fits}
use Rattle.vx_tables.specs.Blocks.{block_view}
use Rattle.vx_tables.proofs.tables.have_types.Given as goal

-- what is left to test
abbrev pub invariant-loop-block : goal.invariant-loop-block
invariant-loop-block l = (have_types l.fn.zones (map block_view l.fn.blocks) ≡ have_types l.fn.zones (map block_view (drop l.block-index l.fn.blocks))) × (list_all block_fits (map block_view l.fn.blocks) ≡ list_all block_fits (map block_view (drop l.block-index l.fn.blocks)))
