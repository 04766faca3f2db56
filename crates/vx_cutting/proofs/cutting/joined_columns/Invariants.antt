use Rattle.std.proofs.Common.{◌≡◌, ◌++◌, map, drop}
use Rattle.vx_dtype.specs.StructTypes.{field_types}
use Rattle.vx_tables.specs.Blocks.{block_view}
use Rattle.vx_cutting.specs.Cutting.{joined_from, joined_columns}
use Rattle.vx_cutting.proofs.cutting.joined_columns.Given as goal

-- the columns so far, and then those from the place on
abbrev pub invariant-loop-i : goal.invariant-loop-i
invariant-loop-i l =
    let blocks = map block_view l.blocks in
    l.columns.items ++ joined_from blocks l.i (drop l.i (field_types l.zones.columns)) ≡ joined_columns l.zones blocks
