-- The tables that are whole stand before what is made of the part that is begun and the blocks that are left.
use Rattle.std.proofs.Common.{◌≡◌, ℕ, ◌≤◌, List, ◌++◌, length, map, take}
use Rattle.vx_column.specs.Columns.{Column}
use Rattle.vx_tables.specs.Blocks.{block_view}
use Rattle.vx_cutting.specs.Parting.{no_block, parts_behind, parted_view, table_of_part}
use Rattle.vx_cutting.specs.PartViews.{part_view, IsOpen}
use Rattle.vx_cutting.proofs.parting.in_parts.Given as goal

abbrev pub invariant-loop-block : goal.invariant-loop-block
invariant-loop-block l =
    ((ns : List ℕ) (blocks : List (List Column))
    → map (table_of_part l.fn.zones) (parts_behind l.fn.most no_block (take l.place l.fn.zones.lengths ++ ns) (map block_view l.yielded ++ blocks))
    ≡ map parted_view l.whole.items ++ map (table_of_part l.fn.zones) (parts_behind l.fn.most (part_view l.part) ns blocks))
    × IsOpen l.part × (length l.part.lengths.items ≤ l.place) × (l.place ≡ length l.yielded)
