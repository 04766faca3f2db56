-- Some blocks of a table, one behind another, as a table of their own, with their statistics.
use Rattle.std.specs.Prelude.{◌≡◌, ℕ, ◌+◌, ◌≤◌, nat_le, Bool, [], ◌++◌, length, Option, Some, None}
use Rattle.vx_expr.specs.Trees.{Tree}
use Rattle.vx_semantics.specs.Tables.{Table, Zones}
use Rattle.vx_semantics.specs.Scans.{kept_rows_of}
use Rattle.vx_scan.specs.Stores.{Read}
use Rattle.vx_scan.specs.Cutting.{first_zones, later_zones, first_blocks, later_blocks}
use Rattle.vx_laws_shell.specs.Words.{BlockRange}

-- the statistics of these blocks, and the table of them
abbrev pub zones_within : BlockRange → Zones → Zones
zones_within range zones = later_zones range.from (first_zones range.up_to zones)

abbrev pub table_within : BlockRange → Table → Table
table_within range table = later_blocks range.from (first_blocks range.up_to table)

-- the blocks that are asked: all where none are named
abbrev pub range_or_all : ℕ → Option BlockRange → BlockRange
range_or_all blocks None = record { from = 0; up_to = blocks }
range_or_all blocks (Some range) = range

-- whether blocks are among so many
abbrev pub is_within : ℕ → BlockRange → Bool
is_within blocks range = nat_le range.up_to blocks

-- the read in a table of a read in some of its blocks
abbrev pub read_behind : BlockRange → Read → Read
read_behind range read = (range.from + read.0, read.1)

-- the rows of a scan of the blocks up to a middle one, and then those of the blocks behind it, are the rows of a scan of all of them
abbrev pub PartsJoin : Type 0
PartsJoin =
    (table : Table) (zones : Zones) (f p : Tree) (range : BlockRange) (middle : ℕ) → length table.blocks ≡ length zones.lengths
    → range.from ≤ middle → middle ≤ range.up_to → range.up_to ≤ length zones.lengths
    → kept_rows_of (table_within range table) (zones_within range zones) [] f p
    ≡ kept_rows_of (table_within (record range { up_to = middle }) table) (zones_within (record range { up_to = middle }) zones) [] f p
    ++ kept_rows_of (table_within (record range { from = middle }) table) (zones_within (record range { from = middle }) zones) [] f p
