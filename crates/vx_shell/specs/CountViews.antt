-- How what was counted is seen.
use Rattle.std.specs.Prelude.{List, length}
use Rattle.std.specs.List.{filter, list_any}
use Rattle.std.specs.Str.{bytes_eq}
use Rattle.vx_dtype.specs.Types.{Bytes}
use Rattle.vx_dtype.specs.TypeRules.{field_names}
use Rattle.vx_laws_shell.specs.Lines as lines
use Rattle.vx_scan.specs.Stores.{Read}
use Rattle.vx_semantics.specs.Tables.{Zones}
use Rattle.vx_shell.specs.declared.answers.Found.{Found}
use Rattle.vx_shell.specs.declared.counting.Counts.{Counts}

-- what was counted
abbrev pub counts_view : Counts → lines.Counts
counts_view c = record { blocks = c.blocks; skipped = c.skipped; columns = c.columns; columns_read = c.columns_read; rows = c.rows }

-- the columns that were read at least once, in the table's order
abbrev pub names_read : Zones → List Read → List Bytes
names_read zones reads = filter (λ c. list_any (λ r. bytes_eq c r.1) reads) (field_names zones.columns)

-- the counts of what was found over a table with these zones by these reads
abbrev pub counts_read : Zones → List Read → Found → lines.Counts
counts_read zones reads found =
    record {
      blocks = found.blocks;
      skipped = found.skipped;
      columns = length (field_names zones.columns);
      columns_read = length (names_read zones reads);
      rows = found.rows;
    }
