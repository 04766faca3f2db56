-- How the names of tables are seen.
use Rattle.std.specs.String.{string_bytes}
use Rattle.vx_laws_shell.specs.Origins as origins
use Rattle.vx_shell.specs.declared.origins.Origin.{Origin}
use Rattle.vx_shell.specs.declared.origins.Origin.TheVariants.{StandardInput, BlockFile, Folder}

-- where the bytes of a table are
abbrev pub origin_view : Origin → origins.Origin
origin_view StandardInput = origins.standard_input
origin_view (BlockFile path) = origins.block_file (string_bytes path)
origin_view (Folder path) = origins.folder (string_bytes path)
