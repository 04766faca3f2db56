-- How the origin of a table is seen.
use Rattle.std.specs.String.{string_bytes}
use Rattle.vx_laws_shell.specs.Origins as spec
use Rattle.vx_explaining.specs.declared.origins.Origin.{Origin}
use Rattle.vx_explaining.specs.declared.origins.Origin.TheVariants.{StandardInput, BlockFile, Folder}

abbrev pub origin_view : Origin → spec.Origin
origin_view StandardInput = spec.standard_input
origin_view (BlockFile path) = spec.block_file (string_bytes path)
origin_view (Folder path) = spec.folder (string_bytes path)
