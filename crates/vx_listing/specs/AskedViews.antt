-- How what words ask is seen.
use Rattle.std.specs.String.{string_bytes}
use Rattle.vx_laws_shell.specs.Origins.{Origin, block_file, folder}
use Rattle.vx_listing.specs.declared.words.Asked.{Asked}
use Rattle.vx_listing.specs.declared.words.Asked.TheVariants as asked

-- where the blocks are that words ask
abbrev pub asked_view : Asked → Origin
asked_view (asked.BlockFile path) = block_file (string_bytes path)
asked_view (asked.Folder path) = folder (string_bytes path)
