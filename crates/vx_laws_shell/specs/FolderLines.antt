-- Why files of a folder are no table, as a text.
use Rattle.std.specs.Prelude.{◌++◌, codes}
use Rattle.vx_dtype.specs.Types.{Bytes}
use Rattle.vx_laws_file.specs.Opening.{FileRefusal, bad_magic, bad_header, bad_zones, bad_end}
use Rattle.vx_laws_shell.specs.FolderContents.{FolderFault, no_file, unopened_file, no_block_file, unlike_file, too_many_blocks}

-- why bytes are no block file
abbrev pub misfiled_text : FileRefusal → Bytes
misfiled_text bad_magic = codes "no block file: it doesn't begin with the mark"
misfiled_text bad_header = codes "no block file: it has no header"
misfiled_text (bad_zones e) = codes "no block file: a name or a statistic stands twice in its header"
misfiled_text bad_end = codes "no block file: it doesn't end where its last column does"

-- why files of a folder are no table: what is wrong of one of them stands behind its name
abbrev pub folder_text : FolderFault → Bytes
folder_text no_file = codes "the folder has no block file"
folder_text (unopened_file name) = name ++ codes " can't be opened"
folder_text (no_block_file name r) = name ++ (codes ": " ++ misfiled_text r)
folder_text (unlike_file name) = name ++ codes " hasn't the columns and statistics of the files before it"
folder_text too_many_blocks = codes "the files of the folder have more than 4294967295 blocks"
