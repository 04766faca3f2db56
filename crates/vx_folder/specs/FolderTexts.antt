-- What is told of a folder that isn't opened: its fault, and the text of it.
use Rattle.std.specs.Prelude.{codes, Option, Some, None, option_map}
use Rattle.std.specs.String.{string_bytes}
use Rattle.vx_dtype.specs.Types.{Bytes}
use Rattle.vx_file_open.specs.OpenAnswers.{refusal_of}
use Rattle.vx_file_open.specs.declared.errors.FileError.{FileError}
use Rattle.vx_file_open.specs.declared.errors.FileError.TheVariants as files
use Rattle.vx_laws_shell.specs.FolderContents.{FolderFault, no_file, unopened_file, no_block_file, unlike_file, too_many_blocks}
use Rattle.vx_laws_shell.specs.FolderLines.{folder_text}
use Rattle.vx_folder.specs.declared.errors.FolderError.{FolderError}
use Rattle.vx_folder.specs.declared.errors.FolderError.TheVariants as errors

-- the fault of the folder's files that an error tells: none where there was no memory, a read failed, or the folder can't be listed
abbrev pub fault_told : FolderError → Option FolderFault
fault_told errors.NoMemory = None
fault_told errors.ReadFault = None
fault_told errors.NotListed = None
fault_told errors.NoFile = Some no_file
fault_told (errors.NotOpened name) = Some (unopened_file (string_bytes name))
fault_told (errors.NoBlockFile name error) = option_map (no_block_file (string_bytes name)) (refusal_of error)
fault_told (errors.Unlike name) = Some (unlike_file (string_bytes name))
fault_told errors.TooManyBlocks = Some too_many_blocks

-- what is told of a file's error that isn't one of its bytes
abbrev pub unread_text : FileError → Bytes
unread_text files.ReadFault = codes "a read failed"
unread_text _ = codes "there is no memory"

-- and of a folder's that isn't a fault of its files
abbrev pub faultless_text : FolderError → Bytes
faultless_text errors.ReadFault = codes "a read failed"
faultless_text errors.NotListed = codes "the folder can't be listed"
faultless_text (errors.NoBlockFile name error) = unread_text error
faultless_text _ = codes "there is no memory"

-- the text of a fault, where there is one, and another text where there is none
abbrev pub fault_text : Bytes → Option FolderFault → Bytes
fault_text other None = other
fault_text other (Some fault) = folder_text fault

-- the text of the error of the file of a name
abbrev pub unfiled_text : Bytes → FileError → Bytes
unfiled_text name error = fault_text (unread_text error) (option_map (no_block_file name) (refusal_of error))

-- the text of an error: that of its fault, where it tells one
abbrev pub error_text : FolderError → Bytes
error_text error = fault_text (faultless_text error) (fault_told error)
