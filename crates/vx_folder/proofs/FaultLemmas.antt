-- The fault that is told of a folder that isn't opened is the one by which it isn't.
use Rattle.std.proofs.Common.{◌≡◌, ap, subst, Option, Some, None}
use Rattle.std.specs.Prelude.{option_map}
use Rattle.std.specs.String.{string_bytes}
use Rattle.std.proofs.lemmas.Option.{same_Some, none-some}
use Rattle.vx_dtype.specs.Types.{Bytes}
use Rattle.vx_laws_file.specs.Opening.{FileRefusal}
use Rattle.vx_file_open.specs.OpenAnswers.{refusal_of}
use Rattle.vx_laws_shell.specs.Paths.{Paths}
use Rattle.vx_laws_shell.specs.FolderContents.{FolderFault, no_file, unopened_file, no_block_file, unlike_file, too_many_blocks, IsFolderFault, WhereFiles}
use Rattle.vx_laws_shell.specs.FolderLines.{folder_text}
use Rattle.vx_folder.specs.FolderAnswers.{IsRefusedFolder, TellsRefusal}
use Rattle.vx_folder.specs.FolderTexts.{error_text, fault_text, fault_told, faultless_text}
use Rattle.vx_folder.specs.declared.errors.FolderError.{FolderError}
use Rattle.vx_folder.specs.declared.errors.FolderError.TheVariants as errors

-- where a fault is told, the text of the error is its text
pub text_of_fault : (error : FolderError) (fault : FolderFault) → fault_told error ≡ Some fault → error_text error ≡ folder_text fault
text_of_fault error fault e = ap (fault_text (faultless_text error)) e

module _ (paths : Paths) (path : Bytes) where
  abbrev pub HasFault : FolderFault → Type 0
  HasFault fault = WhereFiles paths path (λ names. IsFolderFault paths.kept path names fault)

  as_told : (own fault : FolderFault) → HasFault own → Some own ≡ Some fault → HasFault fault
  as_told own fault h e = subst HasFault (same_Some own fault e) h

  of_file : (o : Option FileRefusal) (name : Bytes) (fault : FolderFault)
      → WhereFiles paths path (λ names. TellsRefusal o (λ r. IsFolderFault paths.kept path names (no_block_file name r)))
      → option_map (no_block_file name) o ≡ Some fault → HasFault fault
  of_file None name fault h e = absurd (none-some fault e)
  of_file (Some r) name fault h e = as_told (no_block_file name r) fault h e

  pub fault_is : (error : FolderError) (fault : FolderFault) → IsRefusedFolder paths path error → fault_told error ≡ Some fault → HasFault fault
  fault_is errors.NoMemory fault h e = absurd (none-some fault e)
  fault_is errors.ReadFault fault h e = absurd (none-some fault e)
  fault_is errors.NotListed fault h e = absurd (none-some fault e)
  fault_is errors.NoFile fault h e = as_told no_file fault h e
  fault_is (errors.NotOpened name) fault h e = as_told (unopened_file (string_bytes name)) fault h e
  fault_is (errors.NoBlockFile name error) fault h e = of_file (refusal_of error) (string_bytes name) fault h e
  fault_is (errors.Unlike name) fault h e = as_told (unlike_file (string_bytes name)) fault h e
  fault_is errors.TooManyBlocks fault h e = as_told too_many_blocks fault h e
