use Rattle.vx_laws_shell.proofs.FolderContents.{joined_contents_are_files, joined_damage_is_of_files, joined_damage_is_decided}
use Rattle.vx_laws_shell.proofs.folder_laws.folders_hold_their_files.Goals as goal

pub returns : goal.returns
returns c = record { table = joined_contents_are_files; damage = joined_damage_is_of_files; decided = joined_damage_is_decided }
