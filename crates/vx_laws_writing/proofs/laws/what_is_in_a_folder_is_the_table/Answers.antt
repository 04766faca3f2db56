use Rattle.vx_laws_writing.proofs.FolderTables.{what_is_in_a_folder_is_the_table}
use Rattle.vx_laws_writing.proofs.laws.what_is_in_a_folder_is_the_table.Goals as goal

pub returns : goal.returns
returns c = what_is_in_a_folder_is_the_table
