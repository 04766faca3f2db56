use Rattle.vx_laws_shell.proofs.FolderFiles.{files_are_joined, joined_files_are_honest, built_files_are_one_folder, built_files_have_built_statistics}
use Rattle.vx_laws_shell.proofs.laws.files_are_one_table.Goals as goal

pub returns : goal.returns
returns c = record {
  blocks = files_are_joined;
  honest = joined_files_are_honest;
  built = built_files_are_one_folder;
  statistics = built_files_have_built_statistics;
}
