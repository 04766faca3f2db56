use Rattle.vx_laws_shell.proofs.FolderAnswers.{answers_of_files, statements_of_files}
use Rattle.vx_laws_shell.proofs.FolderScans.{scans_of_files}
use Rattle.vx_laws_shell.proofs.laws.files_are_answered_in_turn.Goals as goal

pub returns : goal.returns
returns c = record { scans = scans_of_files; answers = answers_of_files; statements = statements_of_files }
