use Rattle.std.proofs.Common.{sym, subst, List, String, Global, map}
use Rattle.std.specs.String.{string_bytes}
use Rattle.vx_laws_shell.specs.FolderContents.{AreFileNames}
use Rattle.vx_folder.proofs.NameLemmas.{are_file_names}
use Rattle.vx_folder.proofs.names.file_names.Goals as goal

pub returns : goal.returns
returns c =
    let listed = c.args.listed.items in
    subst (λ (names : List (String Global)). AreFileNames (map string_bytes listed) (map string_bytes names)) (sym c.in_ok-names.ensures.names)
    (are_file_names listed c.in_ok-standing.standing.keys c.in_ok-names.ensures.ascending c.in_ok-standing.ensures)
