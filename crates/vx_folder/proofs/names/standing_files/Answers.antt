use Rattle.std.proofs.Common.{◌∙◌, sym, ap, subst, List, String, Global, ◌∷◌, [], ◌++◌}
use Rattle.vx_laws_shell.specs.FolderContents.{is_file_name}
use Rattle.vx_folder.proofs.NameLemmas.{AreSoFar, one_put_in, one_left_out}
use Rattle.vx_folder.proofs.names.standing_files.Goals as goal

pub loop-name-preserved-in_ok-insert : goal.loop-name-preserved-in_ok-insert
loop-name-preserved-in_ok-insert c =
    let name = c.in-Some.name in
    let file = ap is_file_name (sym c.as_str.ensures.value) ∙ sym c.is_file_name.ensures ∙ c.if-is_file_name.true in
    subst (λ (names : List (String Global)). AreSoFar names (c.loop-name.yielded ++ name ∷ [])) (sym c.in_ok-insert.ensures.keys)
    (one_put_in c.loop-name.standing.keys c.loop-name.yielded name file c.loop-name.invariant)

pub loop-name-preserved : goal.loop-name-preserved
loop-name-preserved c =
    let file = ap is_file_name (sym c.as_str.ensures.value) ∙ sym c.is_file_name.ensures ∙ c.if-is_file_name.false in
    one_left_out c.loop-name.standing.keys c.loop-name.yielded c.in-Some.name file c.loop-name.invariant
