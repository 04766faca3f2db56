use Rattle.std.proofs.Common.{◌≡◌, ◌∙◌, sym, ap, true, false}
use Rattle.std.specs.String.{string_bytes}
use Rattle.vx_files.specs.FolderKeeping.{is_folder}
use Rattle.vx_request.specs.RequestViews.{told_view}
use Rattle.vx_shell_words.specs.WordViews.{write_view}
use Rattle.vx_writing.proofs.RunLemmas.{same_kind_so}
use Rattle.vx_writing.proofs.keeping.keep_told.Goals as goal

pub keep_in_folder-requires-clause-folder : goal.keep_in_folder-requires-clause-folder
keep_in_folder-requires-clause-folder g c = sym (ap is_folder c.as_str.ensures.value) ∙ sym c.is_folder.ensures ∙ c.if-is_folder.true

pub returns-then-is_folder : goal.returns-then-is_folder
returns-then-is_folder g c =
    let folder : is_folder (string_bytes c.args.ask.now.path) ≡ true =
    sym (ap is_folder c.as_str.ensures.value) ∙ sym c.is_folder.ensures ∙ c.if-is_folder.true in
    same_kind_so _ true (write_view c.args.ask.now) (told_view c.args.told) _ _ c.keep_in_folder.result folder c.keep_in_folder.ensures

pub returns : goal.returns
returns g c =
    let file : is_folder (string_bytes c.args.ask.now.path) ≡ false =
    sym (ap is_folder c.as_str.ensures.value) ∙ sym c.is_folder.ensures ∙ c.if-is_folder.false in
    same_kind_so _ false (write_view c.args.ask.now) (told_view c.args.told) _ _ c.keep_as_file.result file c.keep_as_file.ensures
