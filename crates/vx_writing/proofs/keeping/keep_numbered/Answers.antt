use Rattle.std.proofs.Common.{◌≡◌, ◌∙◌, ap, map}
use Rattle.vx_files.specs.FolderKeeping.{named_view}
use Rattle.vx_laws_writing.specs.Writing.{numbered_from}
use Rattle.vx_shell_words.specs.WordViews.{write_view}
use Rattle.vx_writing.specs.Making.{bytes_at}
use Rattle.vx_writing.proofs.RunLemmas.{same_files_so}
use Rattle.vx_writing.proofs.keeping.keep_numbered.Goals as goal

pub returns-in-Ok : goal.returns-in-Ok
returns-in-Ok g c =
    let named : map named_view c.as_slice.result.now ≡ numbered_from 0 (map bytes_at c.args.kept.items) = ap (map named_view) c.as_slice.ensures.value ∙ c.in-Ok.ensures in
    same_files_so (write_view c.args.ask.now) _ _ _ _ c.keep_named.result named c.keep_named.ensures
