use Rattle.std.proofs.Common.{subst, ℕ, Option, Err, map}
use Rattle.vx_request.specs.RequestViews.{told_view}
use Rattle.vx_laws_file.specs.FileForms.{most_rows}
use Rattle.vx_laws_writing.specs.Writing.{AreFilesOfParts}
use Rattle.vx_shell_words.specs.WordViews.{write_view}
use Rattle.vx_writing.specs.Making.{KeepsParts, bytes_at}
use Rattle.vx_writing.proofs.RunLemmas.{folder_so, unparted_so}
use Rattle.vx_writing.proofs.keeping.keep_in_folder.Goals as goal

pub returns-in-Ok : goal.returns-in-Ok
returns-in-Ok g c =
    let told = told_view c.args.told in
    let kept = map bytes_at c.in-Ok.kept.items in
    let files = subst (λ (rows : Option ℕ). AreFilesOfParts most_rows rows told kept) c.rows_cut.ensures c.in-Ok.ensures in
    folder_so (write_view c.args.ask.now) told kept _ _ c.keep_numbered.result files c.keep_numbered.ensures

pub returns-in-Err : goal.returns-in-Err
returns-in-Err g c =
    let told = told_view c.args.told in
    unparted_so (write_view c.args.ask.now) told _ c.in-Err.refusal
    (subst (λ (rows : Option ℕ). KeepsParts most_rows rows told (Err c.in-Err.refusal)) c.rows_cut.ensures c.in-Err.ensures)
