use Rattle.std.proofs.Common.{subst, ℕ, Option, Err}
use Rattle.vx_request.specs.RequestViews.{told_view}
use Rattle.vx_laws_writing.specs.Writing.{IsFileOf}
use Rattle.vx_shell_words.specs.WordViews.{write_view}
use Rattle.vx_writing.specs.Making.{MakesFile}
use Rattle.vx_writing.proofs.RunLemmas.{kept_so, same_bytes_so, unmade_so}
use Rattle.vx_writing.proofs.keeping.keep_as_file.Goals as goal

pub returns-in-Ok : goal.returns-in-Ok
returns-in-Ok g c =
    let ask = write_view c.args.ask.now in
    let told = told_view c.args.told in
    let bytes = c.in-Ok.file.items in
    let file = subst (λ (rows : Option ℕ). IsFileOf rows told bytes) c.rows_cut.ensures c.in-Ok.ensures in
    kept_so ask told bytes _ _ c.keep_bytes.result file (same_bytes_so ask _ bytes _ _ c.keep_bytes.result c.as_slice.ensures.value c.keep_bytes.ensures)

pub returns-in-Err : goal.returns-in-Err
returns-in-Err g c =
    let told = told_view c.args.told in
    unmade_so (write_view c.args.ask.now) told _ c.in-Err.refusal (subst (λ (rows : Option ℕ). MakesFile rows told (Err c.in-Err.refusal)) c.rows_cut.ensures c.in-Err.ensures)
