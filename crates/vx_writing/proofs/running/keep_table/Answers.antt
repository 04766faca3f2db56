use Rattle.std.specs.String.{string_bytes}
use Rattle.vx_request.specs.RequestViews.{told_view}
use Rattle.vx_laws_writing.specs.Writing.{most_asked}
use Rattle.vx_laws_writing.proofs.TextTables.{tables_told_are_tables}
use Rattle.vx_shell_words.specs.WordViews.{form_view, write_view}
use Rattle.vx_writing.proofs.RunLemmas.{run_told, run_untold}
use Rattle.vx_writing.proofs.running.keep_table.Goals as goal

pub keep_told-requires-clause-table : goal.keep_told-requires-clause-table
keep_told-requires-clause-table g c =
    let tells = c.in-Ok.ensures in
    let ask = c.args.ask.now in
    tables_told_are_tables (most_asked (string_bytes ask.path)) (form_view ask.form) ask.rows tells.0 (told_view c.in-Ok.told) tells.3

pub returns-in-Ok : goal.returns-in-Ok
returns-in-Ok g c =
    let tells = c.in-Ok.ensures in
    λ words form. run_told words _ _ _ _ (write_view c.args.ask.now) (told_view c.in-Ok.told) tells.0 c.keep_told.result form tells.1 tells.2 tells.3 c.keep_told.ensures

pub returns-in-Err : goal.returns-in-Err
returns-in-Err g c = λ words form. run_untold words _ _ _ (write_view c.args.ask.now) c.in-Err.refusal form c.in-Err.ensures
