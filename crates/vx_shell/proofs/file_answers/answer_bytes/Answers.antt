use Rattle.std.proofs.Common.{inl, inr, refl, sym, subst, Err}
use Rattle.vx_request.specs.RequestViews.{told_view}
use Rattle.vx_request.specs.Tables.{told_table}
use Rattle.vx_shell.specs.FileRuns.{IsUntold}
use Rattle.vx_shell.specs.declared.errors.Refusal.{Refusal}
use Rattle.vx_laws_shell.proofs.ToldTables.{told_tables_are_tables}
use Rattle.vx_shell.proofs.FileAnswers.{untold_so}
use Rattle.vx_shell.proofs.file_answers.answer_bytes.Goals as goal

pub answer_table-requires : goal.answer_table-requires
answer_table-requires g c = record { order = c.requires; table = told_tables_are_tables c.args.bytes.now (told_view c.in-Ok.told) c.in-Ok.ensures }

pub returns-in-Ok : goal.returns-in-Ok
returns-in-Ok g c = inl (told_view c.in-Ok.told, c.in-Ok.ensures, c.answer_table.ensures)

pub returns-in-Err : goal.returns-in-Err
returns-in-Err g c =
    inr (
      refl,
      subst (λ (r : Refusal). IsUntold (told_table c.args.bytes.now) (Err r)) (sym c.from.ensures)
          (untold_so (told_table c.args.bytes.now) c.in-Err.error c.in-Err.ensures),
    )
