use Rattle.std.proofs.Common.{refl, sym, subst, inl, inr, Err}
use Rattle.vx_shell.specs.FileRuns.{IsMisfiled}
use Rattle.vx_shell.specs.declared.errors.Refusal.{Refusal}
use Rattle.vx_shell.proofs.FileAnswers.{new_unread, misfiled}
use Rattle.vx_shell.proofs.file_answers.answer_source.Goals as goal

pub answer_opened-requires : goal.answer_opened-requires
answer_opened-requires g c =
    record { order = c.requires; unread = new_unread (g.R.Ranged.bytes c.args.source) (g.R.Ranged.faults c.args.source) c.in-Ok.file c.in-Ok.ensures.opened }

pub returns-in-Ok : goal.returns-in-Ok
returns-in-Ok g c =
    inl (record { file = c.in-Ok.file; bytes = c.in-Ok.ensures.opened.bytes; opened = c.in-Ok.ensures.file; answers = c.answer_opened.ensures })

pub returns-in-Err : goal.returns-in-Err
returns-in-Err g c =
    inr (
      refl,
      subst (λ (r : Refusal). IsMisfiled (g.R.Ranged.bytes c.args.source) (Err r)) (sym c.from.ensures)
          (misfiled (g.R.Ranged.bytes c.args.source) c.in-Err.refused.error c.in-Err.ensures.refused),
    )
