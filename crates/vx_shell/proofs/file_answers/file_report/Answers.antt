use Rattle.vx_shell.proofs.file_answers.file_report.Goals as goal

pub returns : goal.returns
returns g c = c.report.ensures c.args.file.now.damaged c.damage.ensures
