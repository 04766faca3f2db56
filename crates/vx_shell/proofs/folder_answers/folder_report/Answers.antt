use Rattle.vx_shell.proofs.folder_answers.folder_report.Goals as goal

pub returns-clause-reports : goal.returns-clause-reports
returns-clause-reports g c = c.report.ensures c.args.files.now.damaged c.damage.ensures

pub returns-clause-kept : goal.returns-clause-kept
returns-clause-kept g c = c.log.ensures.kept
