use Rattle.vx_request.specs.RequestViews.{told_view}
use Rattle.vx_writing.proofs.PartFiles.{uncut}
use Rattle.vx_writing.proofs.making.tables_of.Goals as goal

pub returns-in-Ok : goal.returns-in-Ok
returns-in-Ok c = c.parts_kept.ensures c.args.rows (told_view c.args.told) c.in-Ok.ensures

pub returns-in-Err : goal.returns-in-Err
returns-in-Err c = uncut c.args.most c.args.rows (told_view c.args.told) c.in-Err.refusal c.in-Err.ensures
