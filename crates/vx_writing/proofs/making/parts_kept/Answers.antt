use Rattle.std.proofs.Common.{map}
use Rattle.vx_request.specs.RequestViews.{told_view}
use Rattle.vx_writing.proofs.PartFiles.{parts_made}
use Rattle.vx_writing.proofs.making.parts_kept.Goals as goal

pub returns-in-Ok : goal.returns-in-Ok
returns-in-Ok c = λ rows told is. parts_made c.args.most rows told (told_view c.args.table) (map told_view c.in-Ok.tables.items) is c.in-Ok.ensures.few c.in-Ok.ensures.parts
