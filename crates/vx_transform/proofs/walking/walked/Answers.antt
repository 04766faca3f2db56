use Rattle.vx_dtype.specs.TypeViews.{type_view}
use Rattle.vx_transform.proofs.WalkLemmas.{walked_passed}
use Rattle.vx_transform.proofs.walking.walked.Goals as goal

pub returns-in-Ok : goal.returns-in-Ok
returns-in-Ok c = walked_passed (type_view c.args.scope.now) c.args.e.now (type_view c.in-Ok._dtype) c.walk.result c.in-Ok.ensures c.walk.ensures
