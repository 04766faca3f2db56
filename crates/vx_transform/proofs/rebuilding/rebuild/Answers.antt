use Rattle.std.proofs.Common.{Ok}
use Rattle.vx_transform.proofs.RebuildLemmas.{made_up, refused_up}
use Rattle.vx_transform.proofs.rebuilding.rebuild.Goals as goal

pub returns-in-Ok : goal.returns-in-Ok
returns-in-Ok g c = made_up (g.S.Step.step c.args.step.now) c.args.expr (Ok c.in-Ok.made) c.in-Ok.ensures

pub returns-in-Err-Visit : goal.returns-in-Err-Visit
returns-in-Err-Visit g c = refused_up (g.S.Step.step c.args.step.now) c.args.expr c.in-Err-Visit.field-0 c.in-Err-Visit.refused c.in-Err-Visit.field-0-is c.in-Err-Visit.ensures
