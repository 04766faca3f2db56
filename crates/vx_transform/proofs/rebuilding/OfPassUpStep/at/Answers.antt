use Rattle.vx_transform.proofs.RebuildLemmas.{made_in_place}
use Rattle.vx_transform.proofs.rebuilding.OfPassUpStep.at.Goals as goal

pub returns : goal.returns
returns g c = made_in_place c.args.node.now (g.S.Step.step c.args.self.now.step.now c.args.node.now) c.at.result c.at.ensures
