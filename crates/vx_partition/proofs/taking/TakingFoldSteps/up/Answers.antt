use Rattle.vx_partition.proofs.TakeLemmas.{taken_over}
use Rattle.vx_partition.proofs.taking.TakingFoldSteps.up.Goals as goal

pub with_made-requires : goal.with_made-requires
with_made-requires g c = c.requires.1.many

pub returns : goal.returns
returns g c = λ start below.
    let e = c.args.node.now in
    taken_over g.A.PartialEq.eq g.A.Annotation.text start e c.args.results.now c.args.self.now c.in_ok-made.made below
    c.in_ok-made.ensures
