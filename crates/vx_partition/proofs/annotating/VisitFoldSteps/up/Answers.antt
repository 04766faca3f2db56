use Rattle.std.proofs.Common.{refl}
use Rattle.vx_partition.proofs.VisitLemmas.{visited_over}
use Rattle.vx_partition.proofs.annotating.VisitFoldSteps.up.Goals as goal

pub visit_over-requires-clause-sound : goal.visit_over-requires-clause-sound
visit_over-requires-clause-sound g c = c.requires.1.visited.extended.sound

pub visit_over-requires-clause-below : goal.visit_over-requires-clause-below
visit_over-requires-clause-below g c = c.requires.1.visited.numbers

pub returns : goal.returns
returns g c = λ start below.
    let old = c.args.self.now in
    let made = c.in_ok-number.ensures in
    visited_over g.F.Annotation.PartialEq.eq g.F.AnnotationFn.annotated start c.args.node.now c.args.results.now old (record { rule = old.rule; found = c.visit_over.new.found }) c.in_ok-number.number
    below refl made.entries made.extended made.number
