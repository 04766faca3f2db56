use Rattle.std.proofs.Common.{ap, ◌∙◌}
use Rattle.vx_passes.specs.Annotating.{annotated_from}
use Rattle.vx_partition.proofs.annotating.numbered_annotations.Goals as goal

pub returns : goal.returns
returns g c =
    let made = c.in_ok-number.ensures in
    record {
      entries = made.entries ∙ ap (annotated_from g.F.Annotation.PartialEq.eq (g.F.AnnotationFn.annotated c.args.annotate.now) c.args.expr.now) c.new.ensures.empty;
      sound = made.extended.sound;
      number = made.numbers.0;
    }
