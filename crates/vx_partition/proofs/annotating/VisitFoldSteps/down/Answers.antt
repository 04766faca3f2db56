use Rattle.std.proofs.Common.{ap, refl, sym, ◌∙◌}
use Rattle.std.specs.Prelude.{vec_len}
use Rattle.vx_passes.specs.Annotating.{annotated_up, with_annotations}
use Rattle.vx_partition.specs.Entries.{numbered_entries}
use Rattle.vx_partition.proofs.VisitLemmas.{empty_is, filled_is, children_visited, visited_alone}
use Rattle.vx_partition.proofs.annotating.VisitFoldSteps.down.Goals as goal

pub returns-then-is_empty : goal.returns-then-is_empty
returns-then-is_empty g c =
    let own = c.in_ok-own.own in
    let none = empty_is own.items (vec_len own) c.is_empty.result c.is_empty.ensures own.ok.0 c.if-is_empty.true in
    children_visited g.F.Annotation.PartialEq.eq g.F.AnnotationFn.annotated c.args.self.now c.args.node.now (sym c.in_ok-own.ensures ∙ none) c.requires

pub returns : goal.returns
returns g c =
    let old = c.args.self.now in
    let made = c.in_ok-number.ensures in
    let own = c.in_ok-own.own in
    let some = filled_is own.items (vec_len own) c.is_empty.result c.is_empty.ensures own.ok.0 c.if-is_empty.false in
    visited_alone g.F.Annotation.PartialEq.eq g.F.AnnotationFn.annotated old c.args.node.now own.items (record { rule = old.rule; found = c.visit_alone.new.found }) c.in_ok-number.number
    c.in_ok-own.ensures some refl (made.entries ∙ ap (λ ys. annotated_up g.F.Annotation.PartialEq.eq c.args.node.now (with_annotations g.F.Annotation.PartialEq.eq c.args.node.now ys (numbered_entries old.found))) c.as_slice.ensures.value) made.extended made.number
