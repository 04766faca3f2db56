use Rattle.std.proofs.Common.{◌∙◌, ◌++◌, ap, refl}
use Rattle.vx_passes.specs.Annotating.{joined_sets}
use Rattle.vx_partition.specs.Entries.{held_at}
use Rattle.vx_partition.specs.declared.numbered.Annotated.{Annotated}
use Rattle.vx_partition.specs.declared.numbered.NumberedAnnotations.{NumberedAnnotations}
use Rattle.vx_partition.proofs.EntryLemmas.{entry_added, entries_at, extended_with}
use Rattle.vx_partition.proofs.numbered.NumberedAnnotations.add.Goals as goal

pub returns : goal.returns
returns g c =
    let same = g.A.PartialEq.eq in
    let old = c.args.self.now in
    let n = c.args.number in
    let more = c.args.more.now in
    let held = c.in_ok-push_held.ensures ∙ ap (λ xs. xs ++ held_at n old.entries.entries) c.new-annotations.ensures.items in
    let joined = c.in_ok-join.ensures ∙ ap (λ xs. joined_sets same xs more) held in
    let v : Annotated g.row.A.Denot = record { expr = c.in_ok-clone.field-0; annotations = c.join.new.set } in
    let inserted = c.in_ok-insert.ensures.entries in
    let new : NumberedAnnotations g.row.A.Denot = record { numbers = old.numbers; entries = c.insert.new.self } in
    record {
      entries = entry_added same old c.requires.sound n c.args.expr.now c.requires.number v c.in_ok-clone.ensures.cases more joined c.insert.new.self.entries inserted;
      extended =
          extended_with old new c.requires.sound refl
          (entries_at same old c.requires.sound n c.args.expr.now c.requires.number v c.in_ok-clone.ensures.cases more joined c.insert.new.self.entries inserted);
    }
