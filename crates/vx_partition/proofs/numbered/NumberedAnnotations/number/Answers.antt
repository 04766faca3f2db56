use Rattle.std.proofs.Common.{refl}
use Rattle.vx_partition.specs.Entries.{Extends}
use Rattle.vx_partition.specs.Numbering.{Grows}
use Rattle.vx_partition.specs.declared.numbered.NumberedAnnotations.{NumberedAnnotations}
use Rattle.vx_partition.proofs.EntryLemmas.{sound_with}
use Rattle.vx_partition.proofs.VisitLemmas.{on_ok}
use Rattle.vx_partition.proofs.numbered.NumberedAnnotations.number.Goals as goal

pub returns-clause-extended : goal.returns-clause-extended
returns-clause-extended g c =
    let old = c.args.self.now in
    let new : NumberedAnnotations g.row.A.Denot = record { numbers = c.number.new.self; entries = old.entries } in
    on_ok c.number.result (Grows old.numbers new.numbers) (Extends old new) (λ grown. sound_with old new c.requires.sound grown refl) c.number.ensures.grown
