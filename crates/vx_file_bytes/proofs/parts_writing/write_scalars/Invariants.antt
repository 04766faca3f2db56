use Rattle.vx_dtype.specs.Values.{Typed}
use Rattle.vx_wire_bytes.specs.Fields.{IsShort, IsText}
use Rattle.vx_wire_bytes.specs.ValueForms.{TextsAre}
use Rattle.vx_laws_file.specs.FileForms.{scalar_bytes}
use Rattle.vx_file_bytes.proofs.WritingLoops.{IsWriting}
use Rattle.vx_file_bytes.proofs.parts_writing.write_scalars.Given as goal

abbrev pub invariant-loop-block : goal.invariant-loop-block
invariant-loop-block l = IsWriting scalar_bytes (λ (s : Typed). TextsAre IsText s.value) (λ (s : Typed). TextsAre IsShort s.value) l.fn.out.items l.out.items l.statistic.values l.block
