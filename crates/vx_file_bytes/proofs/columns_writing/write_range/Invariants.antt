use Rattle.std.proofs.Common.{◌+◌, ◌<◌, length}
use Rattle.vx_dtype.specs.Values.{Val}
use Rattle.vx_wire_bytes.specs.Fields.{IsShort, IsText}
use Rattle.vx_wire_bytes.specs.ValueForms.{TextsAre}
use Rattle.vx_laws_file.specs.Cells.{raw_value, cell_bytes}
use Rattle.vx_file_bytes.proofs.WritingLoops.{IsWriting}
use Rattle.vx_file_bytes.proofs.columns_writing.write_range.Given as goal

-- the cells before the row are written, and they are short together
abbrev pub invariant-loop-i : goal.invariant-loop-i
invariant-loop-i l =
    IsWriting (cell_bytes l.column.ty) (λ (v : Val). TextsAre IsText (raw_value v)) (λ (v : Val). TextsAre IsShort (raw_value v)) l.fn.out.items l.out.items l.column.rows l.i
    × (length l.out.items < length l.fn.out.items + 4294967296)
