use Rattle.vx_wire_bytes.specs.Fields.{IsShort, IsText}
use Rattle.vx_laws_file.specs.FileForms.{column_bytes}
use Rattle.vx_file_bytes.specs.WritingParts.{ColumnIs, column_number}
use Rattle.vx_file_bytes.proofs.WritingLoops.{IsWriting}
use Rattle.vx_file_bytes.proofs.columns_writing.write_block.Given as goal

abbrev pub invariant-loop-i : goal.invariant-loop-i
invariant-loop-i l =
    IsWriting column_bytes (ColumnIs IsText) (ColumnIs IsShort) l.fn.ranges.items l.ranges.items l.columns l.i
    × IsWriting column_number (ColumnIs IsText) (ColumnIs IsShort) l.fn.header.items l.header.items l.columns l.i
