use Rattle.vx_wire_bytes.proofs.TypeWriting.{IsWritingFields}
use Rattle.vx_file_bytes.proofs.header_writing.write_columns.Given as goal

abbrev pub invariant-loop-i : goal.invariant-loop-i
invariant-loop-i l = IsWritingFields l.fn.out.items l.out.items l.fields l.i
