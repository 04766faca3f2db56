use Rattle.std.proofs.Common.{◌++◌, length}
use Rattle.vx_dtype.specs.PathViews.{part_name}
use Rattle.vx_wire_bytes.specs.Numbers.{number_bytes, piece_bytes}
use Rattle.vx_wire_bytes.specs.Fields.{IsShort, IsText}
use Rattle.vx_file_bytes.proofs.WritingLoops.{IsWritingSeen}
use Rattle.vx_file_bytes.proofs.parts_writing.write_path.Given as goal

abbrev pub invariant-loop-i : goal.invariant-loop-i
invariant-loop-i l = IsWritingSeen part_name piece_bytes IsText IsShort (l.fn.out.items ++ number_bytes (length l.path)) l.out.items l.parts l.i
