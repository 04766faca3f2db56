use Rattle.std.proofs.Common.{◌++◌, length}
use Rattle.vx_wire_bytes.specs.Numbers.{number_bytes}
use Rattle.vx_wire_bytes.specs.Fields.{IsShort, IsText}
use Rattle.vx_laws_file.specs.FileForms.{statistic_bytes}
use Rattle.vx_laws_file.specs.Lengths.{StatisticTextsAre}
use Rattle.vx_file_bytes.proofs.WritingLoops.{IsWriting}
use Rattle.vx_file_bytes.proofs.header_writing.write_statistics.Given as goal

abbrev pub invariant-loop-i : goal.invariant-loop-i
invariant-loop-i l =
    IsWriting statistic_bytes (StatisticTextsAre IsText) (StatisticTextsAre IsShort) (l.fn.out.items ++ number_bytes (length l.stats)) l.out.items l.stats l.i
