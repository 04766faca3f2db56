-- The lines of the files so far were written, and those of the others are left.
use Rattle.std.proofs.Common.{◌≡◌, ◌++◌, map, drop, Ok}
use Rattle.std.specs.String.{string_bytes}
use Rattle.vx_dtype.specs.Types.{Bytes}
use Rattle.vx_laws_shell.specs.Running.{end_by}
use Rattle.vx_laws_listing.specs.ListingTexts.{part_lines}
use Rattle.vx_listing.specs.ListingSteps.{WritesText}
use Rattle.vx_listing.proofs.folders.write_parts.Given as goal

abbrev pub invariant-loop-file : goal.invariant-loop-file
invariant-loop-file g l =
    let sink = end_by g.O.Sink.written g.O.Sink.faults in
    (so_far : Bytes) × WritesText so_far (sink l.fn.output) (sink l.output) (Ok tt)
    × (so_far ++ part_lines l.path l.zones (map string_bytes (drop l.file l.names)) (drop l.file l.begins) ≡ part_lines l.path l.zones (map string_bytes l.names) l.begins)
