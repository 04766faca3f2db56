-- The lines of the blocks so far were written, and those of the others are left.
use Rattle.std.proofs.Common.{◌≡◌, ◌++◌, Ok}
use Rattle.vx_dtype.specs.Types.{Bytes}
use Rattle.vx_laws_shell.specs.Running.{end_by}
use Rattle.vx_laws_listing.specs.ListingTexts.{block_lines, lengths_between}
use Rattle.vx_listing.specs.ListingSteps.{WritesText}
use Rattle.vx_listing.proofs.writing.write_blocks.Given as goal

abbrev pub invariant-loop-block : goal.invariant-loop-block
invariant-loop-block g l =
    let sink = end_by g.O.Sink.written g.O.Sink.faults in
    let stats = l.statistics in
    (so_far : Bytes) × WritesText so_far (sink l.fn.output) (sink l.output) (Ok tt)
    × (so_far ++ block_lines l.path stats l.block (lengths_between l.block l.end l.lengths) ≡ block_lines l.path stats l.begin (lengths_between l.begin l.end l.lengths))
