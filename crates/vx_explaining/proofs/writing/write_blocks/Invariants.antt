-- The pieces of the blocks so far were written, and those of the others are left.
use Rattle.std.proofs.Common.{◌≡◌, ◌++◌, drop, Ok}
use Rattle.vx_dtype.specs.Types.{Bytes}
use Rattle.vx_laws_shell.specs.Running.{end_by}
use Rattle.vx_laws_explaining.specs.Explanations.{blocks_in}
use Rattle.vx_explaining.specs.ExplainedViews.{explained_view, form_view}
use Rattle.vx_explaining.specs.ExplainingSteps.{WritesText}
use Rattle.vx_explaining.proofs.writing.write_blocks.Given as goal

abbrev pub invariant-loop-block : goal.invariant-loop-block
invariant-loop-block g l =
    let end = end_by g.O.Sink.written g.O.Sink.faults in
    let form = form_view l.form in
    let x = explained_view l.explained in
    (so_far : Bytes) × WritesText so_far (end l.fn.output) (end l.output) (Ok tt)
    × (so_far ++ blocks_in form x l.block (drop l.block x.lengths) (drop l.block x.skipped) ≡ blocks_in form x 0 x.lengths x.skipped)
