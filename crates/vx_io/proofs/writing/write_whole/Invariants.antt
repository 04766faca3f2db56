-- The text up to here was added, and no fault was taken back.
use Rattle.std.proofs.Common.{◌≤◌, ◌-◌, length, take}
use Rattle.vx_io.specs.Ends.{Added}
use Rattle.vx_io.proofs.writing.write_whole.Given as goal

abbrev pub invariant-pieces : goal.invariant-pieces
invariant-pieces g l = record {
  added : Added (g.O.Sink.written l.fn.output) (g.O.Sink.written l.output) (take l.at l.text);
  within : l.at ≤ length l.text;
  later : g.O.Sink.faults l.fn.output ≤ g.O.Sink.faults l.output;
}

abbrev pub decreases-pieces : goal.decreases-pieces
decreases-pieces g l = length l.text - l.at
