-- What was taken so far are the first bytes, and no read failed.
use Rattle.std.proofs.Common.{◌≡◌, ◌<◌, ◌≤◌, ◌-◌, vec_len, length}
use Rattle.vx_io.specs.Ends.{TookFirst}
use Rattle.vx_io.proofs.reading.read_by.Given as goal

abbrev pub invariant-chunks : goal.invariant-chunks
invariant-chunks g l = record {
  took : TookFirst (g.I.Source.left l.fn.input) (g.I.Source.left l.input) l.bytes.items;
  within : length l.bytes.items ≤ l.most;
  room : 0 < length l.chunk;
  same : g.I.Source.faults l.input ≡ g.I.Source.faults l.fn.input;
}

abbrev pub decreases-chunks : goal.decreases-chunks
decreases-chunks g l = l.most - vec_len l.bytes
