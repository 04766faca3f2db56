-- What was taken so far are the first bytes, and no read failed.
use Rattle.std.proofs.Common.{◌≡◌, ◌<◌, ◌≤◌, ◌-◌, vec_len, length}
use Rattle.vx_file_ranges.proofs.Taking.{TookFrom}
use Rattle.vx_file_ranges.proofs.pieces.read_by.Given as goal

abbrev pub invariant-chunks : goal.invariant-chunks
invariant-chunks g l = record {
  took : TookFrom (g.R.Ranged.bytes l.fn.source) l.place l.bytes.items;
  within : length l.bytes.items ≤ l.count;
  room : 0 < length l.chunk;
  same : g.R.Ranged.bytes l.source ≡ g.R.Ranged.bytes l.fn.source;
  quiet : g.R.Ranged.faults l.source ≡ g.R.Ranged.faults l.fn.source;
}

abbrev pub decreases-chunks : goal.decreases-chunks
decreases-chunks g l = l.count - vec_len l.bytes
