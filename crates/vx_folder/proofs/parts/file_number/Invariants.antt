-- the file stands from the low place on, and before the high one
use Rattle.std.proofs.Common.{◌<◌, ◌≤◌, ◌-◌, length, get_or}
use Rattle.vx_folder.proofs.parts.file_number.Given as goal

abbrev pub invariant-loop-high : goal.invariant-loop-high
invariant-loop-high l =
    (l.low < l.high) × (l.high ≤ length l.begins) × (get_or l.begins l.low 0 ≤ l.blocks) × (l.high < length l.begins → l.blocks < get_or l.begins l.high 0)

abbrev pub decreases-loop-high : goal.decreases-loop-high
decreases-loop-high l = l.high - l.low
