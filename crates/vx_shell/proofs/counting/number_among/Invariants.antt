-- So many of the names so far are in the set.
use Rattle.std.proofs.Common.{◌≡◌, ◌≤◌, length, take}
use Rattle.std.specs.HashSet.{contains}
use Rattle.std.specs.List.{filter}
use Rattle.std.specs.Str.{bytes_eq}
use Rattle.vx_shell.proofs.counting.number_among.Given as goal

abbrev pub invariant-loop-name : goal.invariant-loop-name
invariant-loop-name l = record {
  number : l.number ≡ length (filter (contains bytes_eq l.fn.set) (take l.name-index l.fn.names));
  few : l.number ≤ l.name-index;
}
