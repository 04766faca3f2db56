-- So many of the blocks so far are skipped.
use Rattle.std.proofs.Common.{◌≡◌, ◌≤◌, take}
use Rattle.vx_laws_explaining.specs.Explained.{number_skipped}
use Rattle.vx_explaining.proofs.texts.number_skipped.Given as goal

abbrev pub invariant-loop-out : goal.invariant-loop-out
invariant-loop-out l = record {
  number : l.number ≡ number_skipped (take l.out-index l.fn.skipped);
  few : l.number ≤ l.out-index;
}
