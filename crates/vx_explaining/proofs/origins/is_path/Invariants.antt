-- No byte so far makes the name a path.
use Rattle.std.proofs.Common.{◌≡◌, drop}
use Rattle.std.specs.List.{list_any}
use Rattle.vx_laws_shell.specs.Origins.{is_of_path}
use Rattle.vx_explaining.proofs.origins.is_path.Given as goal

abbrev pub invariant-loop-byte : goal.invariant-loop-byte
invariant-loop-byte l = list_any is_of_path l.fn.name ≡ list_any is_of_path (drop l.byte-index l.fn.name)
