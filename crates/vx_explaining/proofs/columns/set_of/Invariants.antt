-- The set has just the names so far.
use Rattle.std.proofs.Common.{◌≡◌, List, ℕ, take}
use Rattle.std.specs.HashSet.{contains}
use Rattle.std.specs.Str.{bytes_eq}
use Rattle.vx_dtype.specs.TypeRules.{has_name}
use Rattle.vx_explaining.proofs.columns.set_of.Given as goal

abbrev pub invariant-loop-name : goal.invariant-loop-name
invariant-loop-name l = (c : List ℕ) → contains bytes_eq l.set c ≡ has_name c (take l.name-index l.names)
