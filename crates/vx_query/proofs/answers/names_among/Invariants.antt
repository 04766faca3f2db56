use Rattle.std.proofs.Common.{◌≡◌, ◌++◌, drop}
use Rattle.std.specs.HashSet.{contains}
use Rattle.std.specs.List.{filter}
use Rattle.std.specs.Str.{bytes_eq}
use Rattle.vx_query.proofs.answers.names_among.Given as goal

-- the names that were found, and those that are left to find
abbrev pub invariant-loop-name : goal.invariant-loop-name
invariant-loop-name l =
    filter (contains bytes_eq l.fn.set) l.fn.names ≡ l.found.items ++ filter (contains bytes_eq l.fn.set) (drop l.name-index l.fn.names)
