use Rattle.std.proofs.Common.{◌≡◌, map, take}
use Rattle.vx_semantics.specs.Tables.{joined_path}
use Rattle.vx_prune.proofs.available_paths.joined_names.Given as goal

-- the joined names so far
abbrev pub invariant-loop-path : goal.invariant-loop-path
invariant-loop-path l = l.names.items ≡ map joined_path (take l.path-index l.fn.paths)
