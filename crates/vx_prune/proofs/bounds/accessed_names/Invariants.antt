use Rattle.std.proofs.Common.{◌≡◌, ◌++◌, reverse, option_map}
use Rattle.vx_expr.specs.Heights.{height}
use Rattle.vx_semantics.specs.Paths.{path_of}
use Rattle.vx_prune.proofs.bounds.accessed_names.Given as goal

-- the path is that of what is left, with the names so far behind it, the last one first
abbrev pub invariant-accesses : goal.invariant-accesses
invariant-accesses l = option_map (λ above. above ++ reverse l.names.items) (path_of l.left) ≡ path_of l.expr

abbrev pub decreases-accesses : goal.decreases-accesses
decreases-accesses l = height l.left
