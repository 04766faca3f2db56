use Rattle.std.proofs.Common.{◌≡◌, map, take}
use Rattle.vx_dtype.specs.TypeViews.{type_view}
use Rattle.vx_semantics.specs.Typing.{names_in}
use Rattle.vx_typing.proofs.merges.names_in_each.Given as goal

-- the names of the types so far
abbrev pub invariant-loop-dtype : goal.invariant-loop-dtype
invariant-loop-dtype l = l.names.items ≡ map names_in (map type_view (take l.dtype-index l.types))
