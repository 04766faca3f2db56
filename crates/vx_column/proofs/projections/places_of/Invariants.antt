use Rattle.std.proofs.Common.{◌≡◌, take, map, Some}
use Rattle.vx_column.specs.StructColumns.{place_of}
use Rattle.vx_column.proofs.projections.places_of.Given as goal

-- the places of the names so far
abbrev pub invariant-loop-name : goal.invariant-loop-name
invariant-loop-name l = map (place_of l.fn.fields) (take l.name-index l.fn.names) ≡ map Some l.places.items
