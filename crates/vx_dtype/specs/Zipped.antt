-- Fields made of a list of names and a list of as many types.
use Rattle.std.specs.Prelude.{List, [], ◌∷◌}
use Rattle.vx_dtype.specs.Types.{Bytes, Ty, Fields, no_fields, field}

-- the fields with these names, each beside the type at its place, as far as both lists go
abbrev pub zipped : List Bytes → List Ty → Fields
zipped [] ts = no_fields
zipped (f ∷ fs) [] = no_fields
zipped (f ∷ fs) (t ∷ ts) = field f t (zipped fs ts)
