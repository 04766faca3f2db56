use Rattle.std.proofs.Common.{◌+◌, ◌*◌, map}
use Rattle.vx_dtype.specs.TypeViews.{type_view}
use Rattle.vx_wire_bytes.specs.TypeReading.{type_at}
use Rattle.vx_wire_bytes.proofs.FieldLoops.{IsReadingFields}
use Rattle.vx_wire_bytes.proofs.types.+type_front.Given as goal

abbrev pub decreases-fields_front : goal.decreases-fields_front
decreases-fields_front l = 3 * l.deep + 1

abbrev pub decreases-tagged_front : goal.decreases-tagged_front
decreases-tagged_front l = 3 * l.deep + 2

abbrev pub decreases-type_front : goal.decreases-type_front
decreases-type_front l = 3 * l.deep

abbrev pub invariant-fields_front-loop : goal.invariant-fields_front-loop
invariant-fields_front-loop l = IsReadingFields (type_at l.deep) l.bytes l.number l.counter l.rest l.names.items (map type_view l.dtypes.items)
