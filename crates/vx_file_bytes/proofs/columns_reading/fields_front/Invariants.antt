use Rattle.std.proofs.Common.{map}
use Rattle.vx_dtype.specs.TypeRules.{most_deep}
use Rattle.vx_dtype.specs.TypeViews.{type_view}
use Rattle.vx_wire_bytes.specs.TypeReading.{type_at}
use Rattle.vx_wire_bytes.proofs.FieldLoops.{IsReadingFields}
use Rattle.vx_file_bytes.proofs.columns_reading.fields_front.Given as goal

abbrev pub invariant-loop : goal.invariant-loop
invariant-loop l = IsReadingFields (type_at most_deep) l.bytes l.number l.counter l.rest l.names.items (map type_view l.dtypes.items)
