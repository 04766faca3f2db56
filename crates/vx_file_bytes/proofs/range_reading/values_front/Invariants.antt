use Rattle.vx_dtype.specs.TypeViews.{type_view}
use Rattle.vx_file_bytes.proofs.RangeLemmas.{IsReadingValues}
use Rattle.vx_file_bytes.proofs.range_reading.values_front.Given as goal

abbrev pub invariant-loop : goal.invariant-loop
invariant-loop l = IsReadingValues (type_view l.dtype) l.rows l.bytes l.counter l.rest l.values.items
