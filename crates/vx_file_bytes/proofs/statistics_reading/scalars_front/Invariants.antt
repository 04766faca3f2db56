use Rattle.vx_dtype.specs.TypeViews.{type_view}
use Rattle.vx_laws_file.specs.HeaderReading.{scalar_at}
use Rattle.vx_file_bytes.proofs.ItemLemmas.{IsReadingItems}
use Rattle.vx_file_bytes.proofs.statistics_reading.scalars_front.Given as goal

abbrev pub invariant-loop : goal.invariant-loop
invariant-loop l = IsReadingItems (scalar_at (type_view l.dtype)) l.number l.bytes l.counter l.rest l.scalars.items
