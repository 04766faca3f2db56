use Rattle.std.proofs.Common.{map}
use Rattle.vx_wire_bytes.specs.Reading.{number_at}
use Rattle.vx_laws_file.specs.HeaderReading.{items_with}
use Rattle.vx_file_bytes.proofs.ItemLemmas.{IsReadingItems}
use Rattle.vx_file_bytes.proofs.columns_reading.range_lengths_front.Given as goal

abbrev pub invariant-loop : goal.invariant-loop
invariant-loop l = IsReadingItems (items_with number_at l.width) l.blocks l.bytes l.counter l.rest (map (λ ns. ns.items) l.blocks_lengths.items)
