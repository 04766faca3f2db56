use Rattle.vx_wire_bytes.specs.Reading.{text_at}
use Rattle.vx_file_bytes.proofs.ItemLemmas.{IsReadingItems}
use Rattle.vx_file_bytes.proofs.fronts.names_front.Given as goal

abbrev pub invariant-loop : goal.invariant-loop
invariant-loop l = IsReadingItems text_at l.number l.bytes l.counter l.rest l.names.items
