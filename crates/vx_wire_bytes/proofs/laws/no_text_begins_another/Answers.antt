use Rattle.vx_wire_bytes.proofs.ReadLemmas.{one_node}
use Rattle.vx_wire_bytes.proofs.laws.no_text_begins_another.Goals as goal

pub returns : goal.returns
returns c = one_node
