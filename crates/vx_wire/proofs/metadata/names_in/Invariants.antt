use Rattle.vx_wire.proofs.FieldLemmas.{AreRead}
use Rattle.vx_wire.proofs.metadata.names_in.Given as goal

abbrev pub invariant-names : goal.invariant-names
invariant-names l = AreRead l.bytes l.number l.names.items l.at l.counter
