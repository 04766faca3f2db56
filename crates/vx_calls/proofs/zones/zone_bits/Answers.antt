use Rattle.vx_laws_simplifying.proofs.Passes.{no_slots-fit}
use Rattle.vx_calls.proofs.zones.zone_bits.Goals as goal

pub ruled_out-requires-clause-slots : goal.ruled_out-requires-clause-slots
ruled_out-requires-clause-slots c = no_slots-fit c.args.tree.now
