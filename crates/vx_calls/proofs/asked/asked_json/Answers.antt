use Rattle.vx_laws_simplifying.proofs.Passes.{no_slots-fit}
use Rattle.vx_calls.proofs.asked.asked_json.Goals as goal

pub prepared-requires-clause-slots : goal.prepared-requires-clause-slots
prepared-requires-clause-slots c = no_slots-fit c.args.typed.now.tree
