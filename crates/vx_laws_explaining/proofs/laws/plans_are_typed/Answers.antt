use Rattle.vx_laws_explaining.proofs.TypedPlans as lemmas
use Rattle.vx_laws_explaining.proofs.laws.plans_are_typed.Goals as goal

pub returns : goal.returns
returns c = lemmas.plans_are_typed
