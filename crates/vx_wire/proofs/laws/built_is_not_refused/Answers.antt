use Rattle.vx_wire.proofs.LawLemmas.{never_both}
use Rattle.vx_wire.proofs.laws.built_is_not_refused.Goals as goal

pub returns : goal.returns
returns c = never_both
