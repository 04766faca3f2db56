use Rattle.std.proofs.Common.{ap, sym, ◌∙◌, option_map}
use Rattle.vx_kernels.specs.Lookups.{key_raw}
use Rattle.vx_kernels.proofs.LookupLemmas.{none_have}
use Rattle.vx_kernels.proofs.lookups.have_key.Goals as goal

pub returns-in-None : goal.returns-in-None
returns-in-None c = sym (none_have _ _ (sym c.key_of.ensures ∙ ap (option_map key_raw) c.in-None.is))
