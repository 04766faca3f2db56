use Rattle.vx_laws.proofs.Preserving.{meaning_fits}
use Rattle.vx_laws.proofs.values.meaning_fits_the_type.Goals as goal

pub returns : goal.returns
returns c = meaning_fits
