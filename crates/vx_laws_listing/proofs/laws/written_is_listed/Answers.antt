use Rattle.vx_laws_listing.proofs.WrittenFiles.{written_is_listed}
use Rattle.vx_laws_listing.proofs.laws.written_is_listed.Goals as goal

pub returns : goal.returns
returns c = written_is_listed
