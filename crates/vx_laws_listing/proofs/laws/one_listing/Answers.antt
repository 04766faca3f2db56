use Rattle.vx_laws_listing.proofs.ListedFiles.{listed_is_not_refused, one_listing}
use Rattle.vx_laws_listing.proofs.laws.one_listing.Goals as goal

pub returns : goal.returns
returns c = record { one = one_listing; refused = listed_is_not_refused }
