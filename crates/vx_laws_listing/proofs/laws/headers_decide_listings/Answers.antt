use Rattle.vx_laws_listing.proofs.ListedFiles.{headers_decide}
use Rattle.vx_laws_listing.proofs.laws.headers_decide_listings.Goals as goal

pub returns : goal.returns
returns c = headers_decide
