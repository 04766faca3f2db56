use Rattle.vx_laws_listing.proofs.ListedFolders.{one_folder_listing}
use Rattle.vx_laws_listing.proofs.laws.one_folder_listing.Goals as goal

pub returns : goal.returns
returns c = one_folder_listing
