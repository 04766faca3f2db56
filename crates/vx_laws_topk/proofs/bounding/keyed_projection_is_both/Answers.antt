use Rattle.vx_laws_topk.proofs.BoundedFilters as filters
use Rattle.vx_laws_topk.proofs.bounding.keyed_projection_is_both.Goals as goal

pub returns-clause-typed : goal.returns-clause-typed
returns-clause-typed c = filters.keyed_projection_is_struct

pub returns-clause-slots : goal.returns-clause-slots
returns-clause-slots c = filters.keyed_projection_fits

pub returns-clause-means : goal.returns-clause-means
returns-clause-means c = filters.keyed_projection_means

pub returns-clause-asks : goal.returns-clause-asks
returns-clause-asks c = filters.keyed_projection_asks
