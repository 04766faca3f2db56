use Rattle.vx_laws_topk.proofs.BoundedFilters as filters
use Rattle.vx_laws_topk.proofs.bounding.block_rows_are_packed.Goals as goal

pub returns-clause-rows : goal.returns-clause-rows
returns-clause-rows c = filters.block_rows_are_packed

pub returns-clause-unpacked : goal.returns-clause-unpacked
returns-clause-unpacked c = filters.packed_is_unpacked
