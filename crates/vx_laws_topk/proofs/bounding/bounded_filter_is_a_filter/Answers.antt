use Rattle.vx_laws_topk.proofs.BoundedFilters as filters
use Rattle.vx_laws_topk.proofs.bounding.bounded_filter_is_a_filter.Goals as goal

pub returns-clause-boolean : goal.returns-clause-boolean
returns-clause-boolean c = filters.bounded_filter_is_boolean

pub returns-clause-slots : goal.returns-clause-slots
returns-clause-slots c = filters.bound_slots_fit

pub returns-clause-rules_out : goal.returns-clause-rules_out
returns-clause-rules_out c = filters.bounded_filter_rules_out

pub returns-clause-asks : goal.returns-clause-asks
returns-clause-asks c = filters.bounded_filter_asks
