use Rattle.vx_expr.proofs.ChildrenLemmas.{taken_where_as_many}
use Rattle.vx_expr.proofs.laws.another_number_of_children_is_refused.Goals as goal

pub returns : goal.returns
returns c = taken_where_as_many
