use Rattle.vx_expr.proofs.ChildrenLemmas.{with_own_children}
use Rattle.vx_expr.proofs.laws.own_children_change_nothing.Goals as goal

pub returns : goal.returns
returns c = with_own_children
