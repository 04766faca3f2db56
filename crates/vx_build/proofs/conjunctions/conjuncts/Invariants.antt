use Rattle.std.proofs.Common.{◌≡◌, ◌++◌, map}
use Rattle.vx_expr.specs.Conjuncts.{conjuncts_of}
use Rattle.vx_build.proofs.ConjunctLemmas.{stacked, nodes_left}
use Rattle.vx_build.proofs.conjunctions.conjuncts.Given as goal

-- what was found, and then the conjuncts of what is left
abbrev pub invariant-loop-part : goal.invariant-loop-part
invariant-loop-part l = l.found.items ++ stacked (map (λ e. e.now) l.left.items) ≡ conjuncts_of l.expr

abbrev pub decreases-loop-part : goal.decreases-loop-part
decreases-loop-part l = nodes_left (map (λ e. e.now) l.left.items)
