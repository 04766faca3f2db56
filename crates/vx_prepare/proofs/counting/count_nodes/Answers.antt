use Rattle.std.proofs.Common.{arith}
use Rattle.vx_prepare.proofs.CountLemmas.{counted}
use Rattle.vx_prepare.proofs.counting.count_nodes.Goals as goal

pub returns-clause-number : goal.returns-clause-number
returns-clause-number c =
    let nodes = c.in_ok-nodes.nodes in
    omega (arith, c.len.ensures, nodes.ok.0, counted (λ n. n.now) nodes.items c.args.expr.now c.in_ok-nodes.ensures)
