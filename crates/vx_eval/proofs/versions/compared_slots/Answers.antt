use Rattle.vx_eval.proofs.VersionLemmas.{fewer, put_behind}
use Rattle.vx_eval.specs.Versions.{compared_slots}
use Rattle.vx_eval.proofs.versions.compared_slots.Goals as goal

pub loop-node-smaller : goal.loop-node-smaller
loop-node-smaller c =
    fewer (λ e. e.now) c.loop-node.left.items c.pop.new.self.items c.append.new.self.items c.in_ok-children.children.items c.reverse.new.self.items c.in-Some.node
    c.in-Some.ensures.items c.in_ok-children.ensures c.reverse.ensures.items c.in_ok-append.ensures.items

pub loop-node-preserved : goal.loop-node-preserved
loop-node-preserved c =
    put_behind (λ e. e.now) c.loop-node.left.items c.pop.new.self.items c.append.new.self.items c.in_ok-children.children.items c.reverse.new.self.items c.in-Some.node
    c.in-Some.ensures.items c.in_ok-children.ensures c.reverse.ensures.items c.in_ok-append.ensures.items
    (compared_slots c.args.expr.now) c.loop-node.numbers.items c.push_own_slot.new.numbers.items c.loop-node.invariant c.in_ok-push_own_slot.ensures
