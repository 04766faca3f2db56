use Rattle.std.proofs.Common.{rules, [], ◌≡◌, map}
use Rattle.vx_expr.proofs.PostOrderLemmas.{all_found, alone, child_more, fewer, mapped_more, walked_on}
use Rattle.vx_expr.proofs.expressions.ExprRef.post_order.Goals as goal

pub loop-expr-init : goal.loop-expr-init
loop-expr-init c = rw (c.new-nodes.ensures.items, c.in_ok-push.ensures.items, c.new-left.ensures.items) (alone c.args.self.now)

pub loop-expr-smaller : goal.loop-expr-smaller
loop-expr-smaller c =
    fewer (map (λ e. e.now) c.pop.new.self.items) (map (λ e. e.now) c.loop-expr.left.items) (map (λ e. e.now) c.loop-i.left.items) c.in-Some.expr.now c.children_count-i-end.result c.loop-i.i
    (mapped_more (λ e. e.now) c.pop.new.self.items c.loop-expr.left.items c.in-Some.expr c.in-Some.ensures.items) c.children_count-i-end.ensures c.loop-i.auto.i-end c.loop-i-test.false c.loop-i.invariant

pub loop-expr-preserved : goal.loop-expr-preserved
loop-expr-preserved c =
    walked_on (map (λ e. e.now) c.pop.new.self.items) (map (λ e. e.now) c.loop-expr.left.items) (map (λ e. e.now) c.loop-i.left.items) (map (λ e. e.now) c.loop-expr.nodes.items)
    (map (λ e. e.now) c.push-in-Some.new.self.items) c.in-Some.expr.now c.args.self.now c.children_count-i-end.result c.loop-i.i
    (mapped_more (λ e. e.now) c.pop.new.self.items c.loop-expr.left.items c.in-Some.expr c.in-Some.ensures.items) c.children_count-i-end.ensures c.loop-i.auto.i-end c.loop-i-test.false c.loop-i.invariant
    (mapped_more (λ e. e.now) c.loop-expr.nodes.items c.push-in-Some.new.self.items c.in-Some.expr c.in_ok-push-2.ensures.items) c.loop-expr.invariant

pub loop-i-preserved : goal.loop-i-preserved
loop-i-preserved c =
    child_more (map (λ e. e.now) c.pop.new.self.items) (map (λ e. e.now) c.loop-i.left.items) (map (λ e. e.now) c.push-in-loop-i.new.self.items) c.in-Some.expr.now c.child_at.result.now c.loop-i.i
    c.child_at.ensures c.loop-i.invariant (mapped_more (λ e. e.now) c.loop-i.left.items c.push-in-loop-i.new.self.items c.child_at.result c.in_ok-push-3.ensures.items)

pub returns : goal.returns
returns c =
    let none : c.loop-expr.left.items ≡ [] = search rules in
    all_found (λ e. e.now) c.loop-expr.left.items c.loop-expr.nodes.items c.reverse.new.self.items c.args.self.now none c.reverse.ensures.items c.loop-expr.invariant
