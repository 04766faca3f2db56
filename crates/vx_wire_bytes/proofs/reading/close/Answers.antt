use Rattle.std.proofs.Common.{refl, ap, ◌∙◌, sym, arith}
use Rattle.std.proofs.lemmas.List.{nil_from_length}
use Rattle.vx_wire_bytes.specs.Reading.{closed, still_open}
use Rattle.vx_wire_bytes.specs.WireViews.{tree_view}
use Rattle.vx_wire_bytes.specs.OpenViews.{stack_of}
use Rattle.vx_wire_bytes.proofs.TreeLemmas.{tree_view-roll}
use Rattle.vx_wire_bytes.proofs.StackLemmas.{close-open, close-whole, close-none}
use Rattle.vx_wire_bytes.proofs.reading.close.Goals as goal

pub returns-then-len-children : goal.returns-then-len-children
returns-then-len-children c =
    let before = ap (λ os. closed (stack_of os) (tree_view c.loop-inner.node)) (sym c.in-Some.ensures.items) ∙ c.loop-inner.invariant in
    ap (λ os. still_open (stack_of os)) c.in_ok-push-2.ensures.items
    ∙ close-open c.pop.new.self.items c.in-Some.inner (record { id = c.in-Some.inner.id; metadata = c.in-Some.inner.metadata; children = c.in-Some.inner.children; whole = c.push.new.self }) c.loop-inner.node _ refl c.in_ok-push.ensures.items (omega arith) before

pub loop-inner-preserved : goal.loop-inner-preserved
loop-inner-preserved c =
    let before = ap (λ os. closed (stack_of os) (tree_view c.loop-inner.node)) (sym c.in-Some.ensures.items) ∙ c.loop-inner.invariant in
    ap (closed (stack_of c.pop.new.self.items)) (tree_view-roll (record { id = c.in-Some.inner.id; metadata = c.in-Some.inner.metadata; children = c.push.new.self }))
    ∙ close-whole c.pop.new.self.items c.in-Some.inner c.loop-inner.node c.push.new.self.items _ c.in_ok-push.ensures.items (omega arith) before

pub returns : goal.returns
returns c = close-none c.loop-inner.nodes.items c.loop-inner.node _ (nil_from_length c.loop-inner.nodes.items (omega (arith, c.in_default.ensures.cases))) c.loop-inner.invariant
