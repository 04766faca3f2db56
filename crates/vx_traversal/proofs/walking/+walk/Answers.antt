use Rattle.std.proofs.Common.{rules, arith, refl, sym, subst, ◌≡◌, ◌<◌, ◌≤◌, ◌+◌, ◌-◌, ◌/◌, length, Ok, Err, Some, slice_get}
use Rattle.vx_traversal.specs.declared.order.TraversalOrder.TheVariants.{Continue, Stop}
use Rattle.vx_traversal.specs.declared.walking.Descent.TheVariants.{Goes}
use Rattle.vx_traversal.specs.Visits.{Visits}
use Rattle.vx_traversal.specs.Paths.{Descends, IsBelow, IsNext, TakesBetween, UpPath}
use Rattle.vx_traversal.proofs.Steps.{drop-next, InTurn-error, InTurn-stop, InTurn-next, ok-is}
use Rattle.vx_traversal.proofs.VisitLemmas.{Visits-through, after-continue, after-other}
use Rattle.vx_traversal.proofs.FirstVisitLemmas.{contains-at}
use Rattle.vx_traversal.proofs.PathLemmas.{Descends-error, IsBelow-first, IsBelow-lower, IsBelow-next, IsBelow-rest, TakesBetween-error, TakesBetween-stop, UpPath-error, UpPath-join, UpPath-stop, Visits-leaf, Visits-path, after-path, left_on}
use Rattle.vx_traversal.proofs.walking.+walk.Goals as goal

pub walk_between-returns-in_err-other-clause-visits : goal.walk_between-returns-in_err-other-clause-visits
walk_between-returns-in_err-other-clause-visits g t c =
    let is : c.from_residual.result ≡ Err c.in_err-other.field-0.0 = search rules in
    TakesBetween-error (Visits g.H.Target.Node.children g.W.Walker.goes_down g.W.Walker.goes_up g.H.Target.Node.height) (g.H.Target.Node.children (g.H.NodeRef.target c.args.node)) c.args.from c.args.to c.args.last c.args.walker.now c.in_err-other.field-0.0 c.from_residual.result c.walk_node.new.walker is
    (c.loop-i.invariant.left (Err c.in_err-other.field-0.0) c.walk_node.new.walker (InTurn-error (Visits g.H.Target.Node.children g.W.Walker.goes_down g.W.Walker.goes_up g.H.Target.Node.height) _ (g.H.NodeRef.target c.child.result) _ (drop-next (g.H.Target.Node.children (g.H.NodeRef.target c.args.node)) c.loop-i.i (g.H.NodeRef.target c.child.result) c.child.ensures) c.loop-i.order c.loop-i.walker c.walk_node.result c.walk_node.new.walker c.walk_node.ensures.visits c.in_err-other.field-0.0 (Err c.in_err-other.field-0.0) c.in_err-other.was refl))

pub walk_between-returns-in-Stop-clause-visits : goal.walk_between-returns-in-Stop-clause-visits
walk_between-returns-in-Stop-clause-visits g t c =
    TakesBetween-stop (Visits g.H.Target.Node.children g.W.Walker.goes_down g.W.Walker.goes_up g.H.Target.Node.height) (g.H.Target.Node.children (g.H.NodeRef.target c.args.node)) c.args.from c.args.to c.args.last c.args.walker.now c.walk_node.new.walker
    (c.loop-i.invariant.left (Ok Stop) c.walk_node.new.walker (InTurn-stop (Visits g.H.Target.Node.children g.W.Walker.goes_down g.W.Walker.goes_up g.H.Target.Node.height) _ (g.H.NodeRef.target c.child.result) _ (drop-next (g.H.Target.Node.children (g.H.NodeRef.target c.args.node)) c.loop-i.i (g.H.NodeRef.target c.child.result) c.child.ensures) c.loop-i.order c.loop-i.walker c.walk_node.result c.walk_node.new.walker c.walk_node.ensures.visits (ok-is _ _ _ c.in_ok-other.was c.in-Stop.is)))

pub walk_between-loop-i-preserved : goal.walk_between-loop-i-preserved
walk_between-loop-i-preserved g t c = record {
  again = c.walk_node.ensures.again;
  on = c.in_default.not-Stop;
  left = λ r u rest. c.loop-i.invariant.left r u (InTurn-next (Visits g.H.Target.Node.children g.W.Walker.goes_down g.W.Walker.goes_up g.H.Target.Node.height) _ (g.H.NodeRef.target c.child.result) _ (drop-next (g.H.Target.Node.children (g.H.NodeRef.target c.args.node)) c.loop-i.i (g.H.NodeRef.target c.child.result) c.child.ensures) c.loop-i.order c.loop-i.walker c.walk_node.result c.walk_node.new.walker c.walk_node.ensures.visits c.in_ok-other.other c.in_ok-other.was c.in_default.not-Stop r u rest);
}

pub walk_first-returns-in_err-go_up-clause-visits : goal.walk_first-returns-in_err-go_up-clause-visits
walk_first-returns-in_err-go_up-clause-visits g t c =
    let is : c.from_residual-in_err-go_up.result ≡ Err c.in_err-go_up.field-0.0 = search rules in
    let none : length (g.H.Target.Node.children (g.H.NodeRef.target c.args.node)) ≡ 0 = omega (arith, c.count.ensures, c.if-count-eq0.true) in
    Descends-error g.H.Target.Node.children g.W.Walker.goes_down g.W.Walker.goes_up g.H.Target.Node.height c.args.walker.now (g.H.NodeRef.target c.args.node) c.in_err-go_up.field-0.0 c.from_residual-in_err-go_up.result c.go_up-then-count-eq0.new.self is
    (Visits-leaf g.H.Target.Node.children g.W.Walker.goes_down g.W.Walker.goes_up g.H.Target.Node.height g.met.H.Target.Node.child_is_lower c.args.walker.now (g.H.NodeRef.target c.args.node) c.go_down.result c.go_down.new.self (Err c.in_err-go_up.field-0.0) c.go_up-then-count-eq0.new.self c.go_down.ensures.step (ok-is c.go_down.result _ _ c.in_ok-go_down.was c.in-Continue.is) none c.in_err-go_up.ensures.step)

pub walk_first-returns-then-count-eq0-clause-visits : goal.walk_first-returns-then-count-eq0-clause-visits
walk_first-returns-then-count-eq0-clause-visits g t c =
    let none : length (g.H.Target.Node.children (g.H.NodeRef.target c.args.node)) ≡ 0 = omega (arith, c.count.ensures, c.if-count-eq0.true) in
    Visits-leaf g.H.Target.Node.children g.W.Walker.goes_down g.W.Walker.goes_up g.H.Target.Node.height g.met.H.Target.Node.child_is_lower c.args.walker.now (g.H.NodeRef.target c.args.node) c.go_down.result c.go_down.new.self (Ok c.in_ok-go_up.field-0) c.go_up-then-count-eq0.new.self c.go_down.ensures.step (ok-is c.go_down.result _ _ c.in_ok-go_down.was c.in-Continue.is) none c.in_ok-go_up.ensures.step

pub walk_first-returns-in_err-walk_between-clause-visits : goal.walk_first-returns-in_err-walk_between-clause-visits
walk_first-returns-in_err-walk_between-clause-visits g t c =
    let is : c.from_residual-in_err-walk_between.result ≡ Err c.in_err-walk_between.field-0.0 = search rules in
    Descends-error g.H.Target.Node.children g.W.Walker.goes_down g.W.Walker.goes_up g.H.Target.Node.height c.args.walker.now (g.H.NodeRef.target c.args.node) c.in_err-walk_between.field-0.0 c.from_residual-in_err-walk_between.result c.walk_between.new.walker is
    (Visits-through g.H.Target.Node.children g.W.Walker.goes_down g.W.Walker.goes_up g.H.Target.Node.height g.met.H.Target.Node.child_is_lower c.args.walker.now (g.H.NodeRef.target c.args.node) c.go_down.result c.go_down.new.self (Err c.in_err-walk_between.field-0.0) c.walk_between.new.walker (Err c.in_err-walk_between.field-0.0) c.walk_between.new.walker c.go_down.ensures.step (ok-is c.go_down.result _ _ c.in_ok-go_down.was c.in-Continue.is)
    (c.in_err-walk_between.ensures.visits (Err c.in_err-walk_between.field-0.0) c.walk_between.new.walker (refl, refl)) (refl, refl))

pub walk_first-returns-in-Stop-2-clause-visits : goal.walk_first-returns-in-Stop-2-clause-visits
walk_first-returns-in-Stop-2-clause-visits g t c =
    Visits-through g.H.Target.Node.children g.W.Walker.goes_down g.W.Walker.goes_up g.H.Target.Node.height g.met.H.Target.Node.child_is_lower c.args.walker.now (g.H.NodeRef.target c.args.node) c.go_down.result c.go_down.new.self (Ok Stop) c.walk_between.new.walker (Ok Stop) c.walk_between.new.walker c.go_down.ensures.step (ok-is c.go_down.result _ _ c.in_ok-go_down.was c.in-Continue.is)
    (subst (λ o. TakesBetween (Visits g.H.Target.Node.children g.W.Walker.goes_down g.W.Walker.goes_up g.H.Target.Node.height) (g.H.Target.Node.children (g.H.NodeRef.target c.args.node)) 0 c.path_place-place.result Continue c.go_down.new.self (Ok o) c.walk_between.new.walker) c.in-Stop-2.is c.in_ok-walk_between.ensures.visits (Ok Stop) c.walk_between.new.walker (refl, refl)) (refl, refl)

pub walk_first-returns-in_default : goal.walk_first-returns-in_default
walk_first-returns-in_default g t c = record {
  visits = (
    c.path_place-place.ensures.place,
    c.path_place-place.ensures.within,
    λ d q u r v next visit after.
        Visits-path g.H.Target.Node.children g.W.Walker.goes_down g.W.Walker.goes_up g.H.Target.Node.height g.met.H.Target.Node.child_is_lower c.args.walker.now (g.H.NodeRef.target c.args.node) c.go_down.result c.go_down.new.self c.in_ok-walk_between.field-0 c.walk_between.new.walker d q u r v c.go_down.ensures.step (ok-is c.go_down.result _ _ c.in_ok-go_down.was c.in-Continue.is)
        (subst (λ i. TakesBetween (Visits g.H.Target.Node.children g.W.Walker.goes_down g.W.Walker.goes_up g.H.Target.Node.height) (g.H.Target.Node.children (g.H.NodeRef.target c.args.node)) 0 i Continue c.go_down.new.self (Ok c.in_ok-walk_between.field-0) c.walk_between.new.walker) c.path_place-place.ensures.place c.in_ok-walk_between.ensures.visits) c.in_default.not-Stop next visit after,
  );
  again = c.walk_between.ensures.again;
}

pub walk_last-returns-in-Continue-clause-visits : goal.walk_last-returns-in-Continue-clause-visits
walk_last-returns-in-Continue-clause-visits g t c =
    let past : length (g.H.Target.Node.children (g.H.NodeRef.target c.args.node)) ≤ c.count-count.result = omega (arith, c.count-count.ensures) in
    after-path g.H.Target.Node.children g.W.Walker.goes_down g.W.Walker.goes_up g.H.Target.Node.height (g.H.NodeRef.target c.args.node) c.path_place-place.result c.count-count.result c.args.order c.args.walker.now c.walk_between.result c.walk_between.new.walker c.go_up.result c.go_up.new.self c.path_place-place.ensures.place past c.requires.goes_on c.walk_between.ensures.visits
    (after-continue g.H.Target.Node.children g.W.Walker.goes_down g.W.Walker.goes_up g.H.Target.Node.height (g.H.NodeRef.target c.args.node) c.walk_between.result c.walk_between.new.walker c.go_up.result c.go_up.new.self (ok-is _ _ _ c.in_ok-other.was c.in-Continue.is) c.go_up.ensures.step)

pub walk_last-returns-in_default : goal.walk_last-returns-in_default
walk_last-returns-in_default g t c =
    let past : length (g.H.Target.Node.children (g.H.NodeRef.target c.args.node)) ≤ c.count-count.result = omega (arith, c.count-count.ensures) in
    record {
      visits = after-path g.H.Target.Node.children g.W.Walker.goes_down g.W.Walker.goes_up g.H.Target.Node.height (g.H.NodeRef.target c.args.node) c.path_place-place.result c.count-count.result c.args.order c.args.walker.now c.walk_between.result c.walk_between.new.walker (Ok c.in_ok-other.other) c.walk_between.new.walker c.path_place-place.ensures.place past c.requires.goes_on c.walk_between.ensures.visits
          (after-other g.H.Target.Node.children g.W.Walker.goes_down g.W.Walker.goes_up g.H.Target.Node.height (g.H.NodeRef.target c.args.node) c.walk_between.result c.walk_between.new.walker c.in_ok-other.other c.in_ok-other.was c.in_default.not-Continue);
      again = c.walk_between.ensures.again;
    }

pub walk_node-returns-in_err-order-clause-visits : goal.walk_node-returns-in_err-order-clause-visits
walk_node-returns-in_err-order-clause-visits g t c =
    let is : c.from_residual.result ≡ Err c.in_err-order.field-0.0 = search rules in
    subst (λ z. Visits g.H.Target.Node.children g.W.Walker.goes_down g.W.Walker.goes_up g.H.Target.Node.height c.args.walker.now (g.H.NodeRef.target c.args.node) z c.walk_first.new.walker) (sym is)
    (c.loop-links.invariant.left (Err c.in_err-order.field-0.0) c.walk_first.new.walker (Err c.in_err-order.field-0.0) c.walk_first.new.walker c.in_err-order.ensures.visits
    (UpPath-error g.H.Target.Node.children g.W.Walker.goes_down g.W.Walker.goes_up g.H.Target.Node.height c.loop-links.links (g.H.NodeRef.target c.args.node) (g.H.NodeRef.target c.loop-links.low) c.loop-links.invariant.path c.in_err-order.field-0.0 c.walk_first.new.walker))

pub walk_node-loop-links-smaller : goal.walk_node-loop-links-smaller
walk_node-loop-links-smaller g t c =
    let low : g.H.Target.Node.height (g.H.NodeRef.target c.child-low.result) < g.H.Target.Node.height (g.H.NodeRef.target c.loop-links.low) = g.met.H.Target.Node.child_is_lower (g.H.NodeRef.target c.loop-links.low) (g.H.NodeRef.target c.child-low.result) (contains-at (g.H.Target.Node.children (g.H.NodeRef.target c.loop-links.low)) c.in-Goes.place (g.H.NodeRef.target c.child-low.result) c.child-low.ensures) in
    low

pub walk_node-loop-links-preserved : goal.walk_node-loop-links-preserved
walk_node-loop-links-preserved g t c =
    let low : g.H.Target.Node.height (g.H.NodeRef.target c.child-low.result) < g.H.Target.Node.height (g.H.NodeRef.target c.loop-links.low) = g.met.H.Target.Node.child_is_lower (g.H.NodeRef.target c.loop-links.low) (g.H.NodeRef.target c.child-low.result) (contains-at (g.H.Target.Node.children (g.H.NodeRef.target c.loop-links.low)) c.in-Goes.place (g.H.NodeRef.target c.child-low.result) c.child-low.ensures) in
    let goes : Descends g.H.Target.Node.children g.W.Walker.goes_down g.W.Walker.goes_up g.H.Target.Node.height c.loop-links.walker (g.H.NodeRef.target c.loop-links.low) (Ok (Goes c.in-Goes.place)) c.walk_first.new.walker = subst (λ z. Descends g.H.Target.Node.children g.W.Walker.goes_down g.W.Walker.goes_up g.H.Target.Node.height c.loop-links.walker (g.H.NodeRef.target c.loop-links.low) (Ok z) c.walk_first.new.walker) c.in-Goes.is c.in_ok-order.ensures.visits in
    let next : IsNext g.H.Target.Node.children (g.H.NodeRef.target c.loop-links.low) (g.H.NodeRef.target c.child-low.result) = subst (λ i. slice_get (g.H.Target.Node.children (g.H.NodeRef.target c.loop-links.low)) i ≡ Some (g.H.NodeRef.target c.child-low.result)) goes.0 c.child-low.ensures in
    record {
      again = c.walk_first.ensures.again;
      lower = omega (arith, low, c.loop-links.invariant.lower);
      path = IsBelow-next g.H.Target.Node.children c.loop-links.links (g.H.NodeRef.target c.args.node) (g.H.NodeRef.target c.loop-links.low) (g.H.NodeRef.target c.child-low.result) c.loop-links.invariant.path next;
      left = left_on g.H.Target.Node.children g.W.Walker.goes_down g.W.Walker.goes_up g.H.Target.Node.height c.loop-links.links (g.H.NodeRef.target c.args.node) (g.H.NodeRef.target c.loop-links.low) (g.H.NodeRef.target c.child-low.result) c.loop-links.invariant.path next c.args.walker.now c.loop-links.walker c.walk_first.new.walker c.loop-links.invariant.left goes.2;
    }

pub walk_node-returns-in_err-order-2-clause-visits : goal.walk_node-returns-in_err-order-2-clause-visits
walk_node-returns-in_err-order-2-clause-visits g t c =
    let is : c.from_residual-in_err-order-2.result ≡ Err c.in_err-order-2.field-0.0 = search rules in
    subst (λ z. Visits g.H.Target.Node.children g.W.Walker.goes_down g.W.Walker.goes_up g.H.Target.Node.height c.args.walker.now (g.H.NodeRef.target c.args.node) z c.walk_node.new.walker) (sym is)
    (c.loop-links.invariant.left (Err c.in_err-order-2.field-0.0) c.walk_node.new.walker (Err c.in_err-order-2.field-0.0) c.walk_node.new.walker c.in_err-order-2.ensures.visits
    (UpPath-error g.H.Target.Node.children g.W.Walker.goes_down g.W.Walker.goes_up g.H.Target.Node.height c.loop-links.links (g.H.NodeRef.target c.args.node) (g.H.NodeRef.target c.loop-links.low) c.loop-links.invariant.path c.in_err-order-2.field-0.0 c.walk_node.new.walker))

pub walk_up-returns-in-Stop-clause-visits : goal.walk_up-returns-in-Stop-clause-visits
walk_up-returns-in-Stop-clause-visits g t c =
    subst (λ o. UpPath g.H.Target.Node.children g.W.Walker.goes_down g.W.Walker.goes_up g.H.Target.Node.height c.args.links (g.H.NodeRef.target c.args.top) (Ok o) c.args.walker.now (Ok Stop) c.args.walker.now) (sym c.in-Stop.is)
    (UpPath-stop g.H.Target.Node.children g.W.Walker.goes_down g.W.Walker.goes_up g.H.Target.Node.height c.args.links (g.H.NodeRef.target c.args.top) c.requires.path.0 c.requires.path.1 c.args.walker.now)

pub walk_up-path_node-middle-requires : goal.walk_up-path_node-middle-requires
walk_up-path_node-middle-requires g t c = IsBelow-first g.H.Target.Node.children (c.args.links / 2) c.args.links (g.H.NodeRef.target c.args.top) c.requires.path.0 (omega arith) c.requires.path.1

pub walk_up-walk_up-requires : goal.walk_up-walk_up-requires
walk_up-walk_up-requires g t c κs within =
    let low : g.H.Target.Node.height (g.H.NodeRef.target c.path_node-middle.result) + c.args.links / 2 ≤ g.H.Target.Node.height (g.H.NodeRef.target c.args.top) = IsBelow-lower g.H.Target.Node.children g.H.Target.Node.height g.met.H.Target.Node.child_is_lower (c.args.links / 2) (g.H.NodeRef.target c.args.top) (g.H.NodeRef.target c.path_node-middle.result) c.path_node-middle.ensures in
    let rest : IsBelow g.H.Target.Node.children (c.args.links - c.args.links / 2) (g.H.NodeRef.target c.path_node-middle.result) c.requires.path.0 =
    IsBelow-rest g.H.Target.Node.children (c.args.links / 2) (c.args.links - c.args.links / 2) c.args.links (g.H.NodeRef.target c.args.top) (g.H.NodeRef.target c.path_node-middle.result) c.requires.path.0 (omega arith) c.requires.path.1 c.path_node-middle.ensures in
    (omega (arith, low), (within.0, (within.1.0, (within.1.1.0, (within.1.1.1.0, (within.1.1.1.1, (c.requires.ready, (c.requires.path.0, rest))))))))

pub walk_up-returns-in_err-lower : goal.walk_up-returns-in_err-lower
walk_up-returns-in_err-lower g t c =
    let is : c.from_residual.result ≡ Err c.in_err-lower.field-0.0 = search rules in
    record {
      visits = subst (λ z. UpPath g.H.Target.Node.children g.W.Walker.goes_down g.W.Walker.goes_up g.H.Target.Node.height c.args.links (g.H.NodeRef.target c.args.top) (Ok c.args.order) c.args.walker.now z c.walk_up.new.walker) (sym is)
          (UpPath-join g.H.Target.Node.children g.W.Walker.goes_down g.W.Walker.goes_up g.H.Target.Node.height (c.args.links / 2) (c.args.links - c.args.links / 2) c.args.links (g.H.NodeRef.target c.args.top) (g.H.NodeRef.target c.path_node-middle.result) (omega arith) c.path_node-middle.ensures (Ok c.args.order) c.args.walker.now (Err c.in_err-lower.field-0.0) c.walk_up.new.walker (Err c.in_err-lower.field-0.0) c.walk_up.new.walker c.in_err-lower.ensures.visits
          (UpPath-error g.H.Target.Node.children g.W.Walker.goes_down g.W.Walker.goes_up g.H.Target.Node.height (c.args.links / 2) (g.H.NodeRef.target c.args.top) (g.H.NodeRef.target c.path_node-middle.result) c.path_node-middle.ensures c.in_err-lower.field-0.0 c.walk_up.new.walker));
      again = c.walk_up.ensures.again;
    }

pub walk_up-returns : goal.walk_up-returns
walk_up-returns g t c = record {
  visits = UpPath-join g.H.Target.Node.children g.W.Walker.goes_down g.W.Walker.goes_up g.H.Target.Node.height (c.args.links / 2) (c.args.links - c.args.links / 2) c.args.links (g.H.NodeRef.target c.args.top) (g.H.NodeRef.target c.path_node-middle.result) (omega arith) c.path_node-middle.ensures (Ok c.args.order) c.args.walker.now (Ok c.in_ok-lower.lower) c.walk_up.new.walker c.walk_up-2.result c.walk_up-2.new.walker c.in_ok-lower.ensures.visits c.walk_up-2.ensures.visits;
  again = c.walk_up-2.ensures.again;
}
