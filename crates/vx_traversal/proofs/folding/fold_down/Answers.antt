use Rattle.std.proofs.Common.{rules, ◌≡◌, subst, refl, Ok, Err, Some, slice_get, length}
use Rattle.vx_traversal.proofs.FoldFrameLemmas.{errs, child-errs, child-goes, child-skips, child-stops}
use Rattle.vx_traversal.proofs.folding.fold_down.Goals as goal

pub returns-in_err-given : goal.returns-in_err-given
returns-in_err-given g c =
    let same : c.len.result ≡ length c.args.frame.results.items = search rules in
    let at : slice_get (g.F.NodeTy.Node.children c.args.frame.node) (length c.args.frame.results.items) ≡ Some c.in_ok-child.child = subst (λ i. slice_get (g.F.NodeTy.Node.children c.args.frame.node) i ≡ Some c.in_ok-child.child) same c.in_ok-child.ensures.child in
    let is : c.from_residual-in_err-given.result ≡ Err c.in_err-given.field-0.0 = search rules in
    errs g.F.NodeTy.Node.children g.F.Folding.goes_down g.F.Folding.goes_up g.F.NodeTy.Node.height c.args.outer.now.items c.args.outer.now.items c.args.frame c.args.folder.now c.args.ctx.now c.in_err-given.field-0.0 c.from_residual-in_err-given.result c.go_down.new.self is
    (child-errs g.F.NodeTy.Node.children g.F.Folding.goes_down g.F.Folding.goes_up g.F.NodeTy.Node.height g.met.F.NodeTy.Node.child_is_lower c.args.outer.now.items c.args.frame c.args.folder.now c.in_ok-child.child at c.go_down.new.self c.args.ctx.now c.in_err-given.field-0.0 c.in_err-given.ensures)

pub returns-in-Stop : goal.returns-in-Stop
returns-in-Stop g c =
    let same : c.len.result ≡ length c.args.frame.results.items = search rules in
    let at : slice_get (g.F.NodeTy.Node.children c.args.frame.node) (length c.args.frame.results.items) ≡ Some c.in_ok-child.child = subst (λ i. slice_get (g.F.NodeTy.Node.children c.args.frame.node) i ≡ Some c.in_ok-child.child) same c.in_ok-child.ensures.child in
    child-stops g.F.NodeTy.Node.children g.F.Folding.goes_down g.F.Folding.goes_up g.F.NodeTy.Node.height g.met.F.NodeTy.Node.child_is_lower c.args.outer.now.items c.args.frame c.args.folder.now c.in_ok-child.child at c.go_down.new.self c.args.ctx.now c.in-Stop.given
    (subst (λ x. g.F.Folding.goes_down c.args.folder.now c.args.frame.inner c.in_ok-child.child (Ok x) c.go_down.new.self) c.in-Stop.is c.in_ok-given.ensures)

pub returns-in_ok-with_result-in-Skip : goal.returns-in_ok-with_result-in-Skip
returns-in_ok-with_result-in-Skip g c =
    let same : c.len.result ≡ length c.args.frame.results.items = search rules in
    let at : slice_get (g.F.NodeTy.Node.children c.args.frame.node) (length c.args.frame.results.items) ≡ Some c.in_ok-child.child = subst (λ i. slice_get (g.F.NodeTy.Node.children c.args.frame.node) i ≡ Some c.in_ok-child.child) same c.in_ok-child.ensures.child in
    child-skips g.F.NodeTy.Node.children g.F.Folding.goes_down g.F.Folding.goes_up g.F.NodeTy.Node.height g.met.F.NodeTy.Node.child_is_lower c.args.outer.now.items c.args.frame c.args.folder.now c.in_ok-child.child at c.go_down.new.self c.args.ctx.now c.in-Skip.given c.in_ok-with_result-in-Skip.field-0
    (subst (λ x. g.F.Folding.goes_down c.args.folder.now c.args.frame.inner c.in_ok-child.child (Ok x) c.go_down.new.self) c.in-Skip.is c.in_ok-given.ensures)
    c.in_ok-with_result-in-Skip.ensures

pub returns-in_ok-push-in-Continue : goal.returns-in_ok-push-in-Continue
returns-in_ok-push-in-Continue g c =
    let same : c.len.result ≡ length c.args.frame.results.items = search rules in
    let at : slice_get (g.F.NodeTy.Node.children c.args.frame.node) (length c.args.frame.results.items) ≡ Some c.in_ok-child.child = subst (λ i. slice_get (g.F.NodeTy.Node.children c.args.frame.node) i ≡ Some c.in_ok-child.child) same c.in_ok-child.ensures.child in
    child-goes g.F.NodeTy.Node.children g.F.Folding.goes_down g.F.Folding.goes_up g.F.NodeTy.Node.height g.met.F.NodeTy.Node.child_is_lower c.args.outer.now.items c.args.frame c.args.folder.now c.in_ok-child.child at c.go_down.new.self c.args.ctx.now c.in-Continue.inner (record { node = c.in_ok-child.child; inner = c.in-Continue.inner; results = c.new.result }) c.push.new.self.items
    (subst (λ x. g.F.Folding.goes_down c.args.folder.now c.args.frame.inner c.in_ok-child.child (Ok x) c.go_down.new.self) c.in-Continue.is c.in_ok-given.ensures)
    refl refl c.new.ensures.items c.in_ok-push-in-Continue.ensures.items
