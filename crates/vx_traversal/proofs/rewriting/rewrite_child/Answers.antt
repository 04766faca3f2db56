use Rattle.std.proofs.Common.{rules, ◌≡◌, subst, ap, length, Ok, Err, Some, slice_get, false}
use Rattle.std.proofs.lemmas.List.{nil_from_length}
use Rattle.vx_traversal.specs.RewriteFrames.{NextFits}
use Rattle.vx_traversal.proofs.RewriteFrameLemmas.{child-answers, child-fails, child-goes, child-stays, down-errs, down-leaf, down-skips, down-stops, more-fits, of-error, pushed-fits}
use Rattle.vx_traversal.proofs.rewriting.rewrite_child.Goals as goal

pub returns-in-Stop-clause-steps : goal.returns-in-Stop-clause-steps
returns-in-Stop-clause-steps g c =
    let same : c.len.result ≡ length c.args.frame.values.items = search rules in
    let at : slice_get (g.N.Node.children c.args.frame.node) (length c.args.frame.values.items) ≡ Some c.in_ok-child.child = subst (λ i. slice_get (g.N.Node.children c.args.frame.node) i ≡ Some c.in_ok-child.child) same c.in_ok-child.ensures.child in
    child-stays g.N.Node.children g.N.Node.is_with g.R.Rewriting.goes_down g.R.Rewriting.goes_up g.N.Node.height c.args.outer.now.items c.args.frame c.in_ok-child.child at c.args.rewriter.now c.in_ok-with_value.field-0 c.in-Stop.is c.in_ok-with_value.ensures

pub returns-in-Stop-clause-fit : goal.returns-in-Stop-clause-fit
returns-in-Stop-clause-fit g c =
    more-fits g.N.Node.children c.args.outer.now.items c.args.frame c.in_ok-with_value.field-0 (record { value = c.in_ok-child.child; order = c.args.frame.order; changed = false }) c.requires.fits c.requires.within c.in_ok-with_value.ensures

pub returns-in_err-given : goal.returns-in_err-given
returns-in_err-given g c =
    let same : c.len.result ≡ length c.args.frame.values.items = search rules in
    let at : slice_get (g.N.Node.children c.args.frame.node) (length c.args.frame.values.items) ≡ Some c.in_ok-child.child = subst (λ i. slice_get (g.N.Node.children c.args.frame.node) i ≡ Some c.in_ok-child.child) same c.in_ok-child.ensures.child in
    let is : c.from_residual-in_err-given.result ≡ Err c.in_err-given.field-0.0 = search rules in
    record {
      steps = child-fails g.N.Node.children g.N.Node.is_with g.R.Rewriting.goes_down g.R.Rewriting.goes_up g.N.Node.height c.args.outer.now.items c.args.frame c.in_ok-child.child at c.args.rewriter.now c.in_default.not-Stop c.args.outer.now.items c.in_err-given.field-0.0 c.from_residual-in_err-given.result c.go_down.new.self is
          (down-errs g.N.Node.children g.N.Node.is_with g.R.Rewriting.goes_down g.R.Rewriting.goes_up g.N.Node.height c.args.rewriter.now c.in_ok-child.child c.in_err-given.field-0.0 c.go_down.new.self c.in_err-given.ensures.step);
      fit = of-error c.from_residual-in_err-given.result c.in_err-given.field-0.0 (NextFits g.N.Node.children c.args.outer.now.items) is;
      again = c.go_down.ensures.again;
    }

pub returns-in_err-skipped-in-Skip : goal.returns-in_err-skipped-in-Skip
returns-in_err-skipped-in-Skip g c =
    let same : c.len.result ≡ length c.args.frame.values.items = search rules in
    let at : slice_get (g.N.Node.children c.args.frame.node) (length c.args.frame.values.items) ≡ Some c.in_ok-child.child = subst (λ i. slice_get (g.N.Node.children c.args.frame.node) i ≡ Some c.in_ok-child.child) same c.in_ok-child.ensures.child in
    let is : c.from_residual-in_err-skipped-in-Skip.result ≡ Err c.in_err-skipped-in-Skip.field-0.0 = search rules in
    record {
      steps = child-fails g.N.Node.children g.N.Node.is_with g.R.Rewriting.goes_down g.R.Rewriting.goes_up g.N.Node.height c.args.outer.now.items c.args.frame c.in_ok-child.child at c.args.rewriter.now c.in_default.not-Stop c.args.outer.now.items c.in_err-skipped-in-Skip.field-0.0 c.from_residual-in_err-skipped-in-Skip.result c.rewrite_up.new.rewriter is
          (down-skips g.N.Node.children g.N.Node.is_with g.R.Rewriting.goes_down g.R.Rewriting.goes_up g.N.Node.height c.args.rewriter.now c.in_ok-child.child c.in_ok-given.given c.go_down.new.self (Err c.in_err-skipped-in-Skip.field-0.0) c.rewrite_up.new.rewriter c.in_ok-given.ensures.step c.in-Skip.is c.in_err-skipped-in-Skip.ensures.rewrites);
      fit = of-error c.from_residual-in_err-skipped-in-Skip.result c.in_err-skipped-in-Skip.field-0.0 (NextFits g.N.Node.children c.args.outer.now.items) is;
      again = c.rewrite_up.ensures.again;
    }

pub returns-in_ok-with_value-in-Stop-order : goal.returns-in_ok-with_value-in-Stop-order
returns-in_ok-with_value-in-Stop-order g c =
    let same : c.len.result ≡ length c.args.frame.values.items = search rules in
    let at : slice_get (g.N.Node.children c.args.frame.node) (length c.args.frame.values.items) ≡ Some c.in_ok-child.child = subst (λ i. slice_get (g.N.Node.children c.args.frame.node) i ≡ Some c.in_ok-child.child) same c.in_ok-child.ensures.child in
    record {
      steps = child-answers g.N.Node.children g.N.Node.is_with g.R.Rewriting.goes_down g.R.Rewriting.goes_up g.N.Node.height c.args.outer.now.items c.args.frame c.in_ok-child.child at c.args.rewriter.now c.in_default.not-Stop c.in_ok-given.given c.in_ok-with_value-in-Stop-order.field-0 c.go_down.new.self
          (down-stops g.N.Node.children g.N.Node.is_with g.R.Rewriting.goes_down g.R.Rewriting.goes_up g.N.Node.height c.args.rewriter.now c.in_ok-child.child c.in_ok-given.given c.go_down.new.self c.in_ok-given.ensures.step c.in-Stop-order.is) c.in_ok-with_value-in-Stop-order.ensures;
      fit = more-fits g.N.Node.children c.args.outer.now.items c.args.frame c.in_ok-with_value-in-Stop-order.field-0 c.in_ok-given.given c.requires.fits c.requires.within c.in_ok-with_value-in-Stop-order.ensures;
      again = c.go_down.ensures.again;
    }

pub returns-in_ok-with_value-in-Skip : goal.returns-in_ok-with_value-in-Skip
returns-in_ok-with_value-in-Skip g c =
    let same : c.len.result ≡ length c.args.frame.values.items = search rules in
    let at : slice_get (g.N.Node.children c.args.frame.node) (length c.args.frame.values.items) ≡ Some c.in_ok-child.child = subst (λ i. slice_get (g.N.Node.children c.args.frame.node) i ≡ Some c.in_ok-child.child) same c.in_ok-child.ensures.child in
    record {
      steps = child-answers g.N.Node.children g.N.Node.is_with g.R.Rewriting.goes_down g.R.Rewriting.goes_up g.N.Node.height c.args.outer.now.items c.args.frame c.in_ok-child.child at c.args.rewriter.now c.in_default.not-Stop c.in_ok-skipped-in-Skip.skipped c.in_ok-with_value-in-Skip.field-0 c.rewrite_up.new.rewriter
          (down-skips g.N.Node.children g.N.Node.is_with g.R.Rewriting.goes_down g.R.Rewriting.goes_up g.N.Node.height c.args.rewriter.now c.in_ok-child.child c.in_ok-given.given c.go_down.new.self (Ok c.in_ok-skipped-in-Skip.skipped) c.rewrite_up.new.rewriter c.in_ok-given.ensures.step c.in-Skip.is c.in_ok-skipped-in-Skip.ensures.rewrites) c.in_ok-with_value-in-Skip.ensures;
      fit = more-fits g.N.Node.children c.args.outer.now.items c.args.frame c.in_ok-with_value-in-Skip.field-0 c.in_ok-skipped-in-Skip.skipped c.requires.fits c.requires.within c.in_ok-with_value-in-Skip.ensures;
      again = c.rewrite_up.ensures.again;
    }

pub returns-in_ok-push-in-Continue : goal.returns-in_ok-push-in-Continue
returns-in_ok-push-in-Continue g c =
    let same : c.len.result ≡ length c.args.frame.values.items = search rules in
    let at : slice_get (g.N.Node.children c.args.frame.node) (length c.args.frame.values.items) ≡ Some c.in_ok-child.child = subst (λ i. slice_get (g.N.Node.children c.args.frame.node) i ≡ Some c.in_ok-child.child) same c.in_ok-child.ensures.child in
    record {
      steps = child-goes g.N.Node.children g.N.Node.is_with g.R.Rewriting.goes_down g.R.Rewriting.goes_up g.N.Node.height c.args.outer.now.items c.args.frame c.in_ok-child.child at c.args.rewriter.now c.in_default.not-Stop g.met.N.Node.child_is_lower c.in_ok-given.given c.go_down.new.self c.frame_of.result c.push.new.self.items c.in_ok-given.ensures.step c.in-Continue.is c.in_ok-given.ensures.no_higher
          c.frame_of.ensures.node c.frame_of.ensures.before (ap (λ m. m.value) c.frame_of.ensures.values) c.frame_of.ensures.values c.in_ok-push-in-Continue.ensures.items;
      fit = pushed-fits g.N.Node.children c.args.outer.now.items c.push.new.self.items c.args.frame c.frame_of.result c.requires.fits c.requires.within c.in_ok-push-in-Continue.ensures.items (ap (λ m. m.value) c.frame_of.ensures.values);
      again = c.go_down.ensures.again;
    }

pub returns-in_err-leaf-in-Continue : goal.returns-in_err-leaf-in-Continue
returns-in_err-leaf-in-Continue g c =
    let same : c.len.result ≡ length c.args.frame.values.items = search rules in
    let at : slice_get (g.N.Node.children c.args.frame.node) (length c.args.frame.values.items) ≡ Some c.in_ok-child.child = subst (λ i. slice_get (g.N.Node.children c.args.frame.node) i ≡ Some c.in_ok-child.child) same c.in_ok-child.ensures.child in
    let none : length (g.N.Node.children c.in_ok-given.given.value) ≡ 0 = search rules in
    let is : c.from_residual-in_err-leaf-in-Continue.result ≡ Err c.in_err-leaf-in-Continue.field-0.0 = search rules in
    record {
      steps = child-fails g.N.Node.children g.N.Node.is_with g.R.Rewriting.goes_down g.R.Rewriting.goes_up g.N.Node.height c.args.outer.now.items c.args.frame c.in_ok-child.child at c.args.rewriter.now c.in_default.not-Stop c.args.outer.now.items c.in_err-leaf-in-Continue.field-0.0 c.from_residual-in_err-leaf-in-Continue.result c.rewrite_up-then-children_count-eq0.new.rewriter is
          (down-leaf g.N.Node.children g.N.Node.is_with g.R.Rewriting.goes_down g.R.Rewriting.goes_up g.N.Node.height c.args.rewriter.now c.in_ok-child.child c.in_ok-given.given c.go_down.new.self (Err c.in_err-leaf-in-Continue.field-0.0) c.rewrite_up-then-children_count-eq0.new.rewriter c.in_ok-given.ensures.step c.in-Continue.is (nil_from_length (g.N.Node.children c.in_ok-given.given.value) none) c.in_err-leaf-in-Continue.ensures.rewrites);
      fit = of-error c.from_residual-in_err-leaf-in-Continue.result c.in_err-leaf-in-Continue.field-0.0 (NextFits g.N.Node.children c.args.outer.now.items) is;
      again = c.rewrite_up-then-children_count-eq0.ensures.again;
    }

pub returns-then-children_count-eq0 : goal.returns-then-children_count-eq0
returns-then-children_count-eq0 g c =
    let same : c.len.result ≡ length c.args.frame.values.items = search rules in
    let at : slice_get (g.N.Node.children c.args.frame.node) (length c.args.frame.values.items) ≡ Some c.in_ok-child.child = subst (λ i. slice_get (g.N.Node.children c.args.frame.node) i ≡ Some c.in_ok-child.child) same c.in_ok-child.ensures.child in
    let none : length (g.N.Node.children c.in_ok-given.given.value) ≡ 0 = search rules in
    record {
      steps = child-answers g.N.Node.children g.N.Node.is_with g.R.Rewriting.goes_down g.R.Rewriting.goes_up g.N.Node.height c.args.outer.now.items c.args.frame c.in_ok-child.child at c.args.rewriter.now c.in_default.not-Stop c.in_ok-leaf-in-Continue.leaf c.in_ok-with_value-in-Continue.field-0 c.rewrite_up-then-children_count-eq0.new.rewriter
          (down-leaf g.N.Node.children g.N.Node.is_with g.R.Rewriting.goes_down g.R.Rewriting.goes_up g.N.Node.height c.args.rewriter.now c.in_ok-child.child c.in_ok-given.given c.go_down.new.self (Ok c.in_ok-leaf-in-Continue.leaf) c.rewrite_up-then-children_count-eq0.new.rewriter c.in_ok-given.ensures.step c.in-Continue.is (nil_from_length (g.N.Node.children c.in_ok-given.given.value) none) c.in_ok-leaf-in-Continue.ensures.rewrites) c.in_ok-with_value-in-Continue.ensures;
      fit = more-fits g.N.Node.children c.args.outer.now.items c.args.frame c.in_ok-with_value-in-Continue.field-0 c.in_ok-leaf-in-Continue.leaf c.requires.fits c.requires.within c.in_ok-with_value-in-Continue.ensures;
      again = c.rewrite_up-then-children_count-eq0.ensures.again;
    }
