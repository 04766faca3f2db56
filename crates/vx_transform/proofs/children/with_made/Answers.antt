use Rattle.std.proofs.Common.{◌≡◌, ◌≤◌, ◌∙◌, ◌++◌, [], ◌∷◌, Some, ap, arith, length, sym}
use Rattle.std.specs.List.{slice_get}
use Rattle.std.proofs.lemmas.Option.{slice_get-get_or}
use Rattle.vx_expr.specs.Trees.{children_of}
use Rattle.vx_transform.specs.Rebuilds.{with_these}
use Rattle.vx_transform.proofs.RebuildLemmas.{all_made, as_many_or_same, none_made, one_more_made, with_own}
use Rattle.vx_transform.proofs.children.with_made.Goals as goal

pub returns-then-all_stay : goal.returns-then-all_stay
returns-then-all_stay c =
    let e = c.args.expr.now in
    sym (ap (with_these e) (none_made (children_of e) c.args.below.now (sym c.all_stay.ensures ∙ c.if-all_stay.true)) ∙ with_own e)

pub with_these-requires : goal.with_these-requires
with_these-requires c =
    let cs = children_of c.args.expr.now in
    let past : length cs ≤ c.loop-i.i = omega (arith, c.loop-i-test.false, c.requires) in
    ap length (all_made cs c.args.below.now c.loop-i.i c.loop-i.children.items c.loop-i.invariant past) ∙ as_many_or_same cs c.args.below.now

pub returns : goal.returns
returns c =
    let cs = children_of c.args.expr.now in
    let past : length cs ≤ c.loop-i.i = omega (arith, c.loop-i-test.false, c.requires) in
    c.in_ok-with_these.ensures ∙ ap (with_these c.args.expr.now) (all_made cs c.args.below.now c.loop-i.i c.loop-i.children.items c.loop-i.invariant past)

pub loop-i-preserved : goal.loop-i-preserved
loop-i-preserved c =
    let cs = children_of c.args.expr.now in
    let made = c.index-below-i.result in
    let child = c.child_at.result.now in
    let given : slice_get c.args.below.now c.loop-i.i ≡ Some made = slice_get-get_or c.args.below.now c.loop-i.i made c.loop-i-test.true ∙ ap Some (sym c.index-below-i.is) in
    one_more_made cs c.args.below.now c.loop-i.i child made c.loop-i.children.items c.push.new.self.items c.child_at.ensures given c.loop-i.invariant
    (c.in_ok-push.ensures.items ∙ ap (λ d. c.loop-i.children.items ++ d ∷ []) c.in_ok-or_shared.ensures)
