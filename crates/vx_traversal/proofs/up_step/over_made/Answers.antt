use Rattle.std.proofs.Common.{◌≡◌, ◌≤◌, ◌∙◌, ◌++◌, [], ◌∷◌, Some, ap, arith, inl, inr, length, refl, subst, sym}
use Rattle.std.specs.List.{slice_get}
use Rattle.std.proofs.lemmas.Option.{slice_get-get_or}
use Rattle.vx_traversal.proofs.UpStepLemmas.{all_made, as_many, none_made, one_more_made}
use Rattle.vx_traversal.proofs.up_step.over_made.Goals as goal

pub returns-then-all_stay : goal.returns-then-all_stay
returns-then-all_stay g c = inl (none_made (g.N.Node.children c.args.node.now) c.args.made.now (sym c.all_stay.ensures ∙ c.if-all_stay.true), refl)

pub with_node_children-requires : goal.with_node_children-requires
with_node_children-requires g c =
    let ns = g.N.Node.children c.args.node.now in
    let past : length ns ≤ c.loop-i.i = omega (arith, c.loop-i-test.false, c.requires) in
    ap length (all_made ns c.args.made.now c.loop-i.i c.loop-i.children.items c.loop-i.invariant past) ∙ as_many ns c.args.made.now

pub returns : goal.returns
returns g c =
    let ns = g.N.Node.children c.args.node.now in
    let past : length ns ≤ c.loop-i.i = omega (arith, c.loop-i-test.false, c.requires) in
    inr (subst (λ ds. g.N.Node.is_with c.args.node.now ds c.in_ok-with_node_children.field-0) (all_made ns c.args.made.now c.loop-i.i c.loop-i.children.items c.loop-i.invariant past) c.in_ok-with_node_children.ensures)

pub loop-i-preserved : goal.loop-i-preserved
loop-i-preserved g c =
    let ns = g.N.Node.children c.args.node.now in
    let made = c.index-made-i.result in
    let child = c.node_child.result.now in
    let given : slice_get c.args.made.now c.loop-i.i ≡ Some made = slice_get-get_or c.args.made.now c.loop-i.i made c.loop-i-test.true ∙ ap Some (sym c.index-made-i.is) in
    one_more_made ns c.args.made.now c.loop-i.i child made c.loop-i.children.items c.push.new.self.items c.node_child.ensures given c.loop-i.invariant
    (c.in_ok-push.ensures.items ∙ ap (λ d. c.loop-i.children.items ++ d ∷ []) (c.in_ok-copy_of.ensures ∙ c.made_or.ensures))
