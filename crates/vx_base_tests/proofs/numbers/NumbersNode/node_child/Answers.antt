use Rattle.std.proofs.Common.{◌≡◌, slice_get, arith, sym, ap, length, ◌∙◌}
use Rattle.std.specs.Vec.{vec_len}
use Rattle.std.proofs.lemmas.Option.{slice_get_read}
use Rattle.vx_base_tests.specs.Numbers.{trees_below, list_of-trees_of}
use Rattle.vx_base_tests.proofs.numbers.NumbersNode.node_child.Goals as goal

pub index-requires : goal.index-requires
index-requires c =
    let listed : c.self.inside.below.value.items ≡ trees_below c.args.self.now = sym (list_of-trees_of c.self.inside.below.value.items) ∙ ap trees_below c.self.view_is in
    let as_long : length c.self.inside.below.value.items ≡ length (trees_below c.args.self.now) = ap length listed in
    let counted : vec_len c.deref.result.now ≡ length c.self.inside.below.value.items = ap vec_len c.deref.ensures ∙ c.self.inside.below.value.ok.0 in
    omega (arith, c.requires)

pub returns : goal.returns
returns c =
    let listed : c.deref.result.now.items ≡ trees_below c.args.self.now = ap (λ v. v.items) c.deref.ensures ∙ (sym (list_of-trees_of c.self.inside.below.value.items) ∙ ap trees_below c.self.view_is) in
    let as_long : length c.deref.result.now.items ≡ length (trees_below c.args.self.now) = ap length listed in
    ap (λ xs. slice_get xs c.args.i) (sym listed) ∙ slice_get_read c.deref.result.now.items (length (trees_below c.args.self.now)) c.args.i c.index.result.now (sym as_long) c.requires c.index.ensures
