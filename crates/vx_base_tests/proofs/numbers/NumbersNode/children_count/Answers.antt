use Rattle.std.proofs.Common.{sym, ap, length, ◌∙◌}
use Rattle.std.specs.Vec.{vec_len}
use Rattle.vx_base_tests.specs.Numbers.{trees_below, list_of-trees_of}
use Rattle.vx_base_tests.proofs.numbers.NumbersNode.children_count.Goals as goal

pub returns : goal.returns
returns c = c.len.ensures ∙ (ap vec_len c.deref.ensures ∙ (c.self.inside.below.value.ok.0 ∙ ap length (sym (list_of-trees_of c.self.inside.below.value.items) ∙ ap trees_below c.self.view_is)))
