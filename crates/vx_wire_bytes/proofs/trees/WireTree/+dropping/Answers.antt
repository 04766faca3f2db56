use Rattle.std.proofs.Common.{rules, ◌≡◌, ◌<◌, ◌++◌, ◌∷◌, [], length, ap, ◌∙◌, arith}
use Rattle.std.proofs.lemmas.List.{nil_from_length}
use Rattle.vx_wire_bytes.specs.declared.trees.WireTree.TheOpen.{WireTree-F}
use Rattle.vx_wire_bytes.specs.declared.trees.WireTree.TheViews.{out-WireTree, roll-WireTree}
use Rattle.vx_wire_bytes.specs.declared.trees.WireTree.{WireTree, size-WireTree}
use Rattle.vx_wire_bytes.proofs.DropLemmas.{first_gone, some_depth, turned, without_last}
use Rattle.vx_wire_bytes.proofs.trees.WireTree.+dropping.Goals as goal

-- nothing hangs on a child without children
pub drop-below-requires : goal.drop-below-requires
drop-below-requires t c κs =
    let below = c.into_parts-last_id.result.2 in
    let few : length below.items ≡ 0 = grind (arith, below.ok) in
    let none : below.items ≡ [] = nil_from_length below.items few in
    let depth : size-WireTree c.args.self ≡ t = c.decreases in
    rw none (((omega (arith, depth, some_depth c.args.self), tt), tt), search rules)

pub loop-last-smaller-then-is_empty-2 : goal.loop-last-smaller-then-is_empty-2
loop-last-smaller-then-is_empty-2 t c =
    let node = out-WireTree c.loop-last.self in
    let some : 0 < length c.pop.new.self.items = grind (arith, c.pop.new.self.ok) in
    (without_last c.loop-last.self c.in-Some.last (record { id = node.id; metadata = node.metadata; children = c.pop.new.self }) c.in-Some.ensures.items some).steps_fewer

pub loop-last-smaller : goal.loop-last-smaller
loop-last-smaller t c =
    let node = out-WireTree c.loop-last.self in
    let some : 0 < length c.pop.new.self.items = grind (arith, c.pop.new.self.ok) in
    let parts = c.into_parts-last_id.result in
    let below : 0 < length parts.2.items = grind (arith, parts.2.ok) in
    let rest : WireTree-F WireTree = record { id = node.id; metadata = node.metadata; children = c.push.new.self } in
    let pushed : c.push.new.self.items ≡ c.pop.new.self.items ++ c.remove.result ∷ [] = search rules in
    let inserted : c.insert.new.self.items ≡ roll-WireTree rest ∷ c.remove.new.self.items = search rules in
    let hung = ap (λ n. n.children.items) c.into_parts-last_id.ensures.parts ∙ first_gone parts.2.items c.remove.new.self.items c.remove.result below c.remove.ensures.value c.remove.ensures.items in
    (turned c.loop-last.self c.in-Some.last c.remove.result rest (record { id = parts.0; metadata = parts.1; children = c.insert.new.self }) c.pop.new.self.items c.remove.new.self.items
    c.in-Some.ensures.items some hung pushed inserted).steps_fewer
