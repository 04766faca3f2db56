use Rattle.std.proofs.Common.{◌<◌, ◌≤◌, arith, length, refl, rules}
use Rattle.vx_expr.specs.Trees.{children_of}
use Rattle.vx_text.specs.WritingParts.{most_written, written_children}
use Rattle.vx_text.proofs.ChildLemmas.{among_first}
use Rattle.vx_text.proofs.WritingLemmas.{began_child, began_closing, number_written}
use Rattle.vx_text.proofs.writing.write_part.Goals as goal

pub returns-then-next-written_count : goal.returns-then-next-written_count
returns-then-next-written_count g c =
    let e = c.args.part.expr.now in
    let past : length (written_children e) ≤ c.args.part.next = search rules in
    began_closing _ _ _ _ _ e c.args.part.next past c.write_closing.ensures

pub returns : goal.returns
returns g c =
    let e = c.args.part.expr.now in
    let i = c.args.part.next in
    let d = c.child_at.result.now in
    let within : i < most_written e = omega (arith, c.if-next-written_count.false, c.written_count.ensures, number_written e) in
    began_child _ _ _ _ _ _ _ _ e d i (among_first (most_written e) (children_of e) i d within c.child_at.ensures) (λ plain. c.in_ok-write_before.ensures plain refl) c.in_ok-add_part.ensures c.write_node.ensures.text c.write_node.ensures.left
