use Rattle.std.proofs.Common.{◌≡◌, ◌++◌, length, ap, ◌∙◌, subst, arith}
use Rattle.std.specs.Str.{IsUtf8}
use Rattle.std.proofs.lemmas.Str.{is_utf8-from_IsUtf8}
use Rattle.vx_wire_bytes.specs.Numbers.{piece_bytes, number_bytes}
use Rattle.vx_wire_bytes.specs.Wires.{number_of}
use Rattle.vx_wire_bytes.specs.WireViews.{trees_view}
use Rattle.vx_wire_bytes.specs.declared.trees.WireTree.TheViews.{out-WireTree}
use Rattle.vx_wire_bytes.proofs.TreeLemmas.{tree_view-out}
use Rattle.vx_wire_bytes.proofs.StackLemmas.{number_of-trees_view}
use Rattle.vx_wire_bytes.proofs.WriteLemmas.{head_written}
use Rattle.vx_wire_bytes.proofs.writing.push_head.Goals as goal

pub returns-then-len-ge-LONG-2-clause-err : goal.returns-then-len-ge-LONG-2-clause-err
returns-then-len-ge-LONG-2-clause-err c = rw (tree_view-out c.args.tree.now)
    (λ short. omega (arith, short.2, number_of-trees_view (out-WireTree c.args.tree.now).children.items, (out-WireTree c.args.tree.now).children.ok, c.len-2.ensures))

pub returns-clause-ok : goal.returns-clause-ok
returns-clause-ok c =
    let t = out-WireTree c.args.tree.now in
    let number : c.len-3.result ≡ number_of (trees_view t.children.items) = omega (arith, number_of-trees_view t.children.items, t.children.ok, c.len-3.ensures) in
    let id : c.as_bytes-id.result.now ≡ t.id = c.as_bytes-id.ensures.value ∙ c.as_str.ensures in
    let len = ap length id in
    rw (tree_view-out c.args.tree.now) (
      record { text = is_utf8-from_IsUtf8 t.id (subst IsUtf8 id c.as_bytes-id.ensures.utf8); id = omega arith; metadata = omega (arith, c.len.ensures, t.metadata.ok); children = omega (arith, c.len-2.ensures, c.len-3.ensures) },
      head_written c.args.out.now.items c.write_piece.new.out.items c.write_piece-2.new.out.items c.write_number.new.out.items t.id t.metadata.items (number_of (trees_view t.children.items))
          (c.in_ok-write_piece.ensures.ok ∙ ap (λ x. c.args.out.now.items ++ piece_bytes x) id)
          (c.in_ok-write_piece-2.ensures.ok ∙ ap (λ x. c.write_piece.new.out.items ++ piece_bytes x) c.deref.ensures.value)
          (c.in_ok-write_number.ensures.ok ∙ ap (λ n. c.write_piece-2.new.out.items ++ number_bytes n) number),
    )
