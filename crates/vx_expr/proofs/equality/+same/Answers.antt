use Rattle.std.proofs.Common.{rules, ◌≡◌, true, false, ap, sym, ◌∙◌, ◌<◌, ◌≤◌, length, arith}
use Rattle.std.proofs.Math.ListN.{get_or}
use Rattle.vx_expr.specs.Trees.{trees_of}
use Rattle.vx_expr.specs.Nodes.{binary_left, binary_operator, binary_right, binary_tree}
use Rattle.vx_expr.specs.Heights.{height, highest}
use Rattle.vx_expr.specs.Equal.{same_operator, tree_eq}
use Rattle.vx_expr.proofs.TreeLemmas.{height_at, left_operands_tell, other_right_operands, right_operands_tell}
use Rattle.vx_expr.proofs.equality.+same.Goals as goal

pub same-returns-then-not-same : goal.same-returns-then-not-same
same-returns-then-not-same t c =
    let x = c.in-Binary-Binary.x in
    let y = c.in-Binary-Binary.y in
    let first : c.loop-x.first.now ≡ binary_tree x = search rules in
    let second : c.loop-x.second.now ≡ binary_tree y = search rules in
    let others : tree_eq (binary_right x) (binary_right y) ≡ false = search rules in
    sym (c.loop-x.invariant.1 ∙ (λ i. tree_eq (first i) (second i))
    ∙ other_right_operands (binary_left x) (binary_right x) (binary_left y) (binary_right y) (binary_operator x) (binary_operator y) others)

pub same-loop-x-preserved-then-leans_left : goal.same-loop-x-preserved-then-leans_left
same-loop-x-preserved-then-leans_left t c =
    let x = c.in-Binary-Binary.x in
    let y = c.in-Binary-Binary.y in
    let first : c.loop-x.first.now ≡ binary_tree x = search rules in
    let second : c.loop-x.second.now ≡ binary_tree y = search rules in
    let under : same_operator (binary_operator x) (binary_operator y) ≡ true = search rules in
    let same : tree_eq (binary_right x) (binary_right y) ≡ true = search rules in (
      omega (arith, ap height c.lhs-first.ensures, ap height first, c.loop-x.invariant.0),
      c.loop-x.invariant.1 ∙ (λ i. tree_eq (first i) (second i))
          ∙ left_operands_tell (binary_left x) (binary_right x) (binary_left y) (binary_right y) (binary_operator x) (binary_operator y) under same
          ∙ (λ i. tree_eq (sym c.lhs-first.ensures i) (sym c.lhs-second.ensures i)),
    )

pub same-loop-x-preserved : goal.same-loop-x-preserved
same-loop-x-preserved t c =
    let x = c.in-Binary-Binary.x in
    let y = c.in-Binary-Binary.y in
    let first : c.loop-x.first.now ≡ binary_tree x = search rules in
    let second : c.loop-x.second.now ≡ binary_tree y = search rules in
    let under : same_operator (binary_operator x) (binary_operator y) ≡ true = search rules in
    let same : tree_eq (binary_left x) (binary_left y) ≡ true = search rules in (
      omega (arith, ap height c.rhs-first.ensures, ap height first, c.loop-x.invariant.0),
      c.loop-x.invariant.1 ∙ (λ i. tree_eq (first i) (second i))
          ∙ right_operands_tell (binary_left x) (binary_right x) (binary_left y) (binary_right y) (binary_operator x) (binary_operator y) under same
          ∙ (λ i. tree_eq (sym c.rhs-first.ensures i) (sym c.rhs-second.ensures i)),
    )

pub same_list-same-requires : goal.same_list-same-requires
same_list-same-requires t c =
    let items = c.args.left.now in
    let x = c.index-left-i.result in
    let within_items : c.loop-i.i < length items = search rules in
    let d = height_at items c.loop-i.i x within_items in
    let at : x ≡ get_or items c.loop-i.i x = search rules in
    let below : height x ≤ highest (trees_of items) = omega (arith, d, ap height at) in
    (omega (arith, below, c.decreases), search rules)
