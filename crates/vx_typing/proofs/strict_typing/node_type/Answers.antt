use Rattle.std.proofs.Common.{subst, sym}
use Rattle.vx_expr.specs.Nodes.{merge_values, merge_nullability}
use Rattle.vx_expr.specs.Trees.{trees_of}
use Rattle.vx_typing.specs.TypingAnswers.{AnswersType}
use Rattle.vx_typing.proofs.NodeTypes.{packed, merged}
use Rattle.vx_typing.proofs.strict_typing.node_type.Goals as goal

pub returns-in-Pack : goal.returns-in-Pack
returns-in-Pack c =
    let t = c.args.scope.now in
    let n = c.in-Pack.node in
    let known = rw c.in-Pack.is at c.requires.operands in
    let made = rw (c.names.ensures.names, c.nullability.ensures) at c.pack_type.ensures in
    rw c.in-Pack.is (subst (λ o. AnswersType o c.pack_type.result) (sym (packed t n.names (trees_of n.values) n.nullability c.args.operands.items known)) made)

pub returns-in-Merge : goal.returns-in-Merge
returns-in-Merge c =
    let t = c.args.scope.now in
    let n = c.in-Merge.node in
    let known = rw c.in-Merge.is at c.requires.operands in
    let made = rw (c.nullability-in-Merge.ensures, c.as_slice.ensures.value) at c.merge_type.ensures in
    rw c.in-Merge.is (subst (λ o. AnswersType o c.merge_type.result) (sym (merged t (trees_of (merge_values n)) (merge_nullability n) c.args.operands.items known)) made)
