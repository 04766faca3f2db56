use Rattle.std.proofs.Common.{◌≡◌, Ok, ap, sym, subst, ◌∙◌}
use Rattle.vx_dtype.specs.TypeViews.{type_view}
use Rattle.vx_expr.specs.Nodes.{select_fields, select_child}
use Rattle.vx_laws_removing.specs.Walking.{head_of}
use Rattle.vx_transform.specs.CodeViews.{head_view}
use Rattle.vx_transform.specs.TransformAnswers.{AnswersTree}
use Rattle.vx_transform.proofs.WalkLemmas.{select_taken}
use Rattle.vx_transform.proofs.walking.walked_select.Goals as goal

pub returns : goal.returns
returns c =
    let t = type_view c.args.scope.now in
    let e = select_child c.args.node.now in
    let head : head_of t e ≡ Ok (head_view c.in_ok-head.head) = ap (head_of t) (sym c.child.ensures) ∙ c.in_ok-head.ensures in
    subst (λ told. AnswersTree told c.values_taken.result)
    (sym (select_taken t (select_fields c.args.node.now) e c.in_ok-pack.pack (head_view c.in_ok-head.head) head c.in_ok-pack.ensures)) c.values_taken.ensures
