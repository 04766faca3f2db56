use Rattle.std.proofs.Common.{◌≡◌, ◌++◌, [], ◌∷◌, map, sym, ap, subst, ◌∙◌, arith}
use Rattle.std.proofs.lemmas.List.{map-append}
use Rattle.std.proofs.lemmas.Result.{err_from_is_err_and}
use Rattle.vx_dtype.specs.TypeViews.{type_view}
use Rattle.vx_expr.specs.Trees.{children_of}
use Rattle.vx_transform.specs.CodeViews.{giving_view}
use Rattle.vx_transform.specs.TransformAnswers.{Refuses}
use Rattle.vx_laws_removing.specs.Walking.{giving_by_head}
use Rattle.vx_transform.proofs.WalkLemmas.{givings_each}
use Rattle.vx_transform.proofs.RebuildLemmas.{goes_on, stops_by, ends}
use Rattle.vx_transform.proofs.walking.givings_by_head.Goals as goal

pub returns-in_err-giving : goal.returns-in_err-giving
returns-in_err-giving c =
    let t = type_view c.args.scope.now in
    let cs = children_of c.args.merge.now in
    let l = c.loop-i in
    let p = err_from_is_err_and c.from_residual-in_err-giving.result c.from_residual-in_err-giving.ensures.1 in
    rw (p.1, p.2)
    (subst (λ told. Refuses told c.in_err-giving.field-0.0) (sym (givings_each t cs))
    (stops_by (giving_by_head t) cs l.i (map giving_view l.made.items) l.invariant c.child_at.result.now c.in_err-giving.field-0.0 c.child_at.ensures c.in_err-giving.ensures))

pub loop-i-preserved : goal.loop-i-preserved
loop-i-preserved c =
    let l = c.loop-i in
    let pushed : map giving_view c.push.new.self.items ≡ map giving_view l.made.items ++ giving_view c.in_ok-giving.giving ∷ [] = ap (map giving_view) c.in_ok-push.ensures.items ∙ map-append giving_view l.made.items (c.in_ok-giving.giving ∷ []) in
    goes_on (giving_by_head (type_view c.args.scope.now)) (children_of c.args.merge.now) l.i (map giving_view l.made.items) l.invariant
    c.child_at.result.now (giving_view c.in_ok-giving.giving) (map giving_view c.push.new.self.items) c.child_at.ensures c.in_ok-giving.ensures pushed

pub returns : goal.returns
returns c =
    let t = type_view c.args.scope.now in
    let cs = children_of c.args.merge.now in
    let l = c.loop-i in
    givings_each t cs ∙ ends (giving_by_head t) cs l.i (map giving_view l.made.items) l.invariant (omega (arith, c.loop-i-test.false, c.children_count-i-end.ensures))
