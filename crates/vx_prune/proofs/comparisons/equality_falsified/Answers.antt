use Rattle.std.proofs.Common.{◌≡◌, List, ◌++◌, IfOk, subst, ◌∙◌}
use Rattle.vx_dtype.specs.declared.CompareOperator.{CompareOperator}
use Rattle.vx_dtype.specs.declared.Stat.TheVariants.{Min, Max}
use Rattle.vx_expr.specs.Trees.{Tree}
use Rattle.vx_passes.specs.Catalogs.{Catalog}
use Rattle.vx_passes.specs.Falsifying.{Found, Question, bound_of, compared_where, equality_falsified, joined_known, or_of}
use Rattle.vx_prune.proofs.FindingLemmas.{fails, ends, stops, asks, asked_stops, first_stops, then_stops, then_asks, found_at}
use Rattle.vx_prune.proofs.comparisons.equality_falsified.Goals as goal

-- the questions for each of the bounds, and for those from it on
module _ (l r : Tree) where
  abbrev first : Catalog → List Question
  first k = (bound_of k Min l).asked

  abbrev second : Catalog → List Question
  second k = (bound_of k Max l).asked

  abbrev third : Catalog → List Question
  third k = (bound_of k Min r).asked

  abbrev fourth : Catalog → List Question
  fourth k = (bound_of k Max r).asked

  abbrev from_third : Catalog → List Question
  from_third k = third k ++ fourth k

  abbrev from_second : Catalog → List Question
  from_second k = second k ++ from_third k

  abbrev all : Catalog → Found
  all k = equality_falsified k l r

pub returns-in_err-least_left : goal.returns-in_err-least_left
returns-in_err-least_left g c =
    let l = c.args.left.now in
    let r = c.args.right.now in
    let answer = g.C.StatsCatalog.answer in
    let asked = g.C.StatsCatalog.asked in
    fails (all l r) c.from_residual.ensures.0
    (first_stops answer asked (first l r) (from_second l r) _ _ (stops c.in_err-least_left.ensures))

pub returns-in_err-greatest_left : goal.returns-in_err-greatest_left
returns-in_err-greatest_left g c =
    let l = c.args.left.now in
    let r = c.args.right.now in
    let answer = g.C.StatsCatalog.answer in
    let asked = g.C.StatsCatalog.asked in
    fails (all l r) c.from_residual-in_err-greatest_left.ensures.0
    (then_stops answer asked (first l r) (from_second l r) _ _ _ (asks c.in_ok-least_left.ensures)
    (first_stops answer asked (second l r) (from_third l r) _ _ (stops c.in_err-greatest_left.ensures)))

pub returns-in_err-least_right : goal.returns-in_err-least_right
returns-in_err-least_right g c =
    let l = c.args.left.now in
    let r = c.args.right.now in
    let answer = g.C.StatsCatalog.answer in
    let asked = g.C.StatsCatalog.asked in
    fails (all l r) c.from_residual-in_err-least_right.ensures.0
    (then_stops answer asked (first l r) (from_second l r) _ _ _ (asks c.in_ok-least_left.ensures)
    (then_stops answer asked (second l r) (from_third l r) _ _ _ (asks c.in_ok-greatest_left.ensures)
    (first_stops answer asked (third l r) (fourth l r) _ _ (stops c.in_err-least_right.ensures))))

pub returns-in_err-greatest_right : goal.returns-in_err-greatest_right
returns-in_err-greatest_right g c =
    let l = c.args.left.now in
    let r = c.args.right.now in
    let answer = g.C.StatsCatalog.answer in
    let asked = g.C.StatsCatalog.asked in
    fails (all l r) c.from_residual-in_err-greatest_right.ensures.0
    (then_stops answer asked (first l r) (from_second l r) _ _ _ (asks c.in_ok-least_left.ensures)
    (then_stops answer asked (second l r) (from_third l r) _ _ _ (asks c.in_ok-greatest_left.ensures)
    (then_stops answer asked (third l r) (fourth l r) _ _ _ (asks c.in_ok-least_right.ensures)
    (stops c.in_err-greatest_right.ensures))))

pub returns-in_err-left_above : goal.returns-in_err-left_above
returns-in_err-left_above g c =
    let l = c.args.left.now in
    let r = c.args.right.now in
    let answer = g.C.StatsCatalog.answer in
    let asked = g.C.StatsCatalog.asked in
    fails (all l r) c.from_residual-in_err-left_above.ensures.0
    (then_stops answer asked (first l r) (from_second l r) _ _ _ (asks c.in_ok-least_left.ensures)
    (then_stops answer asked (second l r) (from_third l r) _ _ _ (asks c.in_ok-greatest_left.ensures)
    (then_stops answer asked (third l r) (fourth l r) _ _ _ (asks c.in_ok-least_right.ensures)
    (asked_stops answer asked (fourth l r) _ _ (asks c.in_ok-greatest_right.ensures)))))

pub returns-in_err-right_above : goal.returns-in_err-right_above
returns-in_err-right_above g c =
    let l = c.args.left.now in
    let r = c.args.right.now in
    let answer = g.C.StatsCatalog.answer in
    let asked = g.C.StatsCatalog.asked in
    fails (all l r) c.from_residual-in_err-right_above.ensures.0
    (then_stops answer asked (first l r) (from_second l r) _ _ _ (asks c.in_ok-least_left.ensures)
    (then_stops answer asked (second l r) (from_third l r) _ _ _ (asks c.in_ok-greatest_left.ensures)
    (then_stops answer asked (third l r) (fourth l r) _ _ _ (asks c.in_ok-least_right.ensures)
    (asked_stops answer asked (fourth l r) _ _ (asks c.in_ok-greatest_right.ensures)))))

pub returns : goal.returns
returns g c =
    let l = c.args.left.now in
    let r = c.args.right.now in
    let answer = g.C.StatsCatalog.answer in
    let asked = g.C.StatsCatalog.asked in
    let k = answer c.args.catalog.now in
    let second_same = c.in_ok-greatest_left.ensures.same ∙ c.in_ok-least_left.ensures.same in
    let third_same = c.in_ok-least_right.ensures.same ∙ second_same in
    let least_left = c.in_ok-least_left.ensures.found.0 in
    let greatest_left = found_at k c.in_ok-least_left.ensures.same c.in_ok-greatest_left.ensures in
    let least_right = found_at k second_same c.in_ok-least_right.ensures in
    let greatest_right = found_at k third_same c.in_ok-greatest_right.ensures in
    let left_above : c.in_ok-left_above.left_above ≡ compared_where CompareOperator.Gt (bound_of k Min l).tree (bound_of k Max r).tree = c.in_ok-left_above.ensures ∙ (λ i. compared_where CompareOperator.Gt (least_left i) (greatest_right i)) in
    let right_above : c.in_ok-right_above.right_above ≡ compared_where CompareOperator.Gt (bound_of k Min r).tree (bound_of k Max l).tree = c.in_ok-right_above.ensures ∙ (λ i. compared_where CompareOperator.Gt (least_right i) (greatest_left i)) in
    ends (all l r)
    (then_asks answer asked (first l r) (from_second l r) _ _ _ (asks c.in_ok-least_left.ensures)
    (then_asks answer asked (second l r) (from_third l r) _ _ _ (asks c.in_ok-greatest_left.ensures)
    (then_asks answer asked (third l r) (fourth l r) _ _ _ (asks c.in_ok-least_right.ensures) (asks c.in_ok-greatest_right.ensures))))
    (subst (λ t. IfOk c.joined_known.result (λ found. found ≡ t)) (λ i. joined_known or_of (left_above i) (right_above i)) c.joined_known.ensures)
