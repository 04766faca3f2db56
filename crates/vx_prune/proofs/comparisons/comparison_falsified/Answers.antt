use Rattle.std.proofs.Common.{Some}
use Rattle.vx_expr.specs.Trees.{Tree}
use Rattle.vx_dtype.specs.declared.CompareOperator.{CompareOperator}
use Rattle.vx_passes.specs.Catalogs.{Catalog}
use Rattle.vx_passes.specs.Falsifying.{Found, are_numbers, behind_guard, bounds_falsified, comparison_falsified}
use Rattle.vx_prune.proofs.FindingLemmas.{fails, stops, asks, asked_stops, next_stops, next_then}
use Rattle.vx_prune.proofs.comparisons.comparison_falsified.Goals as goal

-- a falsification behind its guard
module _ (l r : Tree) (op : CompareOperator) where
  abbrev guarded : Catalog → Tree → Found
  guarded k e = record { tree = Some (behind_guard (are_numbers k l r).tree e); asked = (are_numbers k l r).asked }

  abbrev all : Catalog → Found
  all k = comparison_falsified k l r op

pub returns-in_err-falsified : goal.returns-in_err-falsified
returns-in_err-falsified g c =
    let l = c.args.left.now in
    let r = c.args.right.now in
    fails (all l r c.args.operator) c.from_residual.ensures.0
    (next_stops (λ k. bounds_falsified k c.args.operator l r) (guarded l r c.args.operator) (stops c.in_err-falsified.ensures))

pub returns-in_err-guard-in-Some : goal.returns-in_err-guard-in-Some
returns-in_err-guard-in-Some g c =
    let l = c.args.left.now in
    let r = c.args.right.now in
    fails (all l r c.args.operator) c.from_residual-in_err-guard-in-Some.ensures.0
    (next_then (λ k. bounds_falsified k c.args.operator l r) (guarded l r c.args.operator) c.in_ok-falsified.ensures c.in-Some.is
    (stops c.in_err-guard-in-Some.ensures))

pub returns-in_err-behind_guard-in-Some : goal.returns-in_err-behind_guard-in-Some
returns-in_err-behind_guard-in-Some g c =
    let l = c.args.left.now in
    let r = c.args.right.now in
    fails (all l r c.args.operator) c.from_residual-in_err-behind_guard-in-Some.ensures.0
    (next_then (λ k. bounds_falsified k c.args.operator l r) (guarded l r c.args.operator) c.in_ok-falsified.ensures c.in-Some.is
    (asked_stops _ _ _ _ _ (asks c.in_ok-guard-in-Some.ensures)))
