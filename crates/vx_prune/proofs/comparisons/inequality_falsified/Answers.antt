use Rattle.vx_dtype.specs.declared.Stat.TheVariants.{Min, Max}
use Rattle.vx_expr.specs.Trees.{Tree}
use Rattle.vx_passes.specs.Catalogs.{Catalog}
use Rattle.vx_passes.specs.Falsifying.{Found, bound_of, found_in, found_next, inequality_falsified, one_value}
use Rattle.vx_prune.proofs.FindingLemmas.{fails, stops, asks, asked_stops, next_stops, next_then}
use Rattle.vx_prune.proofs.comparisons.inequality_falsified.Goals as goal

-- what is found of each of the bounds, behind those before it
module _ (l r : Tree) where
  abbrev fourth : Tree → Tree → Tree → Catalog → Found
  fourth a b d k = found_in (one_value a b d) (bound_of k Max r)

  abbrev third : Tree → Tree → Catalog → Tree → Found
  third a b k d = fourth a b d k

  abbrev second : Tree → Catalog → Tree → Found
  second a k b = found_next (bound_of k Min r) (third a b k)

  abbrev first : Catalog → Tree → Found
  first k a = found_next (bound_of k Max l) (second a k)

  abbrev all : Catalog → Found
  all k = inequality_falsified k l r

pub returns-in_err-least_left : goal.returns-in_err-least_left
returns-in_err-least_left g c =
    let l = c.args.left.now in
    let r = c.args.right.now in
    fails (all l r) c.from_residual.ensures.0 (next_stops (λ k. bound_of k Min l) (first l r) (stops c.in_err-least_left.ensures))

pub returns-in_err-greatest_left : goal.returns-in_err-greatest_left
returns-in_err-greatest_left g c =
    let l = c.args.left.now in
    let r = c.args.right.now in
    fails (all l r) c.from_residual-in_err-greatest_left.ensures.0
    (next_then (λ k. bound_of k Min l) (first l r) c.in_ok-least_left.ensures c.in-Some.is
    (next_stops (λ k. bound_of k Max l) (second l r c.in-Some.least_left) (stops c.in_err-greatest_left.ensures)))

pub returns-in_err-least_right : goal.returns-in_err-least_right
returns-in_err-least_right g c =
    let l = c.args.left.now in
    let r = c.args.right.now in
    fails (all l r) c.from_residual-in_err-least_right.ensures.0
    (next_then (λ k. bound_of k Min l) (first l r) c.in_ok-least_left.ensures c.in-Some.is
    (next_then (λ k. bound_of k Max l) (second l r c.in-Some.least_left) c.in_ok-greatest_left.ensures c.in-Some-2.is
    (next_stops (λ k. bound_of k Min r) (third l r c.in-Some.least_left c.in-Some-2.greatest_left) (stops c.in_err-least_right.ensures))))

pub returns-in_err-greatest_right : goal.returns-in_err-greatest_right
returns-in_err-greatest_right g c =
    let l = c.args.left.now in
    let r = c.args.right.now in
    fails (all l r) c.from_residual-in_err-greatest_right.ensures.0
    (next_then (λ k. bound_of k Min l) (first l r) c.in_ok-least_left.ensures c.in-Some.is
    (next_then (λ k. bound_of k Max l) (second l r c.in-Some.least_left) c.in_ok-greatest_left.ensures c.in-Some-2.is
    (next_then (λ k. bound_of k Min r) (third l r c.in-Some.least_left c.in-Some-2.greatest_left) c.in_ok-least_right.ensures c.in-Some-3.is
    (stops c.in_err-greatest_right.ensures))))

pub returns-in_err-one_value : goal.returns-in_err-one_value
returns-in_err-one_value g c =
    let l = c.args.left.now in
    let r = c.args.right.now in
    fails (all l r) c.from_residual-in_err-one_value.ensures.0
    (next_then (λ k. bound_of k Min l) (first l r) c.in_ok-least_left.ensures c.in-Some.is
    (next_then (λ k. bound_of k Max l) (second l r c.in-Some.least_left) c.in_ok-greatest_left.ensures c.in-Some-2.is
    (next_then (λ k. bound_of k Min r) (third l r c.in-Some.least_left c.in-Some-2.greatest_left) c.in_ok-least_right.ensures c.in-Some-3.is
    (asked_stops _ _ _ _ _ (asks c.in_ok-greatest_right.ensures)))))
