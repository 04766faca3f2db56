use Rattle.std.proofs.Common.{◌≡◌, List, ℕ, subst, ◌+◌, ◌-◌, ◌<◌, length, drop, ap, sym, ◌∙◌, arith}
use Rattle.std.proofs.Math.ListN.{get_or}
use Rattle.std.specs.BTreeMap.{get, is_at}
use Rattle.std.specs.Cmp.Lexicographic.{slice_cmp}
use Rattle.std.specs.Map.{lookup}
use Rattle.std.specs.Ordering.{nat_cmp}
use Rattle.vx_dtype.proofs.PlaceLemmas.{none_noted, one_more_noted, all_noted, none_distinct, one_more_distinct}
use Rattle.vx_dtype.specs.TypeRules.{distinct_names}
use Rattle.vx_dtype.proofs.name_lists.first_places.Goals as goal

pub loop-left-init : goal.loop-left-init
loop-left-init c =
    let names = c.args.names.now in (
      omega arith,
      λ f. none_noted names (length names) f (get (slice_cmp nat_cmp) c.new-places.result f) (omega arith)
          (ap (lookup (is_at (slice_cmp nat_cmp f))) c.new-places.ensures.empty),
      none_distinct names (length names) (omega arith),
    )

pub loop-left-preserved : goal.loop-left-preserved
loop-left-preserved c =
    let l = c.loop-left in
    let names = c.args.names.now in
    let g = c.in_ok-clone.field-0 in
    let i = l.left - 1 in
    let next : i + 1 ≡ l.left = omega (arith, c.loop-left-test.true) in
    let within : i < length names = omega (arith, c.loop-left-test.true, l.invariant.0) in
    let is : g ≡ get_or names i g = subst (λ (h : List ℕ). h ≡ get_or names i h) (sym c.in_ok-clone.ensures.cases) c.index-names-left.is in (
      omega (arith, l.invariant.0),
      λ f. one_more_noted names i l.left g f (get (slice_cmp nat_cmp) l.places f) (get (slice_cmp nat_cmp) c.insert.new.self f) next within is (l.invariant.1 f) (c.in_ok-behind.ensures.updates.0 f),
      one_more_distinct names i l.left g l.are_distinct c.is_none.result c.in_ok-behind.behind next within is l.invariant.2 (c.in_ok-behind.ensures.old ∙ l.invariant.1 g) c.is_none.ensures,
    )

pub returns-clause-places : goal.returns-clause-places
returns-clause-places c = λ f.
    all_noted c.args.names.now c.loop-left.left f (get (slice_cmp nat_cmp) c.loop-left.places f) (omega (arith, c.loop-left-test.false)) (c.loop-left.invariant.1 f)

pub returns-clause-distinct : goal.returns-clause-distinct
returns-clause-distinct c =
    let first : c.loop-left.left ≡ 0 = omega (arith, c.loop-left-test.false) in
    c.loop-left.invariant.2 ∙ ap (λ k. distinct_names (drop k c.args.names.now)) first
