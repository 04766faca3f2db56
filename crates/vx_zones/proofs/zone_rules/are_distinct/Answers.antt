use Rattle.std.proofs.Common.{◌≡◌, ◌+◌, ◌-◌, ◌<◌, length, sym, ◌∙◌, arith}
use Rattle.std.specs.BTreeSet as set
use Rattle.vx_dtype.proofs.DistinctLemmas.{found, not_found}
use Rattle.vx_zones.specs.ZoneViews.{bare_view}
use Rattle.vx_zones.proofs.DistinctLemmas.{names_cmp, stands_twice, stands_once, one_more}
use Rattle.vx_zones.proofs.zone_rules.are_distinct.Goals as goal

pub returns-then-not-branch : goal.returns-then-not-branch
returns-then-not-branch c =
    let l = c.loop-left in
    let next : l.left - 1 + 1 ≡ l.left = omega (arith, c.loop-left-test.true) in
    let within : l.left - 1 < length c.args.heads.now = omega (arith, c.loop-left-test.true, l.invariant.0) in
    let names = c.in_ok-own_names.field-0 in
    let there = found (set.contains (λ x y. names_cmp x.items y.items) l.behind names) (sym c.in_ok-insert.ensures.added ∙ c.if-not-branch.true) in
    stands_twice bare_view c.args.heads.now (l.left - 1) l.left c.index-heads-left.result names.items next within c.index-heads-left.is c.in_ok-own_names.ensures
    (sym (l.invariant.2 names) ∙ there)

pub loop-left-preserved : goal.loop-left-preserved
loop-left-preserved c =
    let l = c.loop-left in
    let next : l.left - 1 + 1 ≡ l.left = omega (arith, c.loop-left-test.true) in
    let within : l.left - 1 < length c.args.heads.now = omega (arith, c.loop-left-test.true, l.invariant.0) in
    let names = c.in_ok-own_names.field-0 in
    let new = not_found (set.contains (λ x y. names_cmp x.items y.items) l.behind names) (sym c.in_ok-insert.ensures.added ∙ c.if-not-branch.false) in (
      omega (arith, l.invariant.0),
      stands_once bare_view c.args.heads.now (l.left - 1) l.left c.index-heads-left.result names.items next within c.index-heads-left.is c.in_ok-own_names.ensures
          (sym (l.invariant.2 names) ∙ new) l.invariant.1,
      λ k. one_more bare_view c.args.heads.now (l.left - 1) l.left c.index-heads-left.result names.items next within c.index-heads-left.is c.in_ok-own_names.ensures k.items
          (set.contains (λ x y. names_cmp x.items y.items) l.behind k) (set.contains (λ x y. names_cmp x.items y.items) c.insert.new.self k) (l.invariant.2 k) (c.in_ok-insert.ensures.updates.0 k),
    )
