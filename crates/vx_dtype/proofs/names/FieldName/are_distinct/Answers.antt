use Rattle.std.proofs.Common.{◌≡◌, ℕ, List, subst, ◌+◌, ◌-◌, ◌<◌, length, sym, ◌∙◌, arith}
use Rattle.std.proofs.Math.ListN.{get_or}
use Rattle.std.specs.Ordering.{nat_cmp}
use Rattle.std.specs.Cmp.Lexicographic.{slice_cmp}
use Rattle.std.specs.BTreeSet as set
use Rattle.vx_dtype.proofs.DistinctLemmas.{stands_twice, stands_once, one_more, found, not_found}
use Rattle.vx_dtype.proofs.names.FieldName.are_distinct.Goals as goal

pub returns-then-not-branch : goal.returns-then-not-branch
returns-then-not-branch c =
    let l = c.loop-left in
    let f = c.in_ok-clone.field-0 in
    let next : l.left - 1 + 1 ≡ l.left = omega (arith, c.loop-left-test.true) in
    let within : l.left - 1 < length c.args.names.now = omega (arith, c.loop-left-test.true, l.invariant.0) in
    let is : f ≡ get_or c.args.names.now (l.left - 1) f = subst (λ (g : List ℕ). g ≡ get_or c.args.names.now (l.left - 1) g) (sym c.in_ok-clone.ensures.cases) c.index-names-left.is in
    stands_twice c.args.names.now (l.left - 1) l.left f next within is (sym (l.invariant.2 f) ∙ found (set.contains (slice_cmp nat_cmp) l.behind f) (sym c.in_ok-insert.ensures.added ∙ c.if-not-branch.true))

pub loop-left-preserved : goal.loop-left-preserved
loop-left-preserved c =
    let l = c.loop-left in
    let f = c.in_ok-clone.field-0 in
    let next : l.left - 1 + 1 ≡ l.left = omega (arith, c.loop-left-test.true) in
    let within : l.left - 1 < length c.args.names.now = omega (arith, c.loop-left-test.true, l.invariant.0) in
    let is : f ≡ get_or c.args.names.now (l.left - 1) f = subst (λ (g : List ℕ). g ≡ get_or c.args.names.now (l.left - 1) g) (sym c.in_ok-clone.ensures.cases) c.index-names-left.is in
    let new = not_found (set.contains (slice_cmp nat_cmp) l.behind f) (sym c.in_ok-insert.ensures.added ∙ c.if-not-branch.false) in (
      omega (arith, l.invariant.0),
      stands_once c.args.names.now (l.left - 1) l.left f next within is (sym (l.invariant.2 f) ∙ new) l.invariant.1,
      λ q. one_more c.args.names.now (l.left - 1) l.left f next within is q (set.contains (slice_cmp nat_cmp) l.behind q) (set.contains (slice_cmp nat_cmp) c.insert.new.self q) (l.invariant.2 q) (c.in_ok-insert.ensures.updates.0 q),
    )
