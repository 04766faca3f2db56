use Rattle.std.proofs.Common.{◌≡◌, ◌+◌, ◌-◌, ◌<◌, List, ℕ, length, subst, sym, arith}
use Rattle.std.proofs.Math.ListN.{get_or}
use Rattle.std.specs.Ordering.{nat_cmp}
use Rattle.std.specs.Cmp.Lexicographic.{slice_cmp}
use Rattle.std.specs.BTreeMap.{get}
use Rattle.vx_typing.proofs.FieldPlaces.{no_name_noted, one_name_more, all_names_noted}
use Rattle.vx_typing.proofs.field_places.note_places.Goals as goal

pub loop-left-init : goal.loop-left-init
loop-left-init c =
    let names = c.args.names.now in
    (omega arith, λ f. no_name_noted c.args.giver names (length names) f (get (slice_cmp nat_cmp) c.args.places.now f) (omega arith))

pub loop-left-preserved : goal.loop-left-preserved
loop-left-preserved c =
    let l = c.loop-left in
    let names = c.args.names.now in
    let g = c.in_ok-clone.field-0 in
    let next : l.left - 1 + 1 ≡ l.left = omega (arith, c.loop-left-test.true) in
    let within : l.left - 1 < length names = omega (arith, c.loop-left-test.true, l.invariant.0) in
    let is : g ≡ get_or names (l.left - 1) g = subst (λ (x : List ℕ). x ≡ get_or names (l.left - 1) x) (sym c.in_ok-clone.ensures.cases) c.index-names-left.is in (
      omega (arith, l.invariant.0),
      λ f. one_name_more c.args.giver names (l.left - 1) l.left g f (get (slice_cmp nat_cmp) c.args.places.now f) (get (slice_cmp nat_cmp) l.places f) (get (slice_cmp nat_cmp) c.insert.new.self f)
          next within is (l.invariant.1 f) (c.in_ok-insert.ensures.updates.0 f),
    )

pub returns : goal.returns
returns c =
    let l = c.loop-left in
    let first : l.left ≡ 0 = omega (arith, c.loop-left-test.false) in
    λ f. all_names_noted c.args.giver c.args.names.now l.left f (get (slice_cmp nat_cmp) c.args.places.now f) (get (slice_cmp nat_cmp) l.places f) first (l.invariant.1 f)
