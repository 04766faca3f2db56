use Rattle.std.proofs.Common.{rules, ◌≡◌, ◌<◌, ◌≤◌, length, ap}
use Rattle.std.proofs.Math.ListN.{get_or}
use Rattle.std.specs.Map.{lookup}
use Rattle.std.specs.Ordering.{nat_cmp}
use Rattle.std.specs.Cmp.Lexicographic.{slice_cmp}
use Rattle.std.specs.BTreeMap.{get, is_at}
use Rattle.vx_typing.proofs.FieldPlaces.{none_noted, one_struct_more, all_noted}
use Rattle.vx_typing.proofs.field_places.last_places.Goals as goal

pub loop-giver-init : goal.loop-giver-init
loop-giver-init c =
    λ f. none_noted c.args.structs.now f (get (slice_cmp nat_cmp) c.new-places.result f) (ap (lookup (is_at (slice_cmp nat_cmp f))) c.new-places.ensures.empty)

pub loop-giver-preserved : goal.loop-giver-preserved
loop-giver-preserved c =
    let l = c.loop-giver in
    let structs = c.args.structs.now in
    let names = c.as_slice.result.now in
    let within : l.giver < length structs = search rules in
    let is : names ≡ get_or structs l.giver names = search rules in
    λ f. one_struct_more structs l.giver names f _ (get (slice_cmp nat_cmp) l.places f) (get (slice_cmp nat_cmp) c.note_places.new.places f) within is (l.invariant f) (c.in_ok-note_places.ensures f)

pub returns : goal.returns
returns c =
    let l = c.loop-giver in
    let structs = c.args.structs.now in
    let past : length structs ≤ l.giver = search rules in
    λ f. all_noted structs l.giver f _ (get (slice_cmp nat_cmp) l.places f) past (l.invariant f)
