use Rattle.std.proofs.Common.{◌≡◌, drop}
use Rattle.std.specs.Option.{option_or}
use Rattle.std.specs.Ordering.{nat_cmp}
use Rattle.std.specs.Cmp.Lexicographic.{slice_cmp}
use Rattle.std.specs.BTreeMap.{get}
use Rattle.vx_dtype.specs.Types.{Bytes}
use Rattle.vx_typing.specs.MergedFields.{last_place}
use Rattle.vx_typing.proofs.field_places.last_places.Given as goal

-- the places in the structs that are left, over those that were noted
abbrev pub invariant-loop-giver : goal.invariant-loop-giver
invariant-loop-giver l = (f : Bytes) → last_place 0 f l.structs ≡ option_or (last_place l.giver f (drop l.giver l.structs)) (get (slice_cmp nat_cmp) l.places f)
