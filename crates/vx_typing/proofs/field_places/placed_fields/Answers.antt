use Rattle.std.proofs.Common.{IsSome, subst, sym}
use Rattle.std.specs.Ordering.{nat_cmp}
use Rattle.std.specs.Cmp.Lexicographic.{slice_cmp}
use Rattle.std.specs.BTreeMap.{get}
use Rattle.vx_dtype.specs.Types.{Bytes}
use Rattle.vx_typing.proofs.field_places.placed_fields.Goals as goal

pub placed_field-requires : goal.placed_field-requires
placed_field-requires c =
    subst (λ (f : Bytes). IsSome (get (slice_cmp nat_cmp) c.args.places.now f)) (sym c.name-item.is) (c.requires c.loop-name.name-index c.name-item.result c.loop-name-test.true)
