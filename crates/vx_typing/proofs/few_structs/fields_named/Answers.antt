use Rattle.std.proofs.Common.{IsSome, subst, sym}
use Rattle.vx_dtype.specs.Types.{Bytes}
use Rattle.vx_typing.specs.MergedFields.{last_place}
use Rattle.vx_typing.proofs.few_structs.fields_named.Goals as goal

pub field_named-requires : goal.field_named-requires
field_named-requires c =
    subst (λ (f : Bytes). IsSome (last_place 0 f c.args.structs.now)) (sym c.name-item.is) (c.requires c.loop-name.name-index c.name-item.result c.loop-name-test.true)
