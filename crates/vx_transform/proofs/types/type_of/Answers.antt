use Rattle.vx_dtype.specs.TypeViews.{type_view}
use Rattle.vx_transform.proofs.TypeLemmas.{never_refuses}
use Rattle.vx_transform.proofs.types.type_of.Goals as goal

pub unreachable-requires : goal.unreachable-requires
unreachable-requires c =
    never_refuses (type_view c.args.scope.now) c.args.expr.now c.in-Err-DuplicateField.field-0 c.in-Err-DuplicateField.field-0-is c.in-Err-DuplicateField.ensures
