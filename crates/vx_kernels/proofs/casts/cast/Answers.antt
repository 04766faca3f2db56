use Rattle.std.proofs.Common.{◌≡◌, true, ◌&&◌, ap, sym, ◌∙◌}
use Rattle.vx_dtype.specs.TypeRules.{alike, is_nullable, nullability_of}
use Rattle.vx_dtype.specs.TypeViews.{type_view}
use Rattle.vx_column.specs.declared.errors.ColumnError.TheVariants.{BadCast}
use Rattle.vx_kernels.proofs.CastNumbers.{widened_answer}
use Rattle.vx_kernels.proofs.casts.cast.Goals as goal

pub returns-then-widens : goal.returns-then-widens
returns-then-widens c =
    let wide : (is_nullable (nullability_of (type_view c.args.target.now)) && alike c.args.c.now.ty (type_view c.args.target.now)) ≡ true =
    ap (λ t. is_nullable (nullability_of (type_view c.args.target.now)) && alike t (type_view c.args.target.now)) (sym c.dtype.ensures.shown) ∙ sym c.if-widens.ensures in
    widened_answer BadCast (type_view c.args.target.now) c.args.c.now c.in_ok-made_nullable.field-0 c.requires wide c.dtype.ensures.fit c.in_ok-made_nullable.ensures
