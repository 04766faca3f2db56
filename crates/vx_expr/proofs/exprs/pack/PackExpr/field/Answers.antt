use Rattle.std.proofs.Common.{sym, subst, Option}
use Rattle.std.specs.Prelude.{position}
use Rattle.std.specs.List.{slice_get}
use Rattle.std.specs.Option.{option_and_then}
use Rattle.std.specs.Str.{bytes_eq}
use Rattle.vx_expr.specs.Trees.{Tree}
use Rattle.vx_expr.specs.Answers.{Answers}
use Rattle.vx_expr.specs.declared.errors.ExprError.TheVariants.{UnknownField}
use Rattle.vx_expr.proofs.PackedFields.{packed_value_at}
use Rattle.vx_expr.proofs.exprs.pack.PackExpr.field.Goals as goal

-- src/exprs/pack.rt:112:5
pub returns : goal.returns
returns c =
    let f = c.args.name.now in
    let p = c.args.self.now in
    let told : Answers UnknownField (option_and_then (λ i. slice_get p.values i) (position (bytes_eq f) p.names)) c.value_named.result = c.value_named.ensures in
    subst (λ (o : Option Tree). Answers UnknownField o c.value_named.result) (sym (packed_value_at f p.names p.values)) told
