use Rattle.std.proofs.Common.{ap, ◌∙◌}
use Rattle.vx_dtype.specs.TypeViews.{type_view}
use Rattle.vx_column.specs.Columns.{Column}
use Rattle.vx_eval.specs.Scopes.{scope_rows, scope_slots}
use Rattle.vx_eval.proofs.Evaluated.{checked}
use Rattle.vx_eval.proofs.eval.ExprRefExprEval.evaluate.Goals as goal

pub returns-in-Err-Overflow : goal.returns-in-Err-Overflow
returns-in-Err-Overflow c =
    let s = c.args.scope.now in
    let broken = rw c.in-Err-Overflow.field-0-is at c.in-Err-Overflow.ensures in
    let typed = checked (scope_rows s).ty (type_view c.dtype.result.now) (scope_slots s) c.slots.result.now c.args.self.now (type_view c.in-Ok.field-0) c.in_ok-fit.fit
    (c.dtype.ensures.shown ∙ ap (λ (d : Column). d.ty) c.root.ensures) c.slots.ensures c.in-Ok.ensures c.in_ok-fit.ensures c.if-not-fit.false in
    ((type_view c.in-Ok.field-0, typed), broken)

pub returns-in-Err-BadCast : goal.returns-in-Err-BadCast
returns-in-Err-BadCast c =
    let s = c.args.scope.now in
    let broken = rw c.in-Err-BadCast.field-0-is at c.in-Err-BadCast.ensures in
    let typed = checked (scope_rows s).ty (type_view c.dtype.result.now) (scope_slots s) c.slots.result.now c.args.self.now (type_view c.in-Ok.field-0) c.in_ok-fit.fit
    (c.dtype.ensures.shown ∙ ap (λ (d : Column). d.ty) c.root.ensures) c.slots.ensures c.in-Ok.ensures c.in_ok-fit.ensures c.if-not-fit.false in
    ((type_view c.in-Ok.field-0, typed), broken)
