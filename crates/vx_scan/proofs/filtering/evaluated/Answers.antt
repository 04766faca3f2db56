use Rattle.std.proofs.Common.{Err, subst}
use Rattle.vx_dtype.specs.TypeViews.{type_view}
use Rattle.vx_eval.specs.declared.errors.EvalError.{EvalError}
use Rattle.vx_semantics.specs.Asked.{asked_nodes}
use Rattle.vx_semantics.specs.Tables.{row_type}
use Rattle.vx_prepare.specs.Preparing.{EvaluatesAsked, HasCauseIn}
use Rattle.vx_scan.proofs.filtering.evaluated.Goals as goal

pub unreachable-requires : goal.unreachable-requires
unreachable-requires c =
    subst (λ (x : EvalError). HasCauseIn (asked_nodes (row_type c.requires.fields) c.requires.expression) (Err x)) c.in-Err-Typing.field-0-is
    (c.in-Err-Typing.ensures.causes c.requires.fields c.requires.expression c.requires.prepared c.requires.distinct c.requires.own)

pub returns-in-Ok-clause-told : goal.returns-in-Ok-clause-told
returns-in-Ok-clause-told c = λ fs e prepared distinct own rows have.
    let given = c.in-Ok.ensures.known fs e prepared distinct own rows have in
    (given.1, given.2)

pub returns-in-Err-Overflow-clause-told : goal.returns-in-Err-Overflow-clause-told
returns-in-Err-Overflow-clause-told c = λ fs e prepared distinct own rows have.
    subst (λ (x : EvalError). EvaluatesAsked fs c.args.slots.now e (type_view c.args.expr.now.dtype) rows (Err x)) c.in-Err-Overflow.field-0-is
    (c.in-Err-Overflow.ensures.known fs e prepared distinct own rows have)

pub returns-in-Err-Overflow-clause-causes : goal.returns-in-Err-Overflow-clause-causes
returns-in-Err-Overflow-clause-causes c = λ fs e prepared distinct own.
    subst (λ (x : EvalError). HasCauseIn (asked_nodes (row_type fs) e) (Err x)) c.in-Err-Overflow.field-0-is
    (c.in-Err-Overflow.ensures.causes fs e prepared distinct own)

pub returns-in-Err-BadCast-clause-told : goal.returns-in-Err-BadCast-clause-told
returns-in-Err-BadCast-clause-told c = λ fs e prepared distinct own rows have.
    subst (λ (x : EvalError). EvaluatesAsked fs c.args.slots.now e (type_view c.args.expr.now.dtype) rows (Err x)) c.in-Err-BadCast.field-0-is
    (c.in-Err-BadCast.ensures.known fs e prepared distinct own rows have)

pub returns-in-Err-BadCast-clause-causes : goal.returns-in-Err-BadCast-clause-causes
returns-in-Err-BadCast-clause-causes c = λ fs e prepared distinct own.
    subst (λ (x : EvalError). HasCauseIn (asked_nodes (row_type fs) e) (Err x)) c.in-Err-BadCast.field-0-is
    (c.in-Err-BadCast.ensures.causes fs e prepared distinct own)
