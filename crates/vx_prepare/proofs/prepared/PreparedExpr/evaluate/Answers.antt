use Rattle.std.proofs.Common.{◌∙◌, ap}
use Rattle.vx_column.specs.declared.columns.ColumnRef.{ColumnRef}
use Rattle.vx_dtype.specs.TypeViews.{type_view}
use Rattle.vx_laws_simplifying.specs.Narrowing.{narrows}
use Rattle.vx_prepare.proofs.EvaluateLemmas.{names_once, columns_held, dtype_once, known, some_rows, causes, long, narrow, none_evaluated, rows_held, narrows-own}
use Rattle.vx_prepare.proofs.prepared.PreparedExpr.evaluate.Goals as goal

pub evaluate_split-requires-clause-distinct : goal.evaluate_split-requires-clause-distinct
evaluate_split-requires-clause-distinct c = names_once c.args.slots.now c.args.self.now c.args.len c.args.columns.now c.requires.columns

pub evaluate_split-requires-clause-held : goal.evaluate_split-requires-clause-held
evaluate_split-requires-clause-held c = columns_held c.args.slots.now c.args.self.now c.args.len c.args.columns.now c.requires.columns

pub returns-clause-known : goal.returns-clause-known
returns-clause-known c =
    known c.args.slots.now c.args.self.now c.args.len c.args.columns.now c.evaluate_split.result c.hold_values.ensures c.evaluate_split.ensures

pub returns-clause-rows : goal.returns-clause-rows
returns-clause-rows c =
    some_rows c.args.slots.now c.args.self.now c.args.len c.args.columns.now c.evaluate_split.result c.hold_values.ensures c.evaluate_split.ensures

pub returns-clause-len : goal.returns-clause-len
returns-clause-len c =
    long c.args.slots.now c.args.self.now c.args.len c.args.columns.now c.evaluate_split.result c.hold_values.ensures c.evaluate_split.ensures c.requires.columns

pub returns-clause-dtype : goal.returns-clause-dtype
returns-clause-dtype c =
    narrow c.args.slots.now c.args.self.now c.args.len c.args.columns.now c.evaluate_split.result c.hold_values.ensures c.evaluate_split.ensures c.requires.columns

pub returns-clause-causes : goal.returns-clause-causes
returns-clause-causes c =
    causes c.args.slots.now c.args.self.now c.args.len c.args.columns.now c.evaluate_split.result c.hold_values.ensures c.evaluate_split.ensures

pub without_rows-requires : goal.without_rows-requires
without_rows-requires c = dtype_once c.args.slots.now c.args.self.now c.args.len c.args.columns.now c.requires.columns

pub returns-then-len-eq0-clause-known : goal.returns-then-len-eq0-clause-known
returns-then-len-eq0-clause-known c = λ fs e is distinct are rows have.
    none_evaluated fs c.args.slots.now e (type_view c.args.self.now.dtype) rows c.in_ok-without_rows.field-0 c.in_ok-without_rows.ensures (have.long ∙ c.if-len-eq0.true)

pub returns-then-len-eq0-clause-rows : goal.returns-then-len-eq0-clause-rows
returns-then-len-eq0-clause-rows c = λ fs e is distinct are.
    rows_held fs c.args.slots.now e c.args.self.now c.args.len c.args.columns.now c.hold_values.ensures is distinct are

pub returns-then-len-eq0-clause-dtype : goal.returns-then-len-eq0-clause-dtype
returns-then-len-eq0-clause-dtype c =
    let u = type_view c.args.self.now.dtype in
    ap (λ (d : ColumnRef). narrows d.ty u) c.in_ok-without_rows.ensures ∙ narrows-own u

pub returns-in_err-without_rows-clause-rows : goal.returns-in_err-without_rows-clause-rows
returns-in_err-without_rows-clause-rows c = λ fs e is distinct are.
    rows_held fs c.args.slots.now e c.args.self.now c.args.len c.args.columns.now c.hold_values.ensures is distinct are
