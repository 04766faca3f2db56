use Rattle.std.proofs.Common.{sym, ap, ◌∙◌, arith}
use Rattle.serde_json.specs.View.{items_view}
use Rattle.vx_dtype.specs.TypeViews.{type_view}
use Rattle.vx_request.specs.Cells.{column_in}
use Rattle.vx_request.specs.RequestViews.{cells_view}
use Rattle.vx_request.proofs.ColumnLemmas.{column_more, column_missing, columns_end}
use Rattle.vx_request.proofs.columns.columns_of.Goals as goal

pub returns-in-None : goal.returns-in-None
returns-in-None c =
    column_missing type_view cells_view c.args.dtypes.now c.args.lists.now c.loop-i.i c.index-dtypes-i.result c.index-lists-i.result c.loop-i.columns.items _
    (omega arith) (omega arith) c.index-dtypes-i.is c.index-lists-i.is
    (sym (sym c.in-None.is ∙ c.in_ok-column.ensures ∙ ap (λ vs. column_in (type_view c.index-dtypes-i.result) (items_view vs)) c.as_slice.ensures.value))
    c.loop-i.invariant

pub loop-i-preserved : goal.loop-i-preserved
loop-i-preserved c =
    column_more type_view cells_view c.args.dtypes.now c.args.lists.now c.loop-i.i c.index-dtypes-i.result c.index-lists-i.result c.in-Some.column c.loop-i.columns.items
    c.push.new.self.items _ (omega arith) (omega arith) c.index-dtypes-i.is c.index-lists-i.is
    (sym (sym c.in-Some.is ∙ c.in_ok-column.ensures ∙ ap (λ vs. column_in (type_view c.index-dtypes-i.result) (items_view vs)) c.as_slice.ensures.value))
    c.loop-i.invariant c.in_ok-push-in-Some.ensures.items

pub returns : goal.returns
returns c =
    columns_end type_view cells_view c.args.dtypes.now c.args.lists.now c.loop-i.i c.loop-i.columns.items _ (omega arith) c.loop-i.invariant
