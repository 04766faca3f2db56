use Rattle.std.proofs.Common.{◌∙◌, ap, sym, subst}
use Rattle.vx_dtype.specs.TypeRules.{distinct_names, field_names}
use Rattle.vx_dtype.specs.Types.{Ty}
use Rattle.vx_column.specs.Columns.{Column}
use Rattle.vx_semantics.specs.Tables.{row_type}
use Rattle.vx_calls.specs.Steps.{IsChecked}
use Rattle.vx_calls.proofs.FilterLemmas.{boolean_checked}
use Rattle.vx_calls.proofs.RowLemmas.{names_distinct}
use Rattle.vx_calls.proofs.row_truths.column_bits.Goals as goal

pub told_rows-requires-clause-names : goal.told_rows-requires-clause-names
told_rows-requires-clause-names c =
    ap (λ fields. distinct_names (field_names fields)) c.columns_of.ensures.columns ∙ names_distinct c.args.typed.now.zones c.columns_of.ensures.rules

pub table_bits-requires : goal.table_bits-requires
table_bits-requires c =
    let typed = c.args.typed.now in
    let same = ap (λ (made : Column). made.ty) c.in-Ok.ensures ∙ ap row_type c.columns_of.ensures.columns in
    subst (λ (t : Ty). IsChecked t typed.tree) (sym same) (boolean_checked (row_type typed.zones.columns) typed.tree c.requires.typed)
