use Rattle.std.proofs.Common.{ap, ◌∙◌, length}
use Rattle.vx_dtype.specs.Lists.{contains3}
use Rattle.vx_column.specs.Columns.{Column, seen}
use Rattle.vx_kernels.proofs.KeptTypes.{lists_kept, asked_kept}
use Rattle.vx_kernels.proofs.LookupLemmas.{shared_rows}
use Rattle.vx_column.proofs.StructLemmas.{if_ok_map}
use Rattle.vx_kernels.proofs.comparisons.list_contains.Goals as goal

pub zip_columns-requires-clause-left_kept : goal.zip_columns-requires-clause-left_kept
zip_columns-requires-clause-left_kept c = lists_kept _ _ c.requires.kind

pub zip_columns-requires-clause-right_kept : goal.zip_columns-requires-clause-right_kept
zip_columns-requires-clause-right_kept c = asked_kept _ _ c.requires.kind

pub zip_columns-requires-in-None-clause-left_kept : goal.zip_columns-requires-in-None-clause-left_kept
zip_columns-requires-in-None-clause-left_kept c = lists_kept _ _ c.requires.kind

pub zip_columns-requires-in-None-clause-right_kept : goal.zip_columns-requires-in-None-clause-right_kept
zip_columns-requires-in-None-clause-right_kept c = asked_kept _ _ c.requires.kind

pub returns-in_ok-sorted_keys-in-Some-clause-rows : goal.returns-in_ok-sorted_keys-in-Some-clause-rows
returns-in_ok-sorted_keys-in-Some-clause-rows c =
    let list = ap (λ t. seen t c.in-Some.shared.now) c.dtype.ensures.shown in
    let rows = shared_rows contains3 (length c.args.list.now.rows) _ _ c.args.list.now.rows c.args.value.now.rows list c.in-Some.ensures.value in
    if_ok_map _ _ c.zip_columns.result (λ (made : Column) h. h ∙ rows) c.zip_columns.ensures.rows
