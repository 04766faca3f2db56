use Rattle.std.proofs.Common.{◌≡◌, ap, sym, ◌∙◌, map, length}
use Rattle.vx_dtype.specs.Types.{bool_ty}
use Rattle.vx_dtype.specs.Fits.{fits}
use Rattle.vx_dtype.specs.TypeRules.{nullability_of}
use Rattle.vx_dtype.specs.RawViews.{raw_view}
use Rattle.vx_words.specs.Truths.{vals_of}
use Rattle.vx_numbers.specs.Numbers.{compared}
use Rattle.vx_column.specs.Columns.{Column, column, seen}
use Rattle.vx_column.proofs.StructLemmas.{if_ok_map}
use Rattle.vx_column.proofs.NumberLemmas.{in_range_fit, length_of_rows}
use Rattle.vx_kernels.proofs.ComparedNumbers.{compared_truths_fit, compared_lists, with_truths_fit, with_list, swapped_truths_fit, swapped_list, one_ptype}
use Rattle.vx_kernels.proofs.KeptTypes.{plain_kept, alike_kept}
use Rattle.vx_kernels.proofs.SumLemmas.{same_int}
use Rattle.vx_kernels.proofs.OrderLemmas.{same_other}
use Rattle.vx_kernels.proofs.comparisons.compare.Goals as goal

pub zip_columns-requires-clause-left_kept : goal.zip_columns-requires-clause-left_kept
zip_columns-requires-clause-left_kept c = plain_kept _ c.requires.plain

pub zip_columns-requires-clause-right_kept : goal.zip_columns-requires-clause-right_kept
zip_columns-requires-clause-right_kept c = alike_kept _ _ c.requires.plain c.requires.same

pub compare-requires-clause-types : goal.compare-requires-clause-types
compare-requires-clause-types c =
    one_ptype c.args.l.now.ty c.args.r.now.ty _ _ _ _ c.in-Numbers-Numbers.ensures.kind.kind c.in-Numbers-Numbers.ensures'.kind.kind c.requires.same

pub from_truths-requires : goal.from_truths-requires
from_truths-requires c =
    compared_truths_fit c.args.op c.args.l.now.ty c.args.r.now.ty c.in-Numbers-Numbers.left.now c.in-Numbers-Numbers.right.now _ _ c.union_of-nullability.ensures c.in-Numbers-Numbers.ensures.kind c.in-Numbers-Numbers.ensures'.kind c.in_ok-truths-in-Numbers-Numbers.ensures

pub returns-in_ok-truths-in-Numbers-Numbers-clause-rows : goal.returns-in_ok-truths-in-Numbers-Numbers-clause-rows
returns-in_ok-truths-in-Numbers-Numbers-clause-rows c =
    let rows = compared_lists c.args.op c.in-Numbers-Numbers.left.now c.in-Numbers-Numbers.right.now c.in_ok-truths-in-Numbers-Numbers.truths c.args.l.now.rows c.args.r.now.rows c.in-Numbers-Numbers.ensures.rows c.in-Numbers-Numbers.ensures'.rows c.in_ok-truths-in-Numbers-Numbers.ensures in
    if_ok_map _ _ c.from_truths.result (λ (x : Column) (h : x ≡ column (bool_ty c.union_of-nullability.result) (vals_of c.in_ok-truths-in-Numbers-Numbers.truths)). ap (λ (d : Column). d.rows) h ∙ rows) c.from_truths.ensures

-- numbers beside one value
pub compare_with-requires : goal.compare_with-requires
compare_with-requires c =
    let p = c.in-Numbers-Constant.left.now.ptype in
    let type = same_int c.args.l.now.ty c.args.r.now.ty p _ c.in-Numbers-Constant.ensures.kind.kind c.requires.same in
    let own = c.number_of.ensures.fit p (nullability_of c.args.r.now.ty) (ap (fits (raw_view c.in-Numbers-Constant.value.now)) (sym type) ∙ c.in-Numbers-Constant.ensures'.kind) in
    in_range_fit p (nullability_of c.args.r.now.ty) c.number_of.result own

pub from_truths-requires-in-Numbers-Constant : goal.from_truths-requires-in-Numbers-Constant
from_truths-requires-in-Numbers-Constant c =
    let p = c.in-Numbers-Constant.left.now.ptype in
    let type = same_int c.args.l.now.ty c.args.r.now.ty p _ c.in-Numbers-Constant.ensures.kind.kind c.requires.same in
    let own = c.number_of.ensures.fit p (nullability_of c.args.r.now.ty) (ap (fits (raw_view c.in-Numbers-Constant.value.now)) (sym type) ∙ c.in-Numbers-Constant.ensures'.kind) in
    with_truths_fit c.args.op c.args.l.now.ty c.args.r.now.ty p c.in-Numbers-Constant.left.now c.number_of.result _ _ c.union_of-nullability.ensures c.in-Numbers-Constant.ensures.kind own c.in_ok-truths-in-Numbers-Constant.ensures

pub returns-in_ok-truths-in-Numbers-Constant-clause-rows : goal.returns-in_ok-truths-in-Numbers-Constant-clause-rows
returns-in_ok-truths-in-Numbers-Constant-clause-rows c =
    let p = c.in-Numbers-Constant.left.now.ptype in
    let x = c.in-Numbers-Constant.value.now in
    let type = same_int c.args.l.now.ty c.args.r.now.ty p _ c.in-Numbers-Constant.ensures.kind.kind c.requires.same in
    let value = sym (c.number_of.ensures.value p (nullability_of c.args.r.now.ty) (ap (fits (raw_view x)) (sym type) ∙ c.in-Numbers-Constant.ensures'.kind)) ∙ ap (λ t. seen t x) (sym type) in
    let number = length_of_rows c.in-Numbers-Constant.left.now c.args.l.now.rows c.in-Numbers-Constant.ensures.rows ∙ c.requires.lengths in
    let rows = with_list c.args.op p c.in-Numbers-Constant.left.now c.number_of.result _ (length c.args.r.now.rows) c.in_ok-truths-in-Numbers-Constant.truths c.args.l.now.rows c.args.r.now.rows c.in-Numbers-Constant.ensures.rows number value (sym c.in-Numbers-Constant.ensures'.rows) c.in_ok-truths-in-Numbers-Constant.ensures in
    if_ok_map _ _ c.from_truths-in-Numbers-Constant.result (λ (y : Column) (h : y ≡ column (bool_ty c.union_of-nullability.result) (vals_of c.in_ok-truths-in-Numbers-Constant.truths)). ap (λ (d : Column). d.rows) h ∙ rows) c.from_truths-in-Numbers-Constant.ensures

-- one value beside numbers
pub compare_with-requires-in-Constant-Numbers : goal.compare_with-requires-in-Constant-Numbers
compare_with-requires-in-Constant-Numbers c =
    let p = c.in-Constant-Numbers.right.now.ptype in
    let type = same_int c.args.r.now.ty c.args.l.now.ty p _ c.in-Constant-Numbers.ensures'.kind.kind (same_other _ _ c.requires.plain c.requires.same) in
    let own = c.number_of-in-Constant-Numbers.ensures.fit p (nullability_of c.args.l.now.ty) (ap (fits (raw_view c.in-Constant-Numbers.value.now)) (sym type) ∙ c.in-Constant-Numbers.ensures.kind) in
    in_range_fit p (nullability_of c.args.l.now.ty) c.number_of-in-Constant-Numbers.result own

pub from_truths-requires-in-Constant-Numbers : goal.from_truths-requires-in-Constant-Numbers
from_truths-requires-in-Constant-Numbers c =
    let p = c.in-Constant-Numbers.right.now.ptype in
    let type = same_int c.args.r.now.ty c.args.l.now.ty p _ c.in-Constant-Numbers.ensures'.kind.kind (same_other _ _ c.requires.plain c.requires.same) in
    let own = c.number_of-in-Constant-Numbers.ensures.fit p (nullability_of c.args.l.now.ty) (ap (fits (raw_view c.in-Constant-Numbers.value.now)) (sym type) ∙ c.in-Constant-Numbers.ensures.kind) in
    let made = c.in_ok-truths-in-Constant-Numbers.ensures ∙ (λ j. map (λ n. compared (c.swap.ensures j) n c.number_of-in-Constant-Numbers.result) c.in-Constant-Numbers.right.now.numbers) in
    swapped_truths_fit c.args.op c.args.l.now.ty c.args.r.now.ty p c.in-Constant-Numbers.right.now c.number_of-in-Constant-Numbers.result _ _ c.union_of-nullability.ensures own c.in-Constant-Numbers.ensures'.kind made

pub returns-in_ok-truths-in-Constant-Numbers-clause-rows : goal.returns-in_ok-truths-in-Constant-Numbers-clause-rows
returns-in_ok-truths-in-Constant-Numbers-clause-rows c =
    let p = c.in-Constant-Numbers.right.now.ptype in
    let x = c.in-Constant-Numbers.value.now in
    let type = same_int c.args.r.now.ty c.args.l.now.ty p _ c.in-Constant-Numbers.ensures'.kind.kind (same_other _ _ c.requires.plain c.requires.same) in
    let value = sym (c.number_of-in-Constant-Numbers.ensures.value p (nullability_of c.args.l.now.ty) (ap (fits (raw_view x)) (sym type) ∙ c.in-Constant-Numbers.ensures.kind)) ∙ ap (λ t. seen t x) (sym type) in
    let number = length_of_rows c.in-Constant-Numbers.right.now c.args.r.now.rows c.in-Constant-Numbers.ensures'.rows ∙ sym c.requires.lengths in
    let made = c.in_ok-truths-in-Constant-Numbers.ensures ∙ (λ j. map (λ n. compared (c.swap.ensures j) n c.number_of-in-Constant-Numbers.result) c.in-Constant-Numbers.right.now.numbers) in
    let rows = swapped_list c.args.op p c.in-Constant-Numbers.right.now c.number_of-in-Constant-Numbers.result _ (length c.args.l.now.rows) c.in_ok-truths-in-Constant-Numbers.truths c.args.l.now.rows c.args.r.now.rows c.in-Constant-Numbers.ensures'.rows number value (sym c.in-Constant-Numbers.ensures.rows) made in
    if_ok_map _ _ c.from_truths-in-Constant-Numbers.result (λ (y : Column) (h : y ≡ column (bool_ty c.union_of-nullability.result) (vals_of c.in_ok-truths-in-Constant-Numbers.truths)). ap (λ (d : Column). d.rows) h ∙ rows) c.from_truths-in-Constant-Numbers.ensures
