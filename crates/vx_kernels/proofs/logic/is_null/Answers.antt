use Rattle.std.proofs.Common.{◌≡◌, false, Some, ap, sym, ◌∙◌, rules, refl, map}
use Rattle.std.proofs.Math.ListN.{replicate}
use Rattle.vx_dtype.specs.declared.Nullability.TheVariants.{NonNullable}
use Rattle.vx_dtype.specs.Types.{bool_ty}
use Rattle.vx_dtype.specs.TypeRules.{is_nullable, nullability_of}
use Rattle.vx_dtype.specs.Logic.{is_null3}
use Rattle.vx_dtype.specs.RawViews.{raw_view}
use Rattle.vx_words.specs.Words.{truth_val}
use Rattle.vx_words.specs.Truths.{vals_of}
use Rattle.vx_column.specs.Columns.{Column, column, seen}
use Rattle.vx_column.proofs.FitLemmas.{is_null3_valued}
use Rattle.vx_column.proofs.RowLemmas.{map_repeated}
use Rattle.vx_column.proofs.StructLemmas.{if_ok_map}
use Rattle.vx_kernels.proofs.NullTests.{none_null, null_tests_of, nulls_hidden, tests_known}
use Rattle.vx_kernels.proofs.logic.is_null.Goals as goal

pub of_constant-requires-clause-fit : goal.of_constant-requires-clause-fit
of_constant-requires-clause-fit c = c.of_truth.ensures.fit NonNullable refl

pub returns-then-not-is_nullable-clause-rows : goal.returns-then-not-is_nullable-clause-rows
returns-then-not-is_nullable-clause-rows c =
    let never : is_nullable (nullability_of c.args.c.now.ty) ≡ false = search rules in
    let rows = none_null c.args.c.now.ty c.args.c.now.rows never c.dtype-dtype.ensures.fit in
    ap (λ (r : Column). r.rows) c.of_constant.ensures ∙ (λ j. replicate (c.len.ensures j) (c.of_truth.ensures.value NonNullable j)) ∙ rows

pub returns-in-Constant-clause-rows : goal.returns-in-Constant-clause-rows
returns-in-Constant-clause-rows c =
    let x = c.in-Constant.value.now in
    let value : seen (bool_ty NonNullable) c.of_truth-in-Constant.result ≡ is_null3 (seen c.args.c.now.ty c.in-Constant.value.now) = c.of_truth-in-Constant.ensures.value NonNullable ∙ ap (λ b. truth_val (Some b)) c.is_null_value.ensures ∙ sym (is_null3_valued (raw_view x) c.args.c.now.ty c.in-Constant.ensures.kind) in
    ap (λ (r : Column). r.rows) c.of_constant-in-Constant.ensures ∙ (λ j. replicate (c.len-in-Constant.ensures j) (value j)) ∙ sym (map_repeated is_null3 _ (seen c.args.c.now.ty x)) ∙ ap (map is_null3) (sym c.in-Constant.ensures.rows)

pub from_truths-requires : goal.from_truths-requires
from_truths-requires c = tests_known c.in_ok-nulls-in-Truths.nulls (vals_of c.in-Truths.truths.now) c.in_ok-nulls-in-Truths.ensures

pub from_truths-requires-in-Numbers : goal.from_truths-requires-in-Numbers
from_truths-requires-in-Numbers c =
    tests_known c.in_ok-nulls-in-Numbers.nulls c.args.c.now.rows (null_tests_of c.in-Numbers.numbers.now c.in_ok-nulls-in-Numbers.nulls c.args.c.now.rows c.in-Numbers.ensures.rows c.in_ok-nulls-in-Numbers.ensures)

pub returns-in_ok-nulls-in-Numbers-clause-rows : goal.returns-in_ok-nulls-in-Numbers-clause-rows
returns-in_ok-nulls-in-Numbers-clause-rows c =
    let made = null_tests_of c.in-Numbers.numbers.now c.in_ok-nulls-in-Numbers.nulls c.args.c.now.rows c.in-Numbers.ensures.rows c.in_ok-nulls-in-Numbers.ensures in
    if_ok_map _ _ c.from_truths-in-Numbers.result (λ (x : Column) (h : x ≡ column (bool_ty NonNullable) (vals_of c.in_ok-nulls-in-Numbers.nulls)). ap (λ (r : Column). r.rows) h ∙ made) c.from_truths-in-Numbers.ensures

pub from_truths-requires-in-Masked : goal.from_truths-requires-in-Masked
from_truths-requires-in-Masked c =
    let made = nulls_hidden c.in-Masked.nulls.now c.in_ok-is_null-in-Masked.field-0 c.in_ok-known-in-Masked.known c.in_ok-hidden-in-Masked.hidden c.args.c.now.rows c.in-Masked.ensures.rows c.in_ok-is_null-in-Masked.ensures c.in_ok-known-in-Masked.ensures c.in_ok-hidden-in-Masked.ensures in
    tests_known c.in_ok-hidden-in-Masked.hidden c.args.c.now.rows made

pub returns-in_ok-hidden-in-Masked-clause-rows : goal.returns-in_ok-hidden-in-Masked-clause-rows
returns-in_ok-hidden-in-Masked-clause-rows c =
    let made = nulls_hidden c.in-Masked.nulls.now c.in_ok-is_null-in-Masked.field-0 c.in_ok-known-in-Masked.known c.in_ok-hidden-in-Masked.hidden c.args.c.now.rows c.in-Masked.ensures.rows c.in_ok-is_null-in-Masked.ensures c.in_ok-known-in-Masked.ensures c.in_ok-hidden-in-Masked.ensures in
    if_ok_map _ _ c.from_truths-in-Masked.result (λ (x : Column) (h : x ≡ column (bool_ty NonNullable) (vals_of c.in_ok-hidden-in-Masked.hidden)). ap (λ (r : Column). r.rows) h ∙ made) c.from_truths-in-Masked.ensures
