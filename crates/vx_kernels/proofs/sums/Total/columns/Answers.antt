use Rattle.std.proofs.Common.{◌≡◌, false, ap, sym, ◌∙◌, length, None, Some, Option, refl}
use Rattle.std.specs.Prelude.{option_map}
use Rattle.vx_dtype.specs.Types.{int_ty}
use Rattle.vx_dtype.specs.TypeRules.{nullability_of, union}
use Rattle.vx_numbers.specs.Numbers.{NumberList, number_list, if_in_range}
use Rattle.vx_column.specs.Answers.{no_faults}
use Rattle.vx_column.specs.Columns.{zip_rows}
use Rattle.vx_column.specs.ColumnParts.{numbers_fit}
use Rattle.vx_kernels.specs.Totals.{total3, totals}
use Rattle.vx_column.specs.declared.errors.ColumnError.TheVariants.{Overflow}
use Rattle.vx_kernels.proofs.ComparedNumbers.{one_ptype}
use Rattle.vx_column.proofs.NumberLemmas.{length_of_rows}
use Rattle.vx_kernels.proofs.SumLemmas.{int_other}
use Rattle.vx_kernels.proofs.TotalLemmas.{overflows, totals_are_numbers, totals_answer}
use Rattle.vx_kernels.proofs.sums.Total.columns.Goals as goal

pub numbers-requires-2 : goal.numbers-requires-2
numbers-requires-2 c = int_other _ _ c.requires.integers c.requires.same

pub of_lists-requires-clause-types : goal.of_lists-requires-clause-types
of_lists-requires-clause-types c =
    let one = one_ptype c.args.l.now.ty c.args.r.now.ty _ _ _ _ c.in_ok-left.ensures.fit.kind c.in_ok-right.ensures.fit.kind c.requires.same in
    ap (λ (ns : NumberList). ns.ptype) c.numbers_in-2.ensures ∙ one ∙ ap (λ (ns : NumberList). ns.ptype) (sym c.numbers_in.ensures)

pub of_lists-requires-clause-lengths : goal.of_lists-requires-clause-lengths
of_lists-requires-clause-lengths c =
    let left = length_of_rows c.in_ok-left.left.value c.args.l.now.rows c.in_ok-left.ensures.rows in
    let right = length_of_rows c.in_ok-right.right.value c.args.r.now.rows c.in_ok-right.ensures.rows in
    ap (λ (ns : NumberList). length ns.numbers) c.numbers_in-2.ensures ∙ right ∙ sym c.requires.lengths ∙ sym left ∙ ap (λ (ns : NumberList). length ns.numbers) (sym c.numbers_in.ensures)

pub returns-in_default : goal.returns-in_default
returns-in_default c =
    let ls = c.in_ok-left.left.value in
    let rs = c.in_ok-right.right.value in
    let one = one_ptype c.args.l.now.ty c.args.r.now.ty _ _ _ _ c.in_ok-left.ensures.fit.kind c.in_ok-right.ensures.fit.kind c.requires.same in
    let none : ◌≡◌ {A = Option NumberList} None (option_map (number_list c.in_ok-left.left.value.ptype) (if_in_range c.in_ok-left.left.value.ptype (totals c.args.self c.in_ok-left.left.value.numbers c.in_ok-right.right.value.numbers))) =
    sym c.in_default.is ∙ c.in_ok-made.ensures ∙ (λ j. option_map (number_list (c.numbers_in.ensures j).ptype) (if_in_range (c.numbers_in.ensures j).ptype (totals c.args.self (c.numbers_in.ensures j).numbers (c.numbers_in-2.ensures j).numbers))) in
    let faulty : no_faults (zip_rows (total3 c.args.self) c.args.l.now.rows c.args.r.now.rows) ≡ false = overflows c.args.self c.args.l.now.ty c.args.r.now.ty ls rs c.args.l.now.rows c.args.r.now.rows c.in_ok-left.ensures.fit c.in_ok-right.ensures.fit one c.in_ok-left.ensures.rows c.in_ok-right.ensures.rows none in
    rw faulty refl

pub from_numbers-requires : goal.from_numbers-requires
from_numbers-requires c =
    let ls = c.in_ok-left.left.value in
    let rs = c.in_ok-right.right.value in
    let n = union (nullability_of c.args.l.now.ty) (nullability_of c.args.r.now.ty) in
    let one = one_ptype c.args.l.now.ty c.args.r.now.ty _ _ _ _ c.in_ok-left.ensures.fit.kind c.in_ok-right.ensures.fit.kind c.requires.same in
    let some : Some c.in-Some.made ≡ option_map (number_list c.in_ok-left.left.value.ptype) (if_in_range c.in_ok-left.left.value.ptype (totals c.args.self c.in_ok-left.left.value.numbers c.in_ok-right.right.value.numbers)) =
    sym c.in-Some.is ∙ c.in_ok-made.ensures ∙ (λ j. option_map (number_list (c.numbers_in.ensures j).ptype) (if_in_range (c.numbers_in.ensures j).ptype (totals c.args.self (c.numbers_in.ensures j).numbers (c.numbers_in-2.ensures j).numbers))) in
    let made = totals_are_numbers c.args.self c.args.l.now.ty c.args.r.now.ty ls rs c.args.l.now.rows c.args.r.now.rows c.in_ok-left.ensures.fit c.in_ok-right.ensures.fit one c.in_ok-left.ensures.rows c.in_ok-right.ensures.rows c.in-Some.made some (int_ty c.in-Some.made.ptype n) refl in
    ap (λ m. numbers_fit c.in-Some.made.ptype m c.in-Some.made.numbers) c.union_of.ensures ∙ made.fit

pub returns : goal.returns
returns c =
    let ls = c.in_ok-left.left.value in
    let rs = c.in_ok-right.right.value in
    let one = one_ptype c.args.l.now.ty c.args.r.now.ty _ _ _ _ c.in_ok-left.ensures.fit.kind c.in_ok-right.ensures.fit.kind c.requires.same in
    let some : Some c.in-Some.made ≡ option_map (number_list c.in_ok-left.left.value.ptype) (if_in_range c.in_ok-left.left.value.ptype (totals c.args.self c.in_ok-left.left.value.numbers c.in_ok-right.right.value.numbers)) =
    sym c.in-Some.is ∙ c.in_ok-made.ensures ∙ (λ j. option_map (number_list (c.numbers_in.ensures j).ptype) (if_in_range (c.numbers_in.ensures j).ptype (totals c.args.self (c.numbers_in.ensures j).numbers (c.numbers_in-2.ensures j).numbers))) in
    let type = ap (int_ty c.in-Some.made.ptype) c.union_of.ensures in
    totals_answer c.args.self c.args.l.now.ty c.args.r.now.ty ls rs c.args.l.now.rows c.args.r.now.rows c.in_ok-left.ensures.fit c.in_ok-right.ensures.fit one c.in_ok-left.ensures.rows c.in_ok-right.ensures.rows c.in-Some.made some Overflow _ c.in_ok-from_numbers.field-0 type c.in_ok-from_numbers.ensures
