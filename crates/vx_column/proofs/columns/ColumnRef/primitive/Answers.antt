use Rattle.std.proofs.Common.{◌≡◌, true, false, Ok, ap, sym, ◌∙◌, refl, map}
use Rattle.vx_dtype.specs.Types.{int_ty}
use Rattle.vx_dtype.specs.TypeRules.{no_name_twice}
use Rattle.vx_dtype.specs.Values.{raw_int}
use Rattle.vx_numbers.specs.Numbers.{all_in_range, number_list}
use Rattle.vx_column.specs.Columns.{column, raws_fit}
use Rattle.vx_column.specs.Answers.{optional_raw}
use Rattle.vx_column.specs.ColumnParts.{numbers_fit}
use Rattle.vx_column.specs.PlainValues.{numbers_vals}
use Rattle.vx_column.proofs.NumberLemmas.{int_names, int_raws_fit, int_raw_rows, numbers_are, numbers_in_range}
use Rattle.vx_column.proofs.columns.ColumnRef.primitive.Goals as goal

pub returns-then-not-all_in_range : goal.returns-then-not-all_in_range
returns-then-not-all_in_range c =
    let none : raws_fit (int_ty c.args.p c.args.n) (map (optional_raw raw_int) c.args.values.items) ≡ false = int_raws_fit c.args.p c.args.n c.args.values.items ∙ ap (numbers_fit c.args.p c.args.n) (sym c.as_slice.ensures.value) ∙ sym c.if-not-all_in_range.ensures in
    rw none refl

pub from_options-requires : goal.from_options-requires
from_options-requires c =
    let fit : numbers_fit c.args.p c.args.n c.args.values.items ≡ true = ap (numbers_fit c.args.p c.args.n) (sym c.as_slice.ensures.value) ∙ sym c.if-not-all_in_range.ensures in
    ap (all_in_range c.args.p) c.as_slice-2.ensures.value ∙ numbers_in_range c.args.p c.args.n c.args.values.items fit

pub of_numbers-requires : goal.of_numbers-requires
of_numbers-requires c =
    let fit : numbers_fit c.args.p c.args.n c.args.values.items ≡ true = ap (numbers_fit c.args.p c.args.n) (sym c.as_slice.ensures.value) ∙ sym c.if-not-all_in_range.ensures in
    numbers_are (int_ty c.args.p c.args.n) c.args.p c.args.n c.args.values.items c.in_ok-numbers.numbers refl (c.in_ok-numbers.ensures ∙ ap (number_list c.args.p) c.as_slice-2.ensures.value) fit

pub returns : goal.returns
returns c =
    let fit : raws_fit (int_ty c.args.p c.args.n) (map (optional_raw raw_int) c.args.values.items) ≡ true = int_raws_fit c.args.p c.args.n c.args.values.items ∙ ap (numbers_fit c.args.p c.args.n) (sym c.as_slice.ensures.value) ∙ sym c.if-not-all_in_range.ensures in
    let names : no_name_twice (int_ty c.args.p c.args.n) ≡ true = int_names (int_ty c.args.p c.args.n) refl in
    let rows = ap numbers_vals (c.in_ok-numbers.ensures ∙ ap (number_list c.args.p) c.as_slice-2.ensures.value) ∙ sym (int_raw_rows c.args.p c.args.n c.args.values.items) in
    rw (fit, names) (ap (λ d. Ok d) (c.in_ok-of_numbers.ensures ∙ ap (column (int_ty c.args.p c.args.n)) rows))
