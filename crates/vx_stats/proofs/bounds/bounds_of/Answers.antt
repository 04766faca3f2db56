use Rattle.std.proofs.Common.{ap, ◌∙◌, option_copied}
use Rattle.vx_dtype.specs.declared.CompareOperator.TheVariants.{Gte, Lte}
use Rattle.vx_column.specs.PlainValues.{number_val, text_or_null}
use Rattle.vx_words.specs.Words.{truth_val}
use Rattle.vx_numbers.specs.Bounds.{least_number, greatest_number}
use Rattle.vx_numbers.specs.Numbers.{NumberList}
use Rattle.vx_stats.proofs.FirstLemmas.{are-bounds, first-number}
use Rattle.vx_stats.proofs.bounds.bounds_of.Goals as goal

pub returns-in-Bool : goal.returns-in-Bool
returns-in-Bool c =
    let found = c.truth_bounds-least in
    are-bounds c.args.column.now c.of_truth.result c.of_truth-in-Bool.result (truth_val found.result.0) (truth_val found.result.1) c.requires c.dtype.ensures.fit
    c.of_truth.ensures found.ensures.least c.of_truth-in-Bool.ensures found.ensures.greatest

pub returns-in_ok-numbers-in-Primitive : goal.returns-in_ok-numbers-in-Primitive
returns-in_ok-numbers-in-Primitive c =
    let found = c.bounds-least in
    let ns = c.in_ok-numbers-in-Primitive.numbers.value in
    let p = ns.ptype in
    let vs = c.args.column.now.rows in
    let rows = c.in_ok-numbers-in-Primitive.ensures.rows in
    let read = c.deref.ensures in
    are-bounds c.args.column.now c.of_number.result c.of_number-in-Primitive.result (number_val p found.result.0) (number_val p found.result.1) c.requires c.dtype.ensures.fit
    (c.of_number.ensures p) (first-number Lte ns vs found.result.0 rows (found.ensures.least ∙ ap (λ (l : NumberList). least_number l.numbers) read))
    (c.of_number-in-Primitive.ensures p) (first-number Gte ns vs found.result.1 rows (found.ensures.greatest ∙ ap (λ (l : NumberList). greatest_number l.numbers) read))

pub returns-in_ok-of_text-in-Utf8-2 : goal.returns-in_ok-of_text-in-Utf8-2
returns-in_ok-of_text-in-Utf8-2 c =
    let found = c.text_bounds in
    are-bounds c.args.column.now c.in_ok-of_text-in-Utf8.field-0 c.in_ok-of_text-in-Utf8-2.field-0 (text_or_null (option_copied found.result.0)) (text_or_null (option_copied found.result.1)) c.requires c.dtype.ensures.fit
    c.in_ok-of_text-in-Utf8.ensures found.ensures.least c.in_ok-of_text-in-Utf8-2.ensures found.ensures.greatest
