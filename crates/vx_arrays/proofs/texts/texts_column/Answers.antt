use Rattle.std.proofs.Common.{◌≡◌, true, ◌∙◌, sym, subst, map}
use Rattle.std.specs.Prelude.{Result}
use Rattle.vx_dtype.specs.RawViews.{raw_view}
use Rattle.vx_column.specs.Columns.{Column}
use Rattle.vx_arrays.specs.declared.errors.ArrayError.{ArrayError}
use Rattle.vx_arrays.specs.Arrays.{has_validity, has_places}
use Rattle.vx_arrays.specs.Readings.{AnswersOne}
use Rattle.vx_arrays.proofs.TextLemmas.{column-texts}
use Rattle.vx_arrays.proofs.texts.texts_column.Goals as goal

pub returns : goal.returns
returns c =
    let v : has_validity c.args.validity.now c.args.rows ≡ true = sym c.has_validity.ensures ∙ c.if-not-has_validity.false in
    let o : has_places c.args.offsets.now c.args.bytes.now c.args.rows ≡ true = sym c.has_places.ensures ∙ c.if-not-has_places.false in
    let xs = map raw_view c.in_ok-texts.texts.items in
    let told = column-texts c.args.n c.args.rows c.args.validity.now c.args.offsets.now c.args.bytes.now xs v o c.in_ok-texts.ensures in
    subst (λ (r : Result Column ArrayError). AnswersOne r c.column_of_texts.result) (sym told) c.column_of_texts.ensures
