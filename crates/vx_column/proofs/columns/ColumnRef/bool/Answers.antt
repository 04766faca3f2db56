use Rattle.std.proofs.Common.{◌≡◌, true, false, Ok, ap, sym, ◌∙◌, refl, map}
use Rattle.vx_dtype.specs.Types.{bool_ty}
use Rattle.vx_dtype.specs.TypeRules.{no_name_twice}
use Rattle.vx_dtype.specs.Values.{raw_bool}
use Rattle.vx_words.specs.Truths.{vals_of}
use Rattle.vx_column.specs.Columns.{column, raws_fit}
use Rattle.vx_column.specs.Answers.{optional_raw}
use Rattle.vx_column.specs.ColumnParts.{truths_fit}
use Rattle.vx_column.proofs.TruthLemmas.{bool_names, bool_raws_fit, bool_raw_rows}
use Rattle.vx_column.proofs.columns.ColumnRef.bool.Goals as goal

pub returns-then-not-all_fit : goal.returns-then-not-all_fit
returns-then-not-all_fit c =
    let none : raws_fit (bool_ty c.args.n) (map (optional_raw raw_bool) c.args.values.items) ≡ false = bool_raws_fit c.args.n c.args.values.items ∙ ap (truths_fit c.args.n) (sym c.as_slice.ensures.value) ∙ sym c.if-not-all_fit.ensures in
    rw none refl

pub returns : goal.returns
returns c =
    let fit : raws_fit (bool_ty c.args.n) (map (optional_raw raw_bool) c.args.values.items) ≡ true = bool_raws_fit c.args.n c.args.values.items ∙ ap (truths_fit c.args.n) (sym c.as_slice.ensures.value) ∙ sym c.if-not-all_fit.ensures in
    let names : no_name_twice (bool_ty c.args.n) ≡ true = bool_names (bool_ty c.args.n) refl in
    let rows = ap vals_of (c.in_ok-truths.ensures ∙ c.as_slice-2.ensures.value) ∙ sym (bool_raw_rows c.args.n c.args.values.items) in
    rw (fit, names) (ap (λ d. Ok d) (c.in_ok-of_truths.ensures ∙ ap (column (bool_ty c.args.n)) rows))
