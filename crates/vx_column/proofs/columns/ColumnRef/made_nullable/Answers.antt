use Rattle.std.proofs.Common.{◌≡◌, true, ap, sym, ◌∙◌, subst}
use Rattle.std.proofs.Math.ListN.{replicate}
use Rattle.vx_dtype.specs.declared.Nullability.TheVariants.{Nullable}
use Rattle.vx_dtype.specs.TypeRules.{with_nullability, no_name_twice}
use Rattle.vx_dtype.specs.TypeViews.{type_view}
use Rattle.vx_dtype.specs.Fits.{fits}
use Rattle.vx_dtype.specs.RawViews.{raw_view}
use Rattle.vx_column.specs.Columns.{column, seen}
use Rattle.vx_column.specs.Cells.{cell_rows, ArePartsOf, AreValuesOf}
use Rattle.vx_column.specs.ColumnParts.{AreTruthsOf}
use Rattle.vx_column.proofs.FitLemmas.{names_with_nullability, fits_nullable}
use Rattle.vx_column.proofs.CellLemmas.{nullable_constant}
use Rattle.vx_column.proofs.TruthLemmas.{truths_made_nullable}
use Rattle.vx_column.specs.ColumnParts.{AreNumbersOf}
use Rattle.vx_column.specs.PlainValues.{numbers_vals}
use Rattle.vx_numbers.specs.Numbers.{NumberList}
use Rattle.vx_column.proofs.NumberLemmas.{numbers_made_nullable}
use Rattle.vx_column.proofs.NullLemmas.{apart_of}
use Rattle.vx_column.proofs.columns.ColumnRef.made_nullable.Goals as goal

pub of_constant-requires-clause-fit : goal.of_constant-requires-clause-fit
of_constant-requires-clause-fit c =
    let fit : fits (raw_view c.in-Constant.value) c.args.self.now.ty ≡ true = subst (ArePartsOf c.args.self.now.ty) c.in-Constant.is c.cells.ensures.parts in
    let type : type_view c.in_ok-dtype.dtype ≡ with_nullability c.args.self.now.ty Nullable = c.in_ok-dtype.ensures ∙ ap (λ t. with_nullability t Nullable) c.dtype.ensures.shown in
    rw (type, c.in_ok-clone-in-Constant.ensures.cases) (fits_nullable _ _ fit)

pub returns-in_ok-clone-in-Constant : goal.returns-in_ok-clone-in-Constant
returns-in_ok-clone-in-Constant c =
    let rows : replicate c.in-Constant.len (seen c.args.self.now.ty c.in-Constant.value) ≡ c.args.self.now.rows = ap (cell_rows c.args.self.now.ty) (sym c.in-Constant.is) ∙ c.cells.ensures.rows in
    let type : type_view c.in_ok-dtype.dtype ≡ with_nullability c.args.self.now.ty Nullable = c.in_ok-dtype.ensures ∙ ap (λ t. with_nullability t Nullable) c.dtype.ensures.shown in
    c.of_constant.ensures ∙ nullable_constant c.args.self.now _ c.in-Constant.len c.in-Constant.value c.in_ok-clone-in-Constant.field-0 type c.in_ok-clone-in-Constant.ensures.cases rows

pub of_constant-requires-clause-names : goal.of_constant-requires-clause-names
of_constant-requires-clause-names c =
    let type : type_view c.in_ok-dtype.dtype ≡ with_nullability c.args.self.now.ty Nullable = c.in_ok-dtype.ensures ∙ ap (λ t. with_nullability t Nullable) c.dtype.ensures.shown in
    ap no_name_twice type ∙ names_with_nullability c.args.self.now.ty Nullable ∙ c.dtype.ensures.names

pub of_shared_truths-requires : goal.of_shared_truths-requires
of_shared_truths-requires c =
    let parts : AreTruthsOf c.args.self.now.ty c.in-Truths.truths.value = subst (ArePartsOf c.args.self.now.ty) c.in-Truths.is c.cells.ensures.parts in
    let type : type_view c.in_ok-dtype.dtype ≡ with_nullability c.args.self.now.ty Nullable = c.in_ok-dtype.ensures ∙ ap (λ t. with_nullability t Nullable) c.dtype.ensures.shown in
    rw type (truths_made_nullable c.args.self.now.ty _ parts.kind)

pub of_shared_numbers-requires : goal.of_shared_numbers-requires
of_shared_numbers-requires c =
    let parts : AreNumbersOf c.args.self.now.ty c.in-Numbers.numbers.value = subst (ArePartsOf c.args.self.now.ty) c.in-Numbers.is c.cells.ensures.parts in
    let type : type_view c.in_ok-dtype.dtype ≡ with_nullability c.args.self.now.ty Nullable = c.in_ok-dtype.ensures ∙ ap (λ t. with_nullability t Nullable) c.dtype.ensures.shown in
    subst (λ (ns : NumberList). AreNumbersOf (type_view c.in_ok-dtype.dtype) ns) (sym c.in_ok-clone-in-Numbers.ensures.cases)
    (subst (λ t. AreNumbersOf t c.in-Numbers.numbers.value) (sym type) (numbers_made_nullable c.args.self.now.ty c.in-Numbers.numbers.value parts))

pub returns-in_ok-clone-in-Numbers : goal.returns-in_ok-clone-in-Numbers
returns-in_ok-clone-in-Numbers c =
    let rows : numbers_vals c.in-Numbers.numbers.value ≡ c.args.self.now.rows = ap (cell_rows c.args.self.now.ty) (sym c.in-Numbers.is) ∙ c.cells.ensures.rows in
    let type : type_view c.in_ok-dtype.dtype ≡ with_nullability c.args.self.now.ty Nullable = c.in_ok-dtype.ensures ∙ ap (λ t. with_nullability t Nullable) c.dtype.ensures.shown in
    c.of_shared_numbers.ensures ∙ (λ j. column (type j) ((ap numbers_vals c.in_ok-clone-in-Numbers.ensures.cases ∙ rows) j))

pub masked_nowhere-requires : goal.masked_nowhere-requires
masked_nowhere-requires c =
    let parts : AreValuesOf c.args.self.now.ty c.in-Rows.field-0.value.items = subst (ArePartsOf c.args.self.now.ty) c.in-Rows.is c.cells.ensures.parts in
    apart_of c.args.self.now.ty parts.whole parts.no_truths parts.no_numbers
