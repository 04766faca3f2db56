-- What sums, differences and casts of columns make, and where they break.
use Rattle.std.proofs.Common.{◌≡◌, Bool, true, ◌&&◌, Result, Ok, Err, refl, ap, sym, ◌∙◌}
use Rattle.vx_dtype.specs.Types.{Ty}
use Rattle.vx_dtype.specs.TypeRules.{alike, is_int_ty, nullability_of, union, with_nullability}
use Rattle.vx_dtype.specs.Values.{Val}
use Rattle.vx_column.specs.Columns.{Column, column, rows_fit, zip_rows}
use Rattle.vx_column.specs.Answers.{no_faults, unless_faulty}
use Rattle.vx_column.specs.declared.errors.ColumnError.{ColumnError}
use Rattle.vx_column.specs.declared.errors.ColumnError.TheVariants as columns
use Rattle.vx_semantics.specs.Typing.{Refusal, unless, type_mismatch, sum_type, union_of}
use Rattle.vx_semantics.specs.Breaks.{by_sum}
use Rattle.vx_eval.specs.declared.errors.Failure.TheVariants.{Overflow}
use Rattle.vx_eval.specs.Steps.{IsBroken, MakesUnlessBroken}
use Rattle.vx_eval.proofs.FaultLemmas.{of_both, no_faults_fit, told_ok, told_err}

module _ (l r : Column) (f : Val → Val → Val) where
  -- the sum or the difference of two columns
  abbrev pub total : Column
  total = column (with_nullability l.ty (union (nullability_of l.ty) (nullability_of r.ty))) (zip_rows f l.rows r.rows)

  pub total_made : (lt rt : Ty) (b ok : Bool) (c : Column) → lt ≡ l.ty → rt ≡ r.ty → b ≡ (alike lt rt && is_int_ty lt) → b ≡ true
      → Ok c ≡ unless_faulty columns.Overflow total → MakesUnlessBroken by_sum ok (sum_type l.ty r.ty) (zip_rows f l.rows r.rows) (Ok c)
  total_made lt rt b ok c p q e h told =
      let k = told_ok (no_faults (zip_rows f l.rows r.rows)) columns.Overflow c total told in
      let fit : (alike l.ty r.ty && is_int_ty l.ty) ≡ true = (λ i. alike (sym p i) (sym q i) && is_int_ty (sym p i)) ∙ sym e ∙ h in (
        ap (λ x. unless x type_mismatch (Ok (with_nullability l.ty (union_of l.ty r.ty)))) fit ∙ ap (λ (d : Column). Ok d.ty) (sym k.1),
        ap (λ (d : Column). d.rows) k.1,
        k.0,
      )

  pub total_broken : (told : Result Ty Refusal) → rows_fit l.ty l.rows ≡ true → rows_fit r.ty r.rows ≡ true → Err columns.Overflow ≡ unless_faulty columns.Overflow total
      → MakesUnlessBroken by_sum (no_faults l.rows && no_faults r.rows) told (zip_rows f l.rows r.rows) (Err Overflow)
  total_broken told p q e = (
    refl,
    (
      of_both (no_faults l.rows) (no_faults r.rows) (no_faults_fit l.ty l.rows p) (no_faults_fit r.ty r.rows q),
      (told_err (no_faults (zip_rows f l.rows r.rows)) columns.Overflow columns.Overflow total e).0,
    ),
  )

-- a row that is a fault, where the operand has none
pub row_broken : (c made : Column) (e f : ColumnError) → rows_fit c.ty c.rows ≡ true → Err f ≡ unless_faulty e made → IsBroken (no_faults c.rows) made.rows
row_broken c made e f p told = (no_faults_fit c.ty c.rows p, (told_err (no_faults made.rows) e f made told).0)
