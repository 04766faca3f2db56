-- Values of a column put behind rows of a type that the column's narrows.
use Rattle.std.proofs.Common.{◌≡◌, refl, ap, ◌∙◌, sym, true, List, [], ◌∷◌, ◌++◌, Result, Ok, Err, IfOk}
use Rattle.std.proofs.lemmas.Bool.{and_parts, and_from}
use Rattle.vx_dtype.specs.declared.values.ScalarValue.{ScalarValue}
use Rattle.vx_dtype.specs.Fits.{fits}
use Rattle.vx_dtype.specs.RawViews.{raw_view}
use Rattle.vx_dtype.specs.Types.{Ty}
use Rattle.vx_column.specs.Columns.{Column, AppendsRows, values_fit, seen, seen_rows}
use Rattle.vx_laws_simplifying.specs.Narrowing.{narrows}
use Rattle.vx_scan.proofs.NarrowLemmas.{narrow_fits, narrow_valued}

-- values are also values of the wider type, and stand for the same there
fit_wider : (t u : Ty) (xs : List ScalarValue) → narrows t u ≡ true → values_fit t xs ≡ true → values_fit u xs ≡ true
fit_wider t u [] n h = refl
fit_wider t u (x ∷ xs) n h =
    let parts = and_parts (fits (raw_view x) t) (values_fit t xs) h in
    and_from (fits (raw_view x) u) (values_fit u xs) (narrow_fits (raw_view x) t u n parts.0) (fit_wider t u xs n parts.1)

seen_wider : (t u : Ty) (xs : List ScalarValue) → narrows t u ≡ true → seen_rows u xs ≡ seen_rows t xs
seen_wider t u [] n = refl
seen_wider t u (x ∷ xs) n = λ i. sym (narrow_valued (raw_view x) t u n) i ∷ seen_wider t u xs n i

-- values behind values
fit_append : (u : Ty) (xs ys : List ScalarValue) → values_fit u xs ≡ true → values_fit u ys ≡ true → values_fit u (xs ++ ys) ≡ true
fit_append u [] ys h k = k
fit_append u (x ∷ xs) ys h k =
    let parts = and_parts (fits (raw_view x) u) (values_fit u xs) h in
    and_from (fits (raw_view x) u) (values_fit u (xs ++ ys)) parts.0 (fit_append u xs ys parts.1 k)

seen_append : (u : Ty) (xs ys : List ScalarValue) → seen_rows u (xs ++ ys) ≡ seen_rows u xs ++ seen_rows u ys
seen_append u [] ys = refl
seen_append u (x ∷ xs) ys = λ i. seen u x ∷ seen_append u xs ys i

-- a column's values behind others
pub pushed_fit : (c : Column) (old new : List ScalarValue) (u : Ty) → narrows c.ty u ≡ true → values_fit u old ≡ true → AppendsRows c old new → values_fit u new ≡ true
pushed_fit c old new u n k h = ap (values_fit u) h.behind ∙ fit_append u old h.more k (fit_wider c.ty u h.more n h.fit)

pub pushed_rows : (c : Column) (old new : List ScalarValue) (u : Ty) → narrows c.ty u ≡ true → AppendsRows c old new → seen_rows u new ≡ seen_rows u old ++ c.rows
pushed_rows c old new u n h =
    ap (seen_rows u) h.behind ∙ seen_append u old h.more ∙ ap (λ rows. seen_rows u old ++ rows) (seen_wider c.ty u h.more n ∙ h.rows)

-- what follows where a call answers
pub where_ok : {A E : Type 0} {P Q : Type 0} (r : Result A E) → (P → Q) → IfOk r (λ _. P) → IfOk r (λ _. Q)
where_ok (Ok a) f h = f h
where_ok (Err e) f h = h
