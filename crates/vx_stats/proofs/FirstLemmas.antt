-- The first value by an order of the rows from a place on, the values that stand for it, and how many rows are null.
use Rattle.std.proofs.Common.{◌≡◌, refl, ap, sym, ◌∙◌, ℕ, suc, ◌+◌, ◌<◌, Bool, true, false, cond, Option, Some, None, List, [], ◌∷◌, length, drop, get_or, map}
use Rattle.std.specs.Ordering.{int_cmp}
use Rattle.std.specs.Prelude.{ℤ, count_by, is_none}
use Rattle.std.specs.List.{list_all, filter}
use Rattle.std.proofs.lemmas.List.{drop_more}
use Rattle.std.proofs.lemmas.Bool.{and_parts, and_from}
use Rattle.std.proofs.lemmas.List.Sums.{length-filter}
use Rattle.vx_dtype.specs.declared.CompareOperator.{CompareOperator}
use Rattle.vx_dtype.specs.declared.CompareOperator.TheVariants.{Gte, Lte}
use Rattle.vx_dtype.specs.declared.values.ScalarValue.{ScalarValue}
use Rattle.vx_dtype.specs.RawViews.{raw_view}
use Rattle.vx_dtype.specs.declared.Nullability.TheVariants.{Nullable}
use Rattle.vx_dtype.specs.declared.PType.{PType}
use Rattle.vx_dtype.specs.Types.{Ty}
use Rattle.vx_dtype.specs.TypeRules.{is_plain, with_nullability}
use Rattle.vx_dtype.specs.Values.{Raw, Val, null_val, bool_val, int_val}
use Rattle.vx_dtype.specs.Fits.{fits, val_fits}
use Rattle.vx_dtype.specs.Logic.{is_null_val, is_null3, is_true_val}
use Rattle.vx_dtype.specs.Order.{meets}
use Rattle.vx_column.specs.Columns.{Column, rows_fit}
use Rattle.vx_column.specs.PlainValues.{number_val, numbers_vals}
use Rattle.vx_numbers.specs.Bounds.{first_among, first_number}
use Rattle.vx_numbers.specs.Numbers.{NumberList}
use Rattle.vx_laws_stats.specs.BuiltStatistics.{first_by, first_of, least_of, greatest_of, null_count, raw_of}
use Rattle.vx_laws_stats.specs.BuiltLaws.{AreOfType}
use Rattle.vx_laws_stats.proofs.Extremes.{is_of, IsOrder, lte_is_order, gte_is_order, or_second, first-of}
use Rattle.vx_laws_stats.proofs.BuiltZones.{fits-again}
use Rattle.vx_stats.specs.ColumnFacts.{AreBounds}

-- the rows from a place on are the one there and those behind it
pub first-here : (op : CompareOperator) (vs : List Val) (i : ℕ) → i < length vs → first_of op (drop i vs) ≡ first_by op (get_or vs i null_val) (first_of op (drop (i + 1) vs))
first-here op vs i h = ap (first_of op) (drop_more vs i null_val h)

-- rows of a type are null or of it
pub rows-of : (t : Ty) (vs : List Val) → rows_fit t vs ≡ true → AreOfType t vs
rows-of t [] h = refl
rows-of t (v ∷ vs) h =
    let parts = and_parts (val_fits v t) (rows_fit t vs) h in
    and_from (is_of t v) (list_all (is_of t) vs) (or_second (is_null_val v) (val_fits v t) parts.0) (rows-of t vs parts.1)

-- the first of rows of a plain type is one of the type, made nullable
pub first-fits : (op : CompareOperator) (t : Ty) (vs : List Val) → IsOrder op → is_plain t ≡ true → rows_fit t vs ≡ true → fits (raw_of (first_of op vs)) (with_nullability t Nullable) ≡ true
first-fits op t vs total p h = fits-again t (first_of op vs) p (first-of op t total p vs (rows-of t vs h)).own

-- the values of the first and the last of rows by both orders are their bounds
pub are-bounds : (c : Column) (x y : ScalarValue) (v w : Val) → is_plain c.ty ≡ true → rows_fit c.ty c.rows ≡ true → raw_view x ≡ raw_of v → v ≡ least_of c.rows → raw_view y ≡ raw_of w → w ≡ greatest_of c.rows → AreBounds c (x, y)
are-bounds c x y v w p h a b d e =
    let least = a ∙ ap raw_of b in
    let greatest = d ∙ ap raw_of e in
    record {
      least = least;
      greatest = greatest;
      least_fits = ap (λ (r : Raw). fits r (with_nullability c.ty Nullable)) least ∙ first-fits Lte c.ty c.rows lte_is_order p h;
      greatest_fits = ap (λ (r : Raw). fits r (with_nullability c.ty Nullable)) greatest ∙ first-fits Gte c.ty c.rows gte_is_order p h;
    }

-- ---- rows that numbers stand for
chosen : (p : PType) (b : Bool) (x y : ℤ) → cond (is_true_val (bool_val b)) (int_val p x) (int_val p y) ≡ number_val p (cond b (Some x) (Some y))
chosen p true x y = refl
chosen p false x y = refl

first-of-two : (op : CompareOperator) (p : PType) (a b : Option ℤ) → first_by op (number_val p a) (number_val p b) ≡ number_val p (first_number op a b)
first-of-two op p None b = refl
first-of-two op p (Some x) None = refl
first-of-two op p (Some x) (Some y) = chosen p (meets op (int_cmp x y)) x y

first-of-numbers : (op : CompareOperator) (p : PType) (ns : List (Option ℤ)) → first_of op (map (number_val p) ns) ≡ number_val p (first_among op ns)
first-of-numbers op p [] = refl
first-of-numbers op p (n ∷ ns) = ap (first_by op (number_val p n)) (first-of-numbers op p ns) ∙ first-of-two op p n (first_among op ns)

-- the first of the numbers of rows stands for the first of the rows
pub first-number : (op : CompareOperator) (ns : NumberList) (vs : List Val) (n : Option ℤ) → numbers_vals ns ≡ vs → n ≡ first_among op ns.numbers → number_val ns.ptype n ≡ first_of op vs
first-number op ns vs n rows first = ap (number_val ns.ptype) first ∙ sym (first-of-numbers op ns.ptype ns.numbers) ∙ ap (first_of op) rows

nulls-of-numbers : (p : PType) (ns : List (Option ℤ)) → null_count (map (number_val p) ns) ≡ length (filter is_none ns)
nulls-of-numbers p [] = refl
nulls-of-numbers p (None ∷ ns) = ap suc (nulls-of-numbers p ns)
nulls-of-numbers p (Some x ∷ ns) = nulls-of-numbers p ns

-- as many rows are null as places have no number
pub nulls-numbered : (ns : NumberList) (vs : List Val) → numbers_vals ns ≡ vs → length (filter is_none ns.numbers) ≡ null_count vs
nulls-numbered ns vs rows = sym (nulls-of-numbers ns.ptype ns.numbers) ∙ ap null_count rows

-- ---- rows by a test of nulls
null-true : (v : Val) → is_true_val (is_null3 v) ≡ is_null_val v
null-true null_val = refl
null-true _ = refl

-- as many tests of nulls are true as rows are null
filtered-nulls : (vs : List Val) → length (filter is_true_val (map is_null3 vs)) ≡ null_count vs
filtered-nulls [] = refl
filtered-nulls (v ∷ vs) = ap (λ (b : Bool). length (cond b (is_null3 v ∷ filter is_true_val (map is_null3 vs)) (filter is_true_val (map is_null3 vs)))) (null-true v) ∙ by-test (is_null_val v) (filtered-nulls vs)
  where
    by-test : (b : Bool) → length (filter is_true_val (map is_null3 vs)) ≡ null_count vs
        → length (cond b (is_null3 v ∷ filter is_true_val (map is_null3 vs)) (filter is_true_val (map is_null3 vs))) ≡ length (cond b (v ∷ filter is_null_val vs) (filter is_null_val vs))
    by-test true h = ap suc h
    by-test false h = h

pub counted-nulls : (vs : List Val) → count_by is_true_val (map is_null3 vs) ≡ null_count vs
counted-nulls vs = sym (length-filter is_true_val (map is_null3 vs)) ∙ filtered-nulls vs
