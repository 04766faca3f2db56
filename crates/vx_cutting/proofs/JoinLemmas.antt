-- The values of a column of blocks, one block's behind another's.
use Rattle.std.proofs.Common.{◌≡◌, refl, ap, sym, ◌∙◌, ℕ, ◌<◌, ◌+◌, true, ◌-◌, ◌≤◌, List, [], ◌∷◌, ◌++◌, length, take, drop, get_or, arith}
use Rattle.std.specs.List.{flat_map}
use Rattle.std.proofs.lemmas.Bool.{and_parts, and_from}
use Rattle.std.proofs.lemmas.List.Concat.{flat_map-append}
use Rattle.std.proofs.lemmas.List.{append-nil, take_more, get_or-drop, length-drop}
use Rattle.vx_dtype.specs.Types.{Ty}
use Rattle.vx_dtype.specs.Values.{null_val}
use Rattle.vx_dtype.specs.Fits.{fits}
use Rattle.vx_dtype.specs.RawViews.{raw_view}
use Rattle.vx_dtype.specs.declared.values.ScalarValue.{ScalarValue}
use Rattle.vx_column.specs.Columns.{Column, AppendsRows, row_at, values_fit, seen, seen_rows}
use Rattle.vx_cutting.specs.Cutting.{column_there}

-- the values are those of the columns at a place of blocks, of a type
pub record AreJoined (place : ℕ) (t : Ty) (blocks : List (List Column)) (xs : List ScalarValue) : Type 0 where
  pub fit : values_fit t xs ≡ true
  pub rows : seen_rows t xs ≡ flat_map (λ cs. (column_there place cs).rows) blocks

fit_append : (t : Ty) (xs ys : List ScalarValue) → values_fit t xs ≡ true → values_fit t ys ≡ true → values_fit t (xs ++ ys) ≡ true
fit_append t [] ys h k = k
fit_append t (x ∷ xs) ys h k =
    let parts = and_parts (fits (raw_view x) t) (values_fit t xs) h in
    and_from (fits (raw_view x) t) (values_fit t (xs ++ ys)) parts.0 (fit_append t xs ys parts.1 k)

seen_append : (t : Ty) (xs ys : List ScalarValue) → seen_rows t (xs ++ ys) ≡ seen_rows t xs ++ seen_rows t ys
seen_append t [] ys = refl
seen_append t (x ∷ xs) ys = λ i. seen t x ∷ seen_append t xs ys i

pub joined_none : (place : ℕ) (t : Ty) (xs : List ScalarValue) → xs ≡ [] → AreJoined place t [] xs
joined_none place t xs e = record { fit = ap (values_fit t) e; rows = ap (seen_rows t) e }

-- with the values of one more block behind them
pub joined_more : (place : ℕ) (t : Ty) (before : List (List Column)) (cs : List Column) (old new : List ScalarValue) → (column_there place cs).ty ≡ t → AppendsRows (column_there place cs) old new
    → AreJoined place t before old → AreJoined place t (before ++ cs ∷ []) new
joined_more place t before cs old new e h so_far =
    let c = column_there place cs in
    let fit : values_fit t h.more ≡ true = ap (λ u. values_fit u h.more) (sym e) ∙ h.fit in
    let rows : seen_rows t h.more ≡ c.rows = ap (λ u. seen_rows u h.more) (sym e) ∙ h.rows in
    let all = flat_map-append (λ ds. (column_there place ds).rows) before (cs ∷ []) in
    record {
      fit = ap (values_fit t) h.behind ∙ fit_append t old h.more so_far.fit fit;
      rows = ap (seen_rows t) h.behind ∙ seen_append t old h.more ∙ (λ i. so_far.rows i ++ rows i) ∙ ap (λ vs. flat_map (λ ds. (column_there place ds).rows) before ++ vs) (sym (append-nil c.rows)) ∙ sym all;
    }

-- the values are those of a column's rows from one on, up to another one and without it
pub record ArePart (c : Column) (from to : ℕ) (xs : List ScalarValue) : Type 0 where
  pub fit : values_fit c.ty xs ≡ true
  pub rows : seen_rows c.ty xs ≡ take (to - from) (drop from c.rows)

pub part_none : (c : Column) (from : ℕ) (xs : List ScalarValue) → xs ≡ [] → ArePart c from from xs
part_none c from xs e =
    let none : from - from ≡ 0 = omega arith in
    record { fit = ap (values_fit c.ty) e; rows = ap (seen_rows c.ty) e ∙ ap (λ n. take n (drop from c.rows)) (sym none) }

pub part_more : (c : Column) (from row : ℕ) (old new : List ScalarValue) (x : ScalarValue) → from ≤ row → row < length c.rows → fits (raw_view x) c.ty ≡ true → seen c.ty x ≡ row_at c row → new ≡ old ++ x ∷ []
    → ArePart c from row old → ArePart c from (row + 1) new
part_more c from row old new x l h f s e so_far =
    let i = row - from in
    let on : row + 1 - from ≡ i + 1 = omega (arith, l) in
    let back : from + i ≡ row = omega (arith, l) in
    let long = length-drop from c.rows in
    let more = take_more (drop from c.rows) i null_val (omega (arith, l, h, long)) in
    let here : get_or (drop from c.rows) i null_val ≡ row_at c row = get_or-drop from c.rows i null_val ∙ ap (λ k. get_or c.rows k null_val) back in
    record {
      fit = ap (values_fit c.ty) e ∙ fit_append c.ty old (x ∷ []) so_far.fit (and_from (fits (raw_view x) c.ty) true f refl);
      rows = ap (seen_rows c.ty) e ∙ seen_append c.ty old (x ∷ []) ∙ (λ j. so_far.rows j ++ s j ∷ []) ∙ (λ j. take i (drop from c.rows) ++ sym here j ∷ []) ∙ sym more ∙ ap (λ n. take n (drop from c.rows)) (sym on);
    }
