-- Steps of loops that go through columns row by row, and constants.
use Rattle.std.proofs.Common.{◌≡◌, refl, ap, ◌∙◌, sym, true, List, [], ◌∷◌, ◌++◌, map, length, take, ℕ, zero, suc, ◌+◌, ◌<◌, get_or, arith, add-one}
use Rattle.std.proofs.Math.ListN.{replicate}
use Rattle.vx_dtype.specs.Types.{Ty}
use Rattle.vx_dtype.specs.Values.{Val, null_val}
use Rattle.vx_dtype.specs.Fits.{fits}
use Rattle.vx_dtype.specs.RawViews.{raw_view}
use Rattle.vx_dtype.specs.declared.values.ScalarValue.{ScalarValue}
use Rattle.vx_column.specs.Columns.{Column, rows_fit, values_fit, seen, seen_rows, zip_rows}
use Rattle.vx_column.proofs.FitLemmas.{both_of, of_both, rows_fit_seen}

-- values and one more stand for their rows and one more
pub seen_rows_append : (t : Ty) (xs : List ScalarValue) (x : ScalarValue) → seen_rows t (xs ++ x ∷ []) ≡ seen_rows t xs ++ seen t x ∷ []
seen_rows_append t [] x = refl
seen_rows_append t (y ∷ ys) x = ap (λ zs. seen t y ∷ zs) (seen_rows_append t ys x)

-- rows of one value
pub map_repeated : (rule : Val → Val) (n : ℕ) (v : Val) → map rule (replicate n v) ≡ replicate n (rule v)
map_repeated rule zero v = refl
map_repeated rule (suc n) v = ap (λ zs. rule v ∷ zs) (map_repeated rule n v)

-- a value at a row is one of the type
pub fits_at : (t : Ty) (xs : List ScalarValue) (i : ℕ) (x : ScalarValue) → values_fit t xs ≡ true → i < length xs → x ≡ get_or xs i x → fits (raw_view x) t ≡ true
fits_at t [] i x e h p = absurd (omega arith)
fits_at t (y ∷ xs) zero x e h p = ap (λ z. fits (raw_view z) t) p ∙ (both_of _ _ e).0
fits_at t (y ∷ xs) (suc i) x e h p = fits_at t xs i x (both_of _ _ e).1 (omega arith) p

-- values and one more
pub values_fit_more : (t : Ty) (xs : List ScalarValue) (x : ScalarValue) → values_fit t xs ≡ true → fits (raw_view x) t ≡ true → values_fit t (xs ++ x ∷ []) ≡ true
values_fit_more t [] x e h = of_both _ _ h refl
values_fit_more t (y ∷ ys) x e h = of_both _ _ (both_of _ _ e).0 (values_fit_more t ys x (both_of _ _ e).1 h)

-- one more row of one column, and what a loop has made of it
pub map_rows_suc : (rule : Val → Val) (t : Ty) (xs : List ScalarValue) (i : ℕ) (x : ScalarValue) → i < length xs → x ≡ get_or xs i x → map rule (seen_rows t (take (suc i) xs)) ≡ map rule (seen_rows t (take i xs)) ++ rule (seen t x) ∷ []
map_rows_suc rule t [] i x h p = absurd (omega arith)
map_rows_suc rule t (a ∷ xs) zero x h p = λ j. rule (seen t (sym p j)) ∷ []
map_rows_suc rule t (a ∷ xs) (suc i) x h p = ap (λ zs. rule (seen t a) ∷ zs) (map_rows_suc rule t xs i x (omega arith) p)

pub map_rows_step : (rule : Val → Val) (t w : Ty) (xs ms ns : List ScalarValue) (i : ℕ) (x m : ScalarValue) → i < length xs → x ≡ get_or xs i x → ns ≡ ms ++ m ∷ [] → seen w m ≡ rule (seen t x) → seen_rows w ms ≡ map rule (seen_rows t (take i xs)) → seen_rows w ns ≡ map rule (seen_rows t (take (i + 1) xs))
map_rows_step rule t w xs ms ns i x m h p e v before =
    let more = map_rows_suc rule t xs i x h p in
    rw (e, seen_rows_append w ms m, before, v, add-one) (sym more)

-- as many rows are made as each column has
pub length_zip_rows : (f : Val → Val → Val) (xs ys : List Val) → length xs ≡ length ys → length (zip_rows f xs ys) ≡ length xs
length_zip_rows f [] ys e = refl
length_zip_rows f (x ∷ xs) [] e = absurd (omega (arith, e))
length_zip_rows f (x ∷ xs) (y ∷ ys) e = ap (λ n. suc n) (length_zip_rows f xs ys (omega (arith, e)))

-- the row of a value
pub seen_row : (t : Ty) (xs : List ScalarValue) (i : ℕ) (d : ScalarValue) → i < length xs → seen t (get_or xs i d) ≡ get_or (seen_rows t xs) i null_val
seen_row t [] i d h = absurd (omega arith)
seen_row t (x ∷ xs) zero d h = refl
seen_row t (x ∷ xs) (suc i) d h = seen_row t xs i d (omega arith)

pub map_constant : (rule : Val → Val) (t w made : Ty) (c : Column) (n : ℕ) (x m : ScalarValue) → c.ty ≡ t → w ≡ made → replicate n (seen c.ty x) ≡ c.rows → seen made m ≡ rule (seen t x) → replicate n (seen w m) ≡ map rule c.rows
map_constant rule t w made c n x m a b p v =
    let value : seen w m ≡ rule (seen c.ty x) = ap (λ s. seen s m) b ∙ v ∙ ap (λ s. rule (seen s x)) (sym a) in
    ap (replicate n) value ∙ sym (map_repeated rule n (seen c.ty x)) ∙ ap (map rule) p

pub rows_fit_repeated : (t : Ty) (n : ℕ) (x : ScalarValue) → fits (raw_view x) t ≡ true → rows_fit t (replicate n (seen t x)) ≡ true
rows_fit_repeated t zero x e = refl
rows_fit_repeated t (suc n) x e = of_both _ _ (both_of _ _ (rows_fit_seen t (x ∷ []) (of_both _ _ e refl))).0 (rows_fit_repeated t n x e)
