-- Steps of loops that go through two columns row by row, and two constants.
use Rattle.std.proofs.Common.{◌≡◌, refl, ap, ◌∙◌, sym, List, [], ◌∷◌, ◌++◌, map, length, take, ℕ, zero, suc, ◌+◌, ◌<◌, get_or, arith}
use Rattle.std.proofs.Math.ListN.{replicate}
use Rattle.std.proofs.lemmas.List.{map_more}
use Rattle.vx_dtype.specs.Types.{Ty}
use Rattle.vx_dtype.specs.Values.{Val, null_val}
use Rattle.vx_dtype.specs.declared.values.ScalarValue.{ScalarValue}
use Rattle.vx_column.specs.Columns.{Column, row_at, seen, seen_rows, zip_rows, zip_rows3}
use Rattle.vx_column.proofs.RowLemmas.{seen_rows_append}

-- one more row of two columns
pub zip_rows_suc : (rule : Val → Val → Val) (xs ys : List Val) (i : ℕ) (d : Val) → i < length xs → i < length ys → zip_rows rule (take (suc i) xs) (take (suc i) ys) ≡ zip_rows rule (take i xs) (take i ys) ++ rule (get_or xs i d) (get_or ys i d) ∷ []
zip_rows_suc rule [] ys i d h k = absurd (omega arith)
zip_rows_suc rule (x ∷ xs) [] i d h k = absurd (omega arith)
zip_rows_suc rule (x ∷ xs) (y ∷ ys) zero d h k = refl
zip_rows_suc rule (x ∷ xs) (y ∷ ys) (suc i) d h k = ap (λ zs. rule x y ∷ zs) (zip_rows_suc rule xs ys i d (omega arith) (omega arith))

-- rows of one value on both sides
pub zip_rows_repeated : (rule : Val → Val → Val) (n : ℕ) (v w : Val) → zip_rows rule (replicate n v) (replicate n w) ≡ replicate n (rule v w)
zip_rows_repeated rule zero v w = refl
zip_rows_repeated rule (suc n) v w = ap (λ zs. rule v w ∷ zs) (zip_rows_repeated rule n v w)

-- what a rule makes of one row more of a column
pub map_taken_step : (rule : Val → Val) (w : Ty) (c : Column) (ms ns : List ScalarValue) (i : ℕ) (m : ScalarValue) → i < length c.rows → ns ≡ ms ++ m ∷ [] → seen w m ≡ rule (row_at c i) → seen_rows w ms ≡ map rule (take i c.rows) → seen_rows w ns ≡ map rule (take (i + 1) c.rows)
map_taken_step rule w c ms ns i m h e v before =
    let more : map rule (take (i + 1) c.rows) ≡ map rule (take i c.rows) ++ rule (row_at c i) ∷ [] = map_more rule c.rows i null_val h in
    rw (e, seen_rows_append w ms m, before, v) (sym more)

-- a rule of what two rules make of a column and a second, and of it and a third
pub zip_rows3_zip_rows : (h f g : Val → Val → Val) (vs ls us : List Val) → length vs ≡ length ls → length vs ≡ length us → zip_rows h (zip_rows f ls vs) (zip_rows g vs us) ≡ zip_rows3 (λ v l u. h (f l v) (g v u)) vs ls us
zip_rows3_zip_rows h f g [] [] us e d = refl
zip_rows3_zip_rows h f g [] (l ∷ ls) us e d = refl
zip_rows3_zip_rows h f g (v ∷ vs) [] us e d = absurd (omega (arith, e))
zip_rows3_zip_rows h f g (v ∷ vs) (l ∷ ls) [] e d = absurd (omega (arith, d))
zip_rows3_zip_rows h f g (v ∷ vs) (l ∷ ls) (u ∷ us) e d = ap (λ zs. h (f l v) (g v u) ∷ zs) (zip_rows3_zip_rows h f g vs ls us (omega (arith, e)) (omega (arith, d)))

-- what a rule makes of constants, and of values that are kept
pub zip_constant : (rule : Val → Val → Val) (t u w made : Ty) (l r : Column) (n : ℕ) (x y m : ScalarValue) → l.ty ≡ t → r.ty ≡ u → w ≡ made → n ≡ length l.rows → length l.rows ≡ length r.rows → l.rows ≡ replicate (length l.rows) (seen l.ty x) → r.rows ≡ replicate (length r.rows) (seen r.ty y) → seen made m ≡ rule (seen t x) (seen u y) → replicate n (seen w m) ≡ zip_rows rule l.rows r.rows
zip_constant rule t u w made l r n x y m a b c e k p q v =
    let left : seen t x ≡ seen l.ty x = ap (λ s. seen s x) (sym a) in
    let right : seen u y ≡ seen r.ty y = ap (λ s. seen s y) (sym b) in
    let value : seen w m ≡ rule (seen l.ty x) (seen r.ty y) = ap (λ s. seen s m) c ∙ v ∙ (λ j. rule (left j) (right j)) in
    let lefts : l.rows ≡ replicate n (seen l.ty x) = p ∙ ap (λ h. replicate h (seen l.ty x)) (sym e) in
    let rights : r.rows ≡ replicate n (seen r.ty y) = q ∙ ap (λ h. replicate h (seen r.ty y)) (sym (e ∙ k)) in
    ap (replicate n) value ∙ sym (zip_rows_repeated rule n (seen l.ty x) (seen r.ty y)) ∙ (λ j. zip_rows rule (sym lefts j) (sym rights j))
