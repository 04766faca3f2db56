-- Numbers of 64 bits, and their sums.
use Rattle.std.proofs.Common.{◌≡◌, ◌∙◌, sym, ap, ap₂, refl, subst, ℕ, ◌+◌, ◌*◌, ◌<◌, Bool, true, false, true≢false, List, [], ◌∷◌, ◌++◌, length, get_or, take, ℤ, pos, negsuc, neg_ℤ, ◌+ℤ◌, ◌≤ℤ◌, int_le, FitsSigned, ◌&&◌, zero, suc, arith}
use mir.Syntax.{w128}
use Rattle.std.proofs.lemmas.Int.{ints}
use Rattle.std.proofs.lemmas.List.{take_more}
use Rattle.std.proofs.lemmas.List.Sums.{fold_push}
use Rattle.vx_dtype.specs.RawViews.{raw_view}
use Rattle.vx_dtype.specs.Values.{Raw, raw_null, raw_bool, raw_int, raw_text, raw_list, raw_struct, Raws, Val, valued}
use Rattle.vx_dtype.specs.Types.{Bytes}
use Rattle.vx_dtype.specs.Fits.{fits}
use Rattle.vx_dtype.specs.declared.values.ScalarValue.{ScalarValue}
use Rattle.vx_column.specs.Columns.{values_fit, seen, seen_rows}
use Rattle.vx_laws_generated.specs.GeneratedLine.{number_of, sum_of}
use Rattle.vx_generated.proofs.ScanLemmas.{id_ty}

both_of : (a b : Bool) → a && b ≡ true → (a ≡ true) × (b ≡ true)
both_of true true e = (refl, refl)
both_of true false e = (refl, e)
both_of false b e = (e, cc)

-- ---- values of the type

pub record IsLong (n : ℤ) : Type 0 where
  pub low : neg_ℤ (pos 9223372036854775808) ≤ℤ n
  pub high : n ≤ℤ pos 9223372036854775807

long-between : (n : ℤ) → int_le (negsuc 9223372036854775807) n ≡ true → int_le n (pos 9223372036854775807) ≡ true → IsLong n
long-between n low high = record { low = omega (arith, ints); high = omega (arith, ints) }

pub no-null : fits raw_null id_ty ≡ true → ⊥
unfolding fits
no-null e = true≢false (sym e)

pub no-bool : (b : Bool) → fits (raw_bool b) id_ty ≡ true → ⊥
unfolding fits
no-bool b e = true≢false (sym e)

pub no-text : (text : Bytes) → fits (raw_text text) id_ty ≡ true → ⊥
unfolding fits
no-text text e = true≢false (sym e)

pub no-list : (xs : Raws) → fits (raw_list xs) id_ty ≡ true → ⊥
unfolding fits
no-list xs e = true≢false (sym e)

pub no-struct : (xs : Raws) → fits (raw_struct xs) id_ty ≡ true → ⊥
unfolding fits
no-struct xs e = true≢false (sym e)

pub long-int : (n : ℤ) → fits (raw_int n) id_ty ≡ true → IsLong n
unfolding fits
long-int n e =
    let both = both_of (int_le (negsuc 9223372036854775807) n) (int_le n (pos 9223372036854775807)) e in
    long-between n both.0 both.1

long-raw : (r : Raw) → fits r id_ty ≡ true → IsLong (number_of (valued r id_ty))
unfolding valued
long-raw raw_null e = absurd (no-null e)
long-raw (raw_bool b) e = absurd (no-bool b e)
long-raw (raw_int n) e = long-int n e
long-raw (raw_text s) e = absurd (no-text s e)
long-raw (raw_list xs) e = absurd (no-list xs e)
long-raw (raw_struct xs) e = absurd (no-struct xs e)

-- the number that a value of the type is has 64 bits
pub long-so : (x : ScalarValue) (n : ℤ) → fits (raw_view x) id_ty ≡ true → n ≡ number_of (seen id_ty x) → IsLong n
long-so x n h e = subst IsLong (sym e) (long-raw (raw_view x) h)

pub wide-so : (n : ℤ) → IsLong n → FitsSigned w128 n
wide-so n long = let low = long.low in let high = long.high in omega (arith, ints)

pub number-told : (x : ScalarValue) (n : ℤ) → raw_view x ≡ raw_int n → n ≡ number_of (seen id_ty x)
unfolding valued
number-told x n e = ap (λ (r : Raw). number_of (valued r id_ty)) (sym e)

-- a value of a list of them
pub fits_at : (xs : List ScalarValue) (i : ℕ) (x : ScalarValue) → values_fit id_ty xs ≡ true → i < length xs → x ≡ get_or xs i x → fits (raw_view x) id_ty ≡ true
fits_at [] i x e h p = absurd (omega arith)
fits_at (y ∷ xs) zero x e h p = ap (λ (z : ScalarValue). fits (raw_view z) id_ty) p ∙ (both_of _ _ e).0
fits_at (y ∷ xs) (suc i) x e h p = fits_at xs i x (both_of _ _ e).1 (omega arith) p

-- ---- sums

seen_rows_append : (xs : List ScalarValue) (x : ScalarValue) → seen_rows id_ty (xs ++ x ∷ []) ≡ seen_rows id_ty xs ++ seen id_ty x ∷ []
seen_rows_append [] x = refl
seen_rows_append (y ∷ ys) x = ap (λ (zs : List Val). seen id_ty y ∷ zs) (seen_rows_append ys x)

-- one more value
pub more-sum : (xs : List ScalarValue) (i : ℕ) (x : ScalarValue) (sum n : ℤ) → i < length xs → x ≡ get_or xs i x
    → sum ≡ sum_of (seen_rows id_ty (take i xs)) → n ≡ number_of (seen id_ty x) → sum +ℤ n ≡ sum_of (seen_rows id_ty (take (i + 1) xs))
more-sum xs i x sum n h p e g =
    let value = g ∙ ap (λ (v : ScalarValue). number_of (seen id_ty v)) p in
    let rows : seen_rows id_ty (take (i + 1) xs) ≡ seen_rows id_ty (take i xs) ++ seen id_ty (get_or xs i x) ∷ [] =
    ap (seen_rows id_ty) (take_more xs i x h) ∙ seen_rows_append (take i xs) (get_or xs i x) in
    ap₂ (λ (a b : ℤ). a +ℤ b) e value
    ∙ sym (ap sum_of rows ∙ fold_push (λ (a : ℤ) (v : Val). a +ℤ number_of v) (pos 0) (seen_rows id_ty (take i xs)) (seen id_ty (get_or xs i x)))

-- and how far off the sum can be then
pub sum-wide : (k : ℕ) (sum n : ℤ) → k < 18446744073709551616 → neg_ℤ (pos (k * 9223372036854775808)) ≤ℤ sum → sum ≤ℤ pos (k * 9223372036854775808) → IsLong n
    → FitsSigned w128 (sum +ℤ n)
sum-wide k sum n few above below long = let low = long.low in let high = long.high in omega (arith, ints)

pub more-above : (k : ℕ) (sum n : ℤ) → neg_ℤ (pos (k * 9223372036854775808)) ≤ℤ sum → IsLong n → neg_ℤ (pos ((k + 1) * 9223372036854775808)) ≤ℤ (sum +ℤ n)
more-above k sum n above long = let low = long.low in omega (arith, ints)

pub more-below : (k : ℕ) (sum n : ℤ) → sum ≤ℤ pos (k * 9223372036854775808) → IsLong n → (sum +ℤ n) ≤ℤ pos ((k + 1) * 9223372036854775808)
more-below k sum n below long = let high = long.high in omega (arith, ints)
