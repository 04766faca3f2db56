-- Sums and differences of numbers and of rows.
use Rattle.std.proofs.Common.{◌≡◌, refl, sym, ap, ◌∙◌, ℕ, zero, suc, ◌<◌, true, false, List, [], ◌∷◌, length, get_or, arith, Ok}
use Rattle.vx_dtype.specs.declared.PType.{PType}
use Rattle.vx_dtype.specs.declared.PType.TheVariants.{U8, U16, U32, U64, I8, I16, I32, I64}
use Rattle.vx_dtype.specs.declared.values.ScalarValue.{ScalarValue}
use Rattle.vx_dtype.specs.Types.{Ty, int_ty}
use Rattle.vx_dtype.specs.TypeRules.{alike, is_int_ty, same_ptype, nullability_of}
use Rattle.vx_dtype.specs.declared.Nullability.{Nullability}
use Rattle.vx_dtype.specs.Values.{Val, null_val, bool_val, int_val, text_val, list_val, struct_val, fault}
use Rattle.vx_dtype.specs.Fits.{val_fits}
use Rattle.vx_column.specs.Columns.{Column, column, rows_fit, values_fit, seen_rows, zip_rows}
use Rattle.vx_column.specs.Answers.{no_faults, unless_faulty}
use Rattle.vx_column.specs.declared.errors.ColumnError.{ColumnError}
use Rattle.vx_column.proofs.FitLemmas.{both_of, rows_fit_seen}

-- a fault at the first row or behind it
pub fault_first : (v : Val) (vs : List Val) → v ≡ fault → no_faults (v ∷ vs) ≡ false
fault_first fault vs e = refl
fault_first v vs e = ap (λ w. no_faults (w ∷ vs)) e

pub fault_behind : (v : Val) (vs : List Val) → no_faults vs ≡ false → no_faults (v ∷ vs) ≡ false
fault_behind null_val vs e = e
fault_behind (bool_val b) vs e = e
fault_behind (int_val p i) vs e = e
fault_behind (text_val s) vs e = e
fault_behind (list_val xs) vs e = e
fault_behind (struct_val ms) vs e = e
fault_behind fault vs e = refl

-- a fault that a rule makes of two values at a row
pub fault_at : (rule : Val → Val → Val) (xs ys : List Val) (i : ℕ) (d : Val) → i < length xs → length xs ≡ length ys → rule (get_or xs i d) (get_or ys i d) ≡ fault → no_faults (zip_rows rule xs ys) ≡ false
fault_at rule [] ys i d h k e = absurd (omega arith)
fault_at rule (x ∷ xs) [] i d h k e = absurd (omega (arith, k))
fault_at rule (x ∷ xs) (y ∷ ys) zero d h k e = fault_first _ _ e
fault_at rule (x ∷ xs) (y ∷ ys) (suc i) d h k e = fault_behind (rule x y) (zip_rows rule xs ys) (fault_at rule xs ys i d (omega arith) (omega (arith, k)) e)

-- rows that are of a type hold no fault
pub no_faults_fit : (t : Ty) (vs : List Val) → rows_fit t vs ≡ true → no_faults vs ≡ true
unfolding val_fits
no_faults_fit t [] e = refl
no_faults_fit t (null_val ∷ vs) e = no_faults_fit t vs (both_of _ _ e).1
no_faults_fit t (bool_val b ∷ vs) e = no_faults_fit t vs (both_of _ _ e).1
no_faults_fit t (int_val p i ∷ vs) e = no_faults_fit t vs (both_of _ _ e).1
no_faults_fit t (text_val s ∷ vs) e = no_faults_fit t vs (both_of _ _ e).1
no_faults_fit t (list_val xs ∷ vs) e = no_faults_fit t vs (both_of _ _ e).1
no_faults_fit t (struct_val ms ∷ vs) e = no_faults_fit t vs (both_of _ _ e).1
no_faults_fit t (fault ∷ vs) e = cc

-- equal integer types are one
pub same_ptype_equal : (p q : PType) → same_ptype p q ≡ true → p ≡ q
same_ptype_equal U8 U8 e = refl
same_ptype_equal U16 U16 e = refl
same_ptype_equal U32 U32 e = refl
same_ptype_equal U64 U64 e = refl
same_ptype_equal I8 I8 e = refl
same_ptype_equal I16 I16 e = refl
same_ptype_equal I32 I32 e = refl
same_ptype_equal I64 I64 e = refl
same_ptype_equal _ _ e = cc

-- a type that is equal to an integer type but for nullability is that integer type
pub same_int : (t u : Ty) (p : PType) (n : Nullability) → t ≡ int_ty p n → alike t u ≡ true → u ≡ int_ty p (nullability_of u)
unfolding alike
same_int (int_ty q m) (int_ty r k) p n d e =
    let first : q ≡ p = cc in
    let second : r ≡ p = sym (same_ptype_equal q r e) ∙ first in
    ap (λ s. int_ty s k) second
same_int _ _ p n d e = absurd cc

pub int_other : (t u : Ty) → is_int_ty t ≡ true → alike t u ≡ true → is_int_ty u ≡ true
unfolding alike
int_other (int_ty p n) (int_ty q m) e a = refl
int_other _ _ e a = absurd cc

-- the answer where the rows that were made are of their type
pub faultless : (e : ColumnError) (t : Ty) (xs : List ScalarValue) (c : Column) → values_fit t xs ≡ true → c ≡ column t (seen_rows t xs) → Ok c ≡ unless_faulty e c
faultless e t xs c h d =
    let none : no_faults (seen_rows t xs) ≡ true = no_faults_fit t _ (rows_fit_seen t xs h) in
    rw (d, none) refl
