-- Casts between what the code holds and the values at rows.
use Rattle.std.proofs.Common.{◌≡◌, refl, ℕ, zero, suc, ◌<◌, Bool, true, false, cond, Option, Some, None, List, [], ◌∷◌, map, length, get_or, arith, subst}
use Rattle.std.specs.Prelude.{ℤ}
use Rattle.vx_dtype.specs.declared.Nullability.{Nullability}
use Rattle.vx_dtype.specs.declared.Nullability.TheVariants.{NonNullable, Nullable}
use Rattle.vx_dtype.specs.declared.PType.{PType}
use Rattle.vx_dtype.specs.Types.{Ty, bool_ty, int_ty, text_ty, list_ty, struct_ty}
use Rattle.vx_dtype.specs.TypeRules.{no_name_twice}
use Rattle.vx_dtype.specs.Values.{Raw, raw_null, raw_bool, raw_int, raw_text, valued, Val, int_val, fault}
use Rattle.vx_dtype.specs.Fits.{fits, in_range}
use Rattle.vx_dtype.specs.Casts.{takes_cast, cast3}
use Rattle.vx_kernels.specs.RawRules.{raw_cast}
use Rattle.vx_column.specs.Answers.{no_faults}
use Rattle.vx_column.specs.ColumnParts.{keeps_values}
use Rattle.vx_kernels.proofs.SumLemmas.{fault_first, fault_behind}

-- a raw value of the type that stands for the cast of a value; none where the cast is a fault
abbrev pub CastsTo : Ty → Val → Option Raw → Type 0
CastsTo t v None = cast3 t v ≡ fault
CastsTo t v (Some y) = (fits y t ≡ true) × (valued y t ≡ cast3 t v)

pub number_casts : (p q : PType) (n : Nullability) (i : ℤ) (b : Bool) → in_range q i ≡ b → CastsTo (int_ty q n) (int_val p i) (cond b (Some (raw_int i)) None)
unfolding fits valued
number_casts p q n i true e = (e, rw e refl)
number_casts p q n i false e = rw e refl

pub raw_casts : (s t : Ty) (x : Raw) → takes_cast s t ≡ true → fits x s ≡ true → CastsTo t (valued x s) (raw_cast t x)
unfolding fits valued
raw_casts (bool_ty n) (bool_ty NonNullable) raw_null a b = refl
raw_casts (bool_ty n) (bool_ty Nullable) raw_null a b = (refl, refl)
raw_casts (bool_ty n) (bool_ty m) (raw_bool c) a b = (refl, refl)
raw_casts (int_ty p n) (int_ty q NonNullable) raw_null a b = refl
raw_casts (int_ty p n) (int_ty q Nullable) raw_null a b = (refl, refl)
raw_casts (int_ty p n) (int_ty q m) (raw_int i) a b = number_casts p q m i (in_range q i) refl
raw_casts (text_ty n) (text_ty NonNullable) raw_null a b = refl
raw_casts (text_ty n) (text_ty Nullable) raw_null a b = (refl, refl)
raw_casts (text_ty n) (text_ty m) (raw_text c) a b = (refl, refl)
raw_casts _ _ _ a b = absurd cc

pub casts_none : (t : Ty) (v : Val) (o : Option Raw) → o ≡ None → CastsTo t v o → cast3 t v ≡ fault
casts_none t v o e h = subst (CastsTo t v) e h

pub casts_some : (t : Ty) (v : Val) (o : Option Raw) (y : Raw) → o ≡ Some y → CastsTo t v o → (fits y t ≡ true) × (valued y t ≡ cast3 t v)
casts_some t v o y e h = subst (CastsTo t v) e h

-- a target has no fields
pub cast_names : (s t : Ty) → takes_cast s t ≡ true → no_name_twice t ≡ true
unfolding no_name_twice
cast_names (bool_ty n) (bool_ty m) a = refl
cast_names (int_ty p n) (int_ty q m) a = refl
cast_names (text_ty n) (text_ty m) a = refl
cast_names _ _ a = absurd cc

-- a row whose cast is a fault
pub cast_fault_at : (t : Ty) (vs : List Val) (i : ℕ) (d : Val) → i < length vs → cast3 t (get_or vs i d) ≡ fault → no_faults (map (cast3 t) vs) ≡ false
cast_fault_at t [] i d h e = absurd (omega arith)
cast_fault_at t (v ∷ vs) zero d h e = fault_first (cast3 t v) (map (cast3 t) vs) e
cast_fault_at t (v ∷ vs) (suc i) d h e = fault_behind (cast3 t v) (map (cast3 t) vs) (cast_fault_at t vs i d (omega arith) e)

-- the source of a cast keeps values
pub source_kept : (s t : Ty) → takes_cast s t ≡ true → keeps_values s ≡ true
source_kept (bool_ty n) t a = refl
source_kept (int_ty p n) t a = refl
source_kept (text_ty n) t a = refl
source_kept (list_ty e n) t a = refl
source_kept (struct_ty fs n) t a = absurd cc
