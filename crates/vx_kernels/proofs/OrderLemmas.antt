-- Comparisons between what the code holds and the values at rows.
use Rattle.std.proofs.Common.{◌≡◌, refl, true, option_map}
use Rattle.vx_dtype.specs.Types.{Ty, bool_ty, int_ty, text_ty}
use Rattle.vx_dtype.specs.TypeRules.{is_plain, alike, same_ptype, nullability_of, union}
use Rattle.vx_dtype.specs.declared.PType.{PType}
use Rattle.vx_dtype.specs.declared.PType.TheVariants.{U8, U16, U32, U64, I8, I16, I32, I64}
use Rattle.vx_dtype.specs.declared.CompareOperator.{CompareOperator}
use Rattle.vx_dtype.specs.Values.{Raw, raw_null, raw_bool, raw_int, raw_text, valued}
use Rattle.vx_dtype.specs.Fits.{fits}
use Rattle.vx_dtype.specs.Order.{compare3, meets}
use Rattle.vx_words.specs.Words.{truth_val}
use Rattle.vx_column.specs.RawParts.{truth_fits}
use Rattle.vx_kernels.specs.RawRules.{raw_order}
use Rattle.vx_column.proofs.FitLemmas.{nullable_left, nullable_right}

-- the comparison of two values of one plain type is that of how they stand
pub compare3_valued : (op : CompareOperator) (t u : Ty) (x y : Raw) → is_plain t ≡ true → alike t u ≡ true → fits x t ≡ true → fits y u ≡ true → compare3 op (valued x t) (valued y u) ≡ truth_val (option_map (meets op) (raw_order x y))
unfolding fits valued alike
compare3_valued op (bool_ty n) (bool_ty m) raw_null raw_null a b c d = refl
compare3_valued op (bool_ty n) (bool_ty m) raw_null (raw_bool j) a b c d = refl
compare3_valued op (bool_ty n) (bool_ty m) (raw_bool i) raw_null a b c d = refl
compare3_valued op (bool_ty n) (bool_ty m) (raw_bool i) (raw_bool j) a b c d = refl
compare3_valued op (int_ty p n) (int_ty q m) raw_null raw_null a b c d = refl
compare3_valued op (int_ty p n) (int_ty q m) raw_null (raw_int j) a b c d = refl
compare3_valued op (int_ty p n) (int_ty q m) (raw_int i) raw_null a b c d = refl
compare3_valued op (int_ty p n) (int_ty q m) (raw_int i) (raw_int j) a b c d = refl
compare3_valued op (text_ty n) (text_ty m) raw_null raw_null a b c d = refl
compare3_valued op (text_ty n) (text_ty m) raw_null (raw_text j) a b c d = refl
compare3_valued op (text_ty n) (text_ty m) (raw_text i) raw_null a b c d = refl
compare3_valued op (text_ty n) (text_ty m) (raw_text i) (raw_text j) a b c d = refl
compare3_valued op _ _ _ _ a b c d = cc

-- where there is no order, one of the types has the null
pub order_fits : (op : CompareOperator) (t u : Ty) (x y : Raw) → is_plain t ≡ true → alike t u ≡ true → fits x t ≡ true → fits y u ≡ true → truth_fits (union (nullability_of t) (nullability_of u)) (option_map (meets op) (raw_order x y)) ≡ true
unfolding fits alike
order_fits op (bool_ty n) (bool_ty m) raw_null raw_null a b c d = nullable_left n m c
order_fits op (bool_ty n) (bool_ty m) raw_null (raw_bool j) a b c d = nullable_left n m c
order_fits op (bool_ty n) (bool_ty m) (raw_bool i) raw_null a b c d = nullable_right n m d
order_fits op (bool_ty n) (bool_ty m) (raw_bool i) (raw_bool j) a b c d = refl
order_fits op (int_ty p n) (int_ty q m) raw_null raw_null a b c d = nullable_left n m c
order_fits op (int_ty p n) (int_ty q m) raw_null (raw_int j) a b c d = nullable_left n m c
order_fits op (int_ty p n) (int_ty q m) (raw_int i) raw_null a b c d = nullable_right n m d
order_fits op (int_ty p n) (int_ty q m) (raw_int i) (raw_int j) a b c d = refl
order_fits op (text_ty n) (text_ty m) raw_null raw_null a b c d = nullable_left n m c
order_fits op (text_ty n) (text_ty m) raw_null (raw_text j) a b c d = nullable_left n m c
order_fits op (text_ty n) (text_ty m) (raw_text i) raw_null a b c d = nullable_right n m d
order_fits op (text_ty n) (text_ty m) (raw_text i) (raw_text j) a b c d = refl
order_fits op _ _ _ _ a b c d = cc

-- the same integer type is the same from both sides
pub same_ptype_other : (p q : PType) → same_ptype p q ≡ true → same_ptype q p ≡ true
same_ptype_other U8 U8 e = refl
same_ptype_other U16 U16 e = refl
same_ptype_other U32 U32 e = refl
same_ptype_other U64 U64 e = refl
same_ptype_other I8 I8 e = refl
same_ptype_other I16 I16 e = refl
same_ptype_other I32 I32 e = refl
same_ptype_other I64 I64 e = refl
same_ptype_other _ _ e = cc

-- a type that is equal to a plain one is plain, and the other way round
pub plain_other : (t u : Ty) → is_plain t ≡ true → alike t u ≡ true → is_plain u ≡ true
unfolding alike
plain_other (bool_ty n) (bool_ty m) a b = refl
plain_other (int_ty p n) (int_ty q m) a b = refl
plain_other (text_ty n) (text_ty m) a b = refl
plain_other _ _ a b = cc

pub same_other : (t u : Ty) → is_plain t ≡ true → alike t u ≡ true → alike u t ≡ true
unfolding alike
same_other (bool_ty n) (bool_ty m) a b = refl
same_other (int_ty p n) (int_ty q m) a b = same_ptype_other p q b
same_other (text_ty n) (text_ty m) a b = refl
same_other _ _ a b = cc
