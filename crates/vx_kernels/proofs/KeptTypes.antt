-- Types whose values are no structs: those of comparisons, and those of lists and of what they are asked for.
use Rattle.std.proofs.Common.{◌≡◌, refl, true}
use Rattle.vx_dtype.specs.Types.{Ty, bool_ty, int_ty, text_ty, list_ty}
use Rattle.vx_dtype.specs.TypeRules.{is_plain, alike}
use Rattle.vx_column.specs.ColumnParts.{keeps_values}
use Rattle.vx_column.proofs.FitLemmas.{both_of}
use Rattle.vx_kernels.specs.RawRules.{lists_kind}

pub plain_kept : (t : Ty) → is_plain t ≡ true → keeps_values t ≡ true
plain_kept (bool_ty n) e = refl
plain_kept (int_ty p n) e = refl
plain_kept (text_ty n) e = refl
plain_kept _ e = absurd cc

pub alike_kept : (t u : Ty) → is_plain t ≡ true → alike t u ≡ true → keeps_values u ≡ true
unfolding alike
alike_kept (bool_ty n) (bool_ty m) a e = refl
alike_kept (int_ty p n) (int_ty q m) a e = refl
alike_kept (text_ty n) (text_ty m) a e = refl
alike_kept _ _ a e = absurd cc

-- lists, and the values that they are asked for
pub lists_kept : (t u : Ty) → lists_kind t u ≡ true → keeps_values t ≡ true
lists_kept (list_ty e n) u h = refl
lists_kept _ u h = absurd cc

pub asked_kept : (t u : Ty) → lists_kind t u ≡ true → keeps_values u ≡ true
asked_kept (list_ty e n) u h =
    let both = both_of (is_plain e) (alike e u) h in
    alike_kept e u both.0 both.1
asked_kept _ u h = absurd cc
