-- The operands of a typed sum are of one integer type, so they may change places.
use Rattle.std.proofs.Common.{◌≡◌, refl, true, false, ◌&&◌, Ok, subst}
use Rattle.std.proofs.lemmas.Bool.{and_parts}
use Rattle.vx_dtype.specs.declared.Nullability.TheVariants.{Nullable}
use Rattle.vx_dtype.specs.declared.PType.{PType}
use Rattle.vx_dtype.specs.Types.{Ty, bool_ty, int_ty}
use Rattle.vx_dtype.specs.TypeRules.{same_ptype, alike, is_int_ty, with_nullability}
use Rattle.vx_dtype.specs.Values.{Val, null_val, int_val}
use Rattle.vx_dtype.specs.Fits.{in_range, fits_but_for_faults}
use Rattle.vx_expr.specs.declared.Operator.{Operator}
use Rattle.vx_semantics.specs.Typing.{and_then, union_of, binary_type, typed_of}
use Rattle.vx_semantics.specs.Meaning.{mean}
use Rattle.vx_laws.specs.Values.{plain_nullable}
use Rattle.vx_laws.specs.Operators.{no_two_integer_types, may_swap, is_difference, TypedSwapKeepsMeaning}
use Rattle.vx_laws.proofs.Inverting.{and_then-ok}
use Rattle.vx_laws.proofs.Comparing.{same_ptype-same, swap_keeps}
use Rattle.vx_laws.proofs.Fitting.{same_ptype-itself}
use Rattle.vx_laws.proofs.Preserving.{FitsButFaults, one_test}
use Rattle.vx_laws.proofs.AnySlots.{FitsButNulls, fits-but_nulls, mean-but_nulls}

int-fit : (p q : PType) (i : _) (n : _) → FitsButFaults (int_val p i) (int_ty q n) → p ≡ q
unfolding fits_but_for_faults
int-fit p q i n h = same_ptype-same p q (and_parts (same_ptype p q) (in_range q i) h).0

-- two values of one integer type are no numbers of two
one_integer_type : (l r : Val) (a b : Ty) → alike a b ≡ true → is_int_ty a ≡ true → FitsButNulls l a → FitsButNulls r b → no_two_integer_types l r ≡ true
unfolding alike fits_but_for_faults plain_nullable
one_integer_type (int_val p i) (int_val q j) (int_ty o n) (int_ty s m) e k h g =
    let first : p ≡ o = int-fit p o i Nullable h in
    let second : q ≡ s = int-fit q s j Nullable g in
    let between : o ≡ s = same_ptype-same o s e in
    let same : p ≡ q = cc in
    subst (λ (z : PType). same_ptype p z ≡ true) same (same_ptype-itself p)
one_integer_type (int_val p i) (int_val q j) (int_ty o n) (bool_ty m) e k h g = let no : ⊥ = cc in absurd no
one_integer_type (int_val p i) (int_val q j) (int_ty o n) _ e k h g = let no : ⊥ = cc in absurd no
one_integer_type (int_val p i) (int_val q j) (bool_ty n) b e k h g = let no : ⊥ = cc in absurd no
one_integer_type (int_val p i) (int_val q j) _ b e k h g = let no : ⊥ = cc in absurd no
one_integer_type (int_val p i) null_val a b e k h g = refl
one_integer_type (int_val p i) _ a b e k h g = refl
one_integer_type null_val (int_val q j) a b e k h g = refl
one_integer_type _ r a b e k h g = refl

typed-may_swap : (op : Operator) (l r : Val) (a b u : Ty) → binary_type op a b ≡ Ok u → is_difference op ≡ false → FitsButNulls l a → FitsButNulls r b → may_swap op l r ≡ true
typed-may_swap Operator.Add l r a b u e d h k =
    let t = one_test (alike a b && is_int_ty a) (with_nullability a (union_of a b)) u e in
    let parts = and_parts (alike a b) (is_int_ty a) t.0 in
    one_integer_type l r a b parts.0 parts.1 h k
typed-may_swap Operator.Sub l r a b u e d h k = let no : ⊥ = cc in absurd no
typed-may_swap _ l r a b u e d h k = refl

pub typed_swap_keeps : TypedSwapKeepsMeaning
unfolding mean typed_of
typed_swap_keeps t slots row l op r u h e d =
    let near = fits-but_nulls row t h in
    let a = and_then-ok (typed_of t l) (λ x. and_then (typed_of t r) (binary_type op x)) u e in
    let b = and_then-ok (typed_of t r) (binary_type op a.given) u a.gave in
    swap_keeps op (mean t slots row l) (mean t slots row r)
    (typed-may_swap op (mean t slots row l) (mean t slots row r) a.given b.given u b.gave d (mean-but_nulls t slots row l a.given near a.was) (mean-but_nulls t slots row r b.given near b.was))
