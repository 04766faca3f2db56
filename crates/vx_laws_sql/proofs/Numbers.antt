-- Values without their integer types: comparisons don't ask them.
use Rattle.std.proofs.Common.{◌≡◌, refl, ap, sym, ◌∙◌, Bool, true, false, cond, not, ℤ}
use Rattle.std.proofs.lemmas.Bool.{and_parts}
use Rattle.vx_dtype.specs.declared.PType.{PType}
use Rattle.vx_dtype.specs.declared.PType.TheVariants.{I64}
use Rattle.vx_dtype.specs.declared.Nullability.{Nullability}
use Rattle.vx_dtype.specs.declared.CompareOperator.{CompareOperator}
use Rattle.vx_dtype.specs.Types.{Ty, int_ty}
use Rattle.vx_dtype.specs.TypeRules.{is_nullable, same_ptype}
use Rattle.vx_dtype.specs.Values.{Val, null_val, bool_val, int_val, text_val, list_val, struct_val, fault}
use Rattle.vx_dtype.specs.Fits.{in_range, fits_but_for_faults}
use Rattle.vx_dtype.specs.Logic.{not3}
use Rattle.vx_dtype.specs.Order.{swapped_comparison, compare3}
use Rattle.vx_dtype.specs.Like.{text_matches, like3}
use Rattle.vx_dtype.specs.Casts.{cast3}
use Rattle.vx_laws.proofs.Comparing.{compare3-swap}
use Rattle.vx_laws_sql.specs.CommonTypes.{holds_type}
use Rattle.vx_laws_sql.specs.Meaning.{arithmetic}
use Rattle.vx_laws_sql.proofs.Common.{held_numbers_fit}

-- a value, a number as one of i64
abbrev pub untyped : Val → Val
untyped (int_val p i) = int_val I64 i
untyped v = v

pub untyped-left : (op : CompareOperator) (v w : Val) → compare3 op (untyped v) w ≡ compare3 op v w
untyped-left op (int_val p i) (int_val q j) = refl
untyped-left op (int_val p i) null_val = refl
untyped-left op (int_val p i) (bool_val b) = refl
untyped-left op (int_val p i) (text_val s) = refl
untyped-left op (int_val p i) (list_val xs) = refl
untyped-left op (int_val p i) (struct_val ms) = refl
untyped-left op (int_val p i) fault = refl
untyped-left op null_val w = refl
untyped-left op (bool_val b) w = refl
untyped-left op (text_val s) w = refl
untyped-left op (list_val xs) w = refl
untyped-left op (struct_val ms) w = refl
untyped-left op fault w = refl

pub untyped-right : (op : CompareOperator) (v w : Val) → compare3 op v (untyped w) ≡ compare3 op v w
untyped-right op v w = compare3-swap op v (untyped w) ∙ (untyped-left (swapped_comparison op) w v ∙ sym (compare3-swap op v w))

-- values that are the same but for integer types compare the same
pub compare3-alike : (op : CompareOperator) (v w a b : Val) → untyped v ≡ untyped a → untyped w ≡ untyped b → compare3 op v w ≡ compare3 op a b
compare3-alike op v w a b h k =
    sym (untyped-left op v w) ∙ (sym (untyped-right op (untyped v) w)
    ∙ (ap (λ (z : Val). compare3 op z (untyped w)) h ∙ (ap (compare3 op (untyped a)) k ∙ (untyped-right op (untyped a) b ∙ untyped-left op a b))))

int-cast : (c : PType) (i : ℤ) (b : Bool) → b ≡ true → untyped (cond b (int_val c i) fault) ≡ int_val I64 i
int-cast c i true h = refl
int-cast c i false h = let no : ⊥ = cc (h) in absurd no

null-cast : (b : Bool) → b ≡ true → untyped (cond b null_val fault) ≡ null_val
null-cast true h = refl
null-cast false h = let no : ⊥ = cc (h) in absurd no

-- a number in a wider type is the number
pub cast-alike : (c p : PType) (n : Nullability) (v : Val) → holds_type c p ≡ true → fits_but_for_faults v (int_ty p n) ≡ true
    → untyped (cast3 (int_ty c n) v) ≡ untyped v
unfolding fits_but_for_faults
cast-alike c p n null_val h k = null-cast (is_nullable n) k
cast-alike c p n (int_val q i) h k = int-cast c i (in_range c i) (held_numbers_fit c p i h (and_parts (same_ptype q p) (in_range p i) k).1)
cast-alike c p n fault h k = refl
cast-alike c p n _ h k = let no : ⊥ = cc (k) in absurd no

pub not3-bool : (b : Bool) → not3 (bool_val b) ≡ bool_val (not b)
not3-bool true = refl
not3-bool false = refl

-- a negated match is the negation of the match
pub not3-like : (v w : Val) → not3 (like3 false false v w) ≡ like3 true false v w
not3-like (text_val s) (text_val p) = not3-bool (text_matches false s p)
not3-like (text_val s) null_val = refl
not3-like null_val (text_val s) = refl
not3-like fault (text_val s) = refl
not3-like (bool_val b) (text_val s) = refl
not3-like (int_val p i) (text_val s) = refl
not3-like (list_val b) (text_val s) = refl
not3-like (struct_val b) (text_val s) = refl
not3-like _ _ = refl

pub arithmetic-left : (rule : ℤ → ℤ → ℤ) (t : Ty) (v w : Val) → arithmetic rule t (untyped v) w ≡ arithmetic rule t v w
arithmetic-left rule t (int_val p i) (int_val q j) = refl
arithmetic-left rule t (int_val p i) null_val = refl
arithmetic-left rule t (int_val p i) (bool_val b) = refl
arithmetic-left rule t (int_val p i) (text_val s) = refl
arithmetic-left rule t (int_val p i) (list_val xs) = refl
arithmetic-left rule t (int_val p i) (struct_val ms) = refl
arithmetic-left rule t (int_val p i) fault = refl
arithmetic-left rule t null_val w = refl
arithmetic-left rule t (bool_val b) w = refl
arithmetic-left rule t (text_val s) w = refl
arithmetic-left rule t (list_val xs) w = refl
arithmetic-left rule t (struct_val ms) w = refl
arithmetic-left rule t fault w = refl

pub arithmetic-right : (rule : ℤ → ℤ → ℤ) (t : Ty) (v w : Val) → arithmetic rule t v (untyped w) ≡ arithmetic rule t v w
arithmetic-right rule t (int_val p i) (int_val q j) = refl
arithmetic-right rule t null_val (int_val q j) = refl
arithmetic-right rule t (bool_val b) (int_val q j) = refl
arithmetic-right rule t (text_val s) (int_val q j) = refl
arithmetic-right rule t (list_val xs) (int_val q j) = refl
arithmetic-right rule t (struct_val ms) (int_val q j) = refl
arithmetic-right rule t fault (int_val q j) = refl
arithmetic-right rule t v null_val = refl
arithmetic-right rule t v (bool_val b) = refl
arithmetic-right rule t v (text_val s) = refl
arithmetic-right rule t v (list_val xs) = refl
arithmetic-right rule t v (struct_val ms) = refl
arithmetic-right rule t v fault = refl

pub arithmetic-alike : (rule : ℤ → ℤ → ℤ) (t : Ty) (v w a b : Val) → untyped v ≡ untyped a → untyped w ≡ untyped b
    → arithmetic rule t v w ≡ arithmetic rule t a b
arithmetic-alike rule t v w a b h k =
    sym (arithmetic-left rule t v w) ∙ (sym (arithmetic-right rule t (untyped v) w)
    ∙ (ap (λ (z : Val). arithmetic rule t z (untyped w)) h
    ∙ (ap (arithmetic rule t (untyped a)) k ∙ (arithmetic-right rule t (untyped a) b ∙ arithmetic-left rule t a b))))
