-- Values of the kind of a plain type: null, or a boolean, a number or a text as the type has them.
use Rattle.std.proofs.Common.{◌≡◌, refl, Bool, true, false}
use Rattle.vx_dtype.specs.declared.Nullability.{Nullability}
use Rattle.vx_dtype.specs.declared.CompareOperator.{CompareOperator}
use Rattle.vx_dtype.specs.Types.{Ty, bool_ty, int_ty, text_ty, list_ty, struct_ty}
use Rattle.vx_dtype.specs.TypeRules.{alike, is_plain, with_nullability}
use Rattle.vx_dtype.specs.Values.{Raw, raw_null, raw_bool, raw_int, raw_text, Val, null_val, bool_val, int_val, text_val, list_val, struct_val, fault, valued}
use Rattle.vx_dtype.specs.Fits.{fits}
use Rattle.vx_dtype.specs.Logic.{tri, is_true_val}
use Rattle.vx_dtype.specs.Order.{compare3}
use Rattle.vx_semantics.specs.Meaning.{default_answer}
use Rattle.vx_semantics.specs.Pruning.{known, known_compare}
use Rattle.vx_laws.proofs.Sound.{is_broken}

-- whether a value is null or one of this kind
abbrev pub may_be_bool : Val → Bool
may_be_bool null_val = true
may_be_bool (bool_val b) = true
may_be_bool _ = false

abbrev pub may_be_int : Val → Bool
may_be_int null_val = true
may_be_int (int_val p i) = true
may_be_int _ = false

abbrev pub may_be_text : Val → Bool
may_be_text null_val = true
may_be_text (text_val s) = true
may_be_text _ = false

abbrev pub is_kind : Ty → Val → Bool
is_kind (bool_ty n) v = may_be_bool v
is_kind (int_ty p n) v = may_be_int v
is_kind (text_ty n) v = may_be_text v
is_kind _ v = false

pub kind-alike : (t u : Ty) (v : Val) → alike t u ≡ true → is_kind t v ≡ true → is_kind u v ≡ true
unfolding alike
kind-alike (bool_ty n) (bool_ty m) v h k = k
kind-alike (int_ty p n) (int_ty q m) v h k = k
kind-alike (text_ty n) (text_ty m) v h k = k
kind-alike _ _ v h k = let no : ⊥ = cc in absurd no

pub kind-back : (t u : Ty) (v : Val) → alike t u ≡ true → is_kind u v ≡ true → is_kind t v ≡ true
unfolding alike
kind-back (bool_ty n) (bool_ty m) v h k = k
kind-back (int_ty p n) (int_ty q m) v h k = k
kind-back (text_ty n) (text_ty m) v h k = k
kind-back (list_ty e n) (list_ty d m) v h k = let no : ⊥ = cc in absurd no
kind-back (struct_ty fs n) (struct_ty gs m) v h k = let no : ⊥ = cc in absurd no
kind-back _ _ v h k = let no : ⊥ = cc in absurd no

pub kind-nullability : (t : Ty) (n : Nullability) (v : Val) → is_kind (with_nullability t n) v ≡ is_kind t v
kind-nullability (bool_ty m) n v = refl
kind-nullability (int_ty p m) n v = refl
kind-nullability (text_ty m) n v = refl
kind-nullability (list_ty e m) n v = refl
kind-nullability (struct_ty fs m) n v = refl

pub null-kind : (t : Ty) → is_plain t ≡ true → is_kind t null_val ≡ true
null-kind (bool_ty m) h = refl
null-kind (int_ty p m) h = refl
null-kind (text_ty m) h = refl
null-kind (list_ty e m) h = h
null-kind (struct_ty fs m) h = h

-- a raw value of a plain type stands for a value of its kind
pub kind-valued : (r : Raw) (t : Ty) → is_plain t ≡ true → fits r t ≡ true → is_kind t (valued r t) ≡ true
unfolding fits valued
kind-valued r (list_ty e n) p h = let no : ⊥ = cc in absurd no
kind-valued r (struct_ty fs n) p h = let no : ⊥ = cc in absurd no
kind-valued raw_null (bool_ty n) p h = refl
kind-valued raw_null (int_ty q n) p h = refl
kind-valued raw_null (text_ty n) p h = refl
kind-valued (raw_bool b) (bool_ty n) p h = refl
kind-valued (raw_int i) (int_ty q n) p h = refl
kind-valued (raw_text s) (text_ty n) p h = refl
kind-valued _ _ p h = let no : ⊥ = cc in absurd no

bool-sound : (b : Bool) → is_broken (tri (bool_val b)) ≡ false
bool-sound true = refl
bool-sound false = refl

-- two values of one kind compare to no fault
pub compared-sound : (op : CompareOperator) (t : Ty) (a b : Val) → is_kind t a ≡ true → is_kind t b ≡ true → is_broken (tri (compare3 op a b)) ≡ false
compared-sound op (bool_ty n) null_val null_val h k = refl
compared-sound op (bool_ty n) null_val (bool_val y) h k = refl
compared-sound op (bool_ty n) null_val _ h k = let no : ⊥ = cc in absurd no
compared-sound op (bool_ty n) (bool_val x) null_val h k = refl
compared-sound op (bool_ty n) (bool_val x) (bool_val y) h k = bool-sound _
compared-sound op (bool_ty n) (bool_val x) _ h k = let no : ⊥ = cc in absurd no
compared-sound op (bool_ty n) _ b h k = let no : ⊥ = cc in absurd no
compared-sound op (int_ty p n) null_val null_val h k = refl
compared-sound op (int_ty p n) null_val (int_val q y) h k = refl
compared-sound op (int_ty p n) null_val _ h k = let no : ⊥ = cc in absurd no
compared-sound op (int_ty p n) (int_val o x) null_val h k = refl
compared-sound op (int_ty p n) (int_val o x) (int_val q y) h k = bool-sound _
compared-sound op (int_ty p n) (int_val o x) _ h k = let no : ⊥ = cc in absurd no
compared-sound op (int_ty p n) _ b h k = let no : ⊥ = cc in absurd no
compared-sound op (text_ty n) null_val null_val h k = refl
compared-sound op (text_ty n) null_val (text_val y) h k = refl
compared-sound op (text_ty n) null_val _ h k = let no : ⊥ = cc in absurd no
compared-sound op (text_ty n) (text_val x) null_val h k = refl
compared-sound op (text_ty n) (text_val x) (text_val y) h k = bool-sound _
compared-sound op (text_ty n) (text_val x) _ h k = let no : ⊥ = cc in absurd no
compared-sound op (text_ty n) _ b h k = let no : ⊥ = cc in absurd no
compared-sound op (list_ty e n) a b h k = let no : ⊥ = cc in absurd no
compared-sound op (struct_ty fs n) a b h k = let no : ⊥ = cc in absurd no

-- the default of a comparison with a slot, of an operand of a kind
pub default-kind : (t : Ty) (b : Bool) (v : Val) → is_kind t v ≡ true → default_answer b v ≡ bool_val b
default-kind (bool_ty n) b fault h = let no : ⊥ = cc in absurd no
default-kind (int_ty p n) b fault h = let no : ⊥ = cc in absurd no
default-kind (text_ty n) b fault h = let no : ⊥ = cc in absurd no
default-kind (list_ty e n) b v h = let no : ⊥ = cc in absurd no
default-kind (struct_ty fs n) b v h = let no : ⊥ = cc in absurd no
default-kind _ b _ h = refl

pub bool-unbroken : (b : Bool) → is_broken (tri (bool_val b)) ≡ false
bool-unbroken b = bool-sound b

pub bool-true : (b : Bool) → is_true_val (bool_val b) ≡ b
bool-true true = refl
bool-true false = refl

-- the known values of two values compare so where their comparison is true
pub known-compared : (op : CompareOperator) (a b : Val) → is_true_val (compare3 op a b) ≡ known_compare op (known a) (known b)
known-compared op fault null_val = refl
known-compared op fault b = refl
known-compared op null_val fault = refl
known-compared op null_val b = refl
known-compared op (bool_val x) fault = refl
known-compared op (bool_val x) null_val = refl
known-compared op (bool_val x) b = refl
known-compared op (int_val p x) fault = refl
known-compared op (int_val p x) null_val = refl
known-compared op (int_val p x) b = refl
known-compared op (text_val x) fault = refl
known-compared op (text_val x) null_val = refl
known-compared op (text_val x) b = refl
known-compared op (list_val x) fault = refl
known-compared op (list_val x) null_val = refl
known-compared op (list_val x) b = refl
known-compared op (struct_val x) fault = refl
known-compared op (struct_val x) null_val = refl
known-compared op (struct_val x) b = refl
