-- What a cell is at a type: a value of the type, and how that changes with the type's nullability.
use Rattle.std.proofs.Common.{◌≡◌, ◌∙◌, refl, sym, ap, Bool, true, false, cond, ℤ, codes, Option, Some, None, is_some, bytes_eq}
use Rattle.std.proofs.lemmas.Bool.{false≢true}
use Rattle.std.proofs.lemmas.Option.{same_Some}
use Rattle.std.proofs.lemmas.Slice.Eq.{bytes_eq-Decides}
use Rattle.vx_dtype.specs.declared.PType.{PType}
use Rattle.vx_dtype.specs.declared.PType.TheVariants.{I64}
use Rattle.vx_dtype.specs.declared.Nullability.{Nullability}
use Rattle.vx_dtype.specs.declared.Nullability.TheVariants.{NonNullable, Nullable}
use Rattle.vx_dtype.specs.Types.{Bytes, Ty, bool_ty, int_ty, text_ty, list_ty, struct_ty}
use Rattle.vx_dtype.specs.TypeRules.{nullability_of, is_nullable}
use Rattle.vx_dtype.specs.Fits.{fits, in_range}
use Rattle.vx_dtype.specs.Values.{Raw, raw_null, raw_bool, raw_int, raw_text}
use Rattle.vx_laws_csv.specs.Cells.{whole_number, truth_of, truth_raw, number_raw, told_raw, null_raw, takes}
use Rattle.vx_laws_csv.specs.CsvLaws.{CellsAreOfTheirType}

-- ---- values of the type

null-fits : (b : Bool) (t : Ty) (x : Raw) → is_nullable (nullability_of t) ≡ b → cond b (Some raw_null) None ≡ Some x → fits x t ≡ true
unfolding fits
null-fits true t x is e = ap (λ (y : Raw). fits y t) (sym (same_Some raw_null x e)) ∙ is
null-fits false t x is e = absurd cc

truth-fits : (n : Nullability) (v : Option Bool) (x : Raw) → truth_raw v ≡ Some x → fits x (bool_ty n) ≡ true
unfolding fits
truth-fits n None x e = absurd cc
truth-fits n (Some b) x e = ap (λ (y : Raw). fits y (bool_ty n)) (sym (same_Some (raw_bool b) x e))

in-type : (p : PType) (n : Nullability) (i : ℤ) (x : Raw) (b : Bool) → in_range p i ≡ b → cond b (Some (raw_int i)) None ≡ Some x → fits x (int_ty p n) ≡ true
unfolding fits
in-type p n i x true is e = ap (λ (y : Raw). fits y (int_ty p n)) (sym (same_Some (raw_int i) x e)) ∙ is
in-type p n i x false is e = absurd cc

number-fits : (p : PType) (n : Nullability) (v : Option ℤ) (x : Raw) → number_raw p v ≡ Some x → fits x (int_ty p n) ≡ true
number-fits p n None x e = absurd cc
number-fits p n (Some i) x e = in-type p n i x (in_range p i) refl e

told-fits : (t : Ty) (s : Bytes) (x : Raw) → told_raw t s ≡ Some x → fits x t ≡ true
unfolding fits
told-fits (bool_ty n) s x e = truth-fits n (truth_of s) x e
told-fits (int_ty p n) s x e = number-fits p n (whole_number s) x e
told-fits (text_ty n) s x e = ap (λ (y : Raw). fits y (text_ty n)) (sym (same_Some (raw_text s) x e))
told-fits (list_ty t n) s x e = absurd cc
told-fits (struct_ty fs n) s x e = absurd cc

either-fits : (b : Bool) (t : Ty) (s : Bytes) (x : Raw) → cond b (null_raw t) (told_raw t s) ≡ Some x → fits x t ≡ true
either-fits true t s x e = null-fits (is_nullable (nullability_of t)) t x refl e
either-fits false t s x e = told-fits t s x e

pub cells_are_of_their_type : CellsAreOfTheirType
cells_are_of_their_type null t s x e = either-fits (bytes_eq s null) t s x e

-- ---- with another nullability

widened-at : (b c : Bool) (o : Option Raw) → is_some (cond b (cond c (Some raw_null) None) o) ≡ true → is_some (cond b (Some raw_null) o) ≡ true
widened-at true c o h = refl
widened-at false c o h = h

told-at : (b : Bool) (o : Option Raw) (x : Raw) → is_some (cond b None o) ≡ true → is_some (cond b None (Some x)) ≡ true
told-at true o x h = h
told-at false o x h = refl

narrowed-at : (b : Bool) (o : Option Raw) (x : Raw) → is_some (cond b (Some raw_null) o) ≡ true → is_some (cond b None (Some x)) ≡ true → is_some (cond b None o) ≡ true
narrowed-at true o x h k = k
narrowed-at false o x h k = h

text-at : (b : Bool) (x : Raw) → is_some (cond b (Some raw_null) (Some x)) ≡ true
text-at true x = refl
text-at false x = refl

-- a cell of a type is one of the type made nullable
pub integer-widened : (null s : Bytes) (n : Nullability) → takes null (int_ty I64 n) s ≡ true → takes null (int_ty I64 Nullable) s ≡ true
integer-widened null s n h = widened-at (bytes_eq s null) (is_nullable n) (number_raw I64 (whole_number s)) h

pub truth-widened : (null s : Bytes) (n : Nullability) → takes null (bool_ty n) s ≡ true → takes null (bool_ty Nullable) s ≡ true
truth-widened null s n h = widened-at (bytes_eq s null) (is_nullable n) (truth_raw (truth_of s)) h

-- a cell of a type that isn't nullable isn't null, and so is a text
pub integer-told : (null s : Bytes) → takes null (int_ty I64 NonNullable) s ≡ true → takes null (text_ty NonNullable) s ≡ true
integer-told null s h = told-at (bytes_eq s null) (number_raw I64 (whole_number s)) (raw_text s) h

pub truth-told : (null s : Bytes) → takes null (bool_ty NonNullable) s ≡ true → takes null (text_ty NonNullable) s ≡ true
truth-told null s h = told-at (bytes_eq s null) (truth_raw (truth_of s)) (raw_text s) h

-- a cell of a nullable type that isn't null is one of the type that isn't nullable
pub integer-narrowed : (null s : Bytes) → takes null (int_ty I64 Nullable) s ≡ true → takes null (text_ty NonNullable) s ≡ true → takes null (int_ty I64 NonNullable) s ≡ true
integer-narrowed null s h k = narrowed-at (bytes_eq s null) (number_raw I64 (whole_number s)) (raw_text s) h k

pub truth-narrowed : (null s : Bytes) → takes null (bool_ty Nullable) s ≡ true → takes null (text_ty NonNullable) s ≡ true → takes null (bool_ty NonNullable) s ≡ true
truth-narrowed null s h k = narrowed-at (bytes_eq s null) (truth_raw (truth_of s)) (raw_text s) h k

-- each cell is one of `utf8?`
pub text-taken : (null s : Bytes) → takes null (text_ty Nullable) s ≡ true
text-taken null s = text-at (bytes_eq s null) (raw_text s)

-- ---- no cell is both a number and a truth

no-number : (w s : Bytes) → s ≡ w → is_some (number_raw I64 (whole_number w)) ≡ false → is_some (number_raw I64 (whole_number s)) ≡ true → ⊥
no-number w s e none h = false≢true (sym none ∙ ap (λ (x : Bytes). is_some (number_raw I64 (whole_number x))) (sym e) ∙ h)

apart-at : (null s : Bytes) (b t f : Bool) → bytes_eq s null ≡ b → bytes_eq s (codes "true") ≡ t → bytes_eq s (codes "false") ≡ f
    → is_some (cond b (Some raw_null) (number_raw I64 (whole_number s))) ≡ true
    → is_some (cond b (Some raw_null) (truth_raw (cond t (Some true) (cond f (Some false) None)))) ≡ true → bytes_eq s null ≡ true
apart-at null s true t f e g j h k = e
apart-at null s false true f e g j h k = absurd (no-number (codes "true") s ((bytes_eq-Decides s (codes "true")).0 g) refl h)
apart-at null s false false true e g j h k = absurd (no-number (codes "false") s ((bytes_eq-Decides s (codes "false")).0 j) refl h)
apart-at null s false false false e g j h k = absurd (false≢true k)

pub only-null : (null s : Bytes) → takes null (int_ty I64 Nullable) s ≡ true → takes null (bool_ty Nullable) s ≡ true → bytes_eq s null ≡ true
only-null null s h k = apart-at null s (bytes_eq s null) (bytes_eq s (codes "true")) (bytes_eq s (codes "false")) refl refl refl h k
