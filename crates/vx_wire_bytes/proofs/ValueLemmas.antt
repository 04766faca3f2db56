-- A value that is read is the value that was written, and what was written is read again.
use Rattle.std.proofs.Common.{◌≡◌, ◌≢◌, ℕ, zero, suc, ◌+◌, ◌*◌, ◌-◌, ◌/◌, ◌%◌, ◌^◌, ◌≤◌, ◌<◌, ◌&&◌, Bool, true, false, cond, leb, ltb, ℤ, pos, negsuc, [], ◌∷◌, ◌++◌, Option, Some, refl, sym, ap, subst, ◌∙◌, append_assoc, arith, inl, inr}
use Rattle.std.specs.Prelude.{int_le}
use Rattle.std.proofs.Math.Nat.{pow-succ', pow-le-pow_right}
use Rattle.std.proofs.lemmas.Bool.{cases_lt, leb-true, le-leb, lt-leb, lt-ltb, le-ltb, ltb-true}
use Rattle.vx_dtype.specs.Types.{Bytes, Ty, bool_ty, int_ty, text_ty, list_ty, struct_ty, Fields, no_fields, field}
use Rattle.vx_dtype.specs.declared.PType.{PType}
use Rattle.vx_dtype.specs.declared.PType.TheVariants.{U8, U16, U32, U64, I8, I16, I32, I64}
use Rattle.vx_dtype.specs.declared.Nullability.{Nullability}
use Rattle.vx_dtype.specs.declared.Nullability.TheVariants.{NonNullable, Nullable}
use Rattle.vx_dtype.specs.TypeRules.{is_nullable, nullability_of}
use Rattle.vx_dtype.specs.Values.{Raw, raw_null, raw_bool, raw_int, raw_text, raw_list, raw_struct, Raws, no_raws, raw}
use Rattle.vx_dtype.specs.Fits.{greatest, in_range, fits, all_fit, fields_fit}
use Rattle.vx_wire_bytes.specs.Numbers.{number_bytes, piece_bytes}
use Rattle.vx_wire_bytes.specs.Fields.{IsText}
use Rattle.vx_wire_bytes.specs.Reading.{◌>>=◌, number_at, text_at}
use Rattle.vx_wire_bytes.specs.ValueForms.{truth_byte, width_of, little_endian, twos_complement, integer_bytes, raws_number, value_bytes, elements_bytes, members_bytes, TextsAre, AllTextsAre}
use Rattle.vx_wire_bytes.specs.ValueReading.{little_endian_at, of_twos_complement, integer_at, truth_of, elements_with, all_elements_with, list_value_with, null_at, marked_with, kind_at, members_at, value_at}
use Rattle.vx_wire_bytes.proofs.NumberLemmas.{IsBytes, IsBytes-rest, bind_some, some_is, Takes, Takes-then, number_takes, number_again}
use Rattle.vx_wire_bytes.proofs.HeadLemmas.{text_takes, text_again}
use Rattle.vx_wire_bytes.proofs.ValueWriting.{both_true}

-- ---- powers of 256

pub power_step : (width : ℕ) → width ≢ 0 → 256 ^ width ≡ 256 * 256 ^ (width - 1)
power_step zero some = absurd (some refl)
power_step (suc width) some =
    let k : width ≡ suc width - 1 = omega arith in
    pow-succ' 256 width ∙ ap (λ w. 256 * 256 ^ w) k

pub power_most : (width : ℕ) → width ≤ 8 → 256 ^ width ≤ 2 ^ 64
power_most width le = pow-le-pow_right {n = 256} (omega arith) {i = width} {j = 8} le

-- ---- numbers

little_endian_again : (width n : ℕ) (rest : Bytes) → n < 256 ^ width → little_endian_at width (little_endian width n ++ rest) ≡ Some (n, rest)
little_endian_again zero n rest lt =
    let none : 0 ≡ n = omega (arith, lt) in
    ap (λ m. Some (m, rest)) none
little_endian_again (suc width) n rest lt =
    let again = little_endian_again width (n / 256) rest (omega (arith, lt, pow-succ' 256 width)) in
    let sum : n % 256 + 256 * (n / 256) ≡ n = omega arith in
    rw (again, sum) refl

little_endian_split : (width b high : ℕ) → b < 256 → (bytes rest : Bytes) → bytes ≡ little_endian width high ++ rest → b ∷ bytes ≡ little_endian (suc width) (b + 256 * high) ++ rest
little_endian_split width b high byte bytes rest e =
    let low : (b + 256 * high) % 256 ≡ b = omega (arith, byte) in
    let up : (b + 256 * high) / 256 ≡ high = omega (arith, byte) in
    rw (low, up, e) refl

little_endian_takes : (width : ℕ) (bytes : Bytes) (x : ℕ × Bytes) → IsBytes bytes → little_endian_at width bytes ≡ Some x → Takes bytes (little_endian width x.0) x.1 × (x.0 < 256 ^ width)
little_endian_takes zero bytes x fits e = subst (λ (y : ℕ × Bytes). Takes bytes (little_endian 0 y.0) y.1 × (y.0 < 256 ^ 0)) (some_is (0, bytes) x e) (record { parts = refl; fits = fits }, omega arith)
little_endian_takes (suc width) [] x fits e = absurd cc
little_endian_takes (suc width) (b ∷ bytes) x fits e =
    let a = bind_some (little_endian_at width bytes) (λ n. Some (b + 256 * n.0, n.1)) x e in
    let t = little_endian_takes width bytes a.0 (IsBytes-rest b bytes fits) a.1 in
    let byte : b < 256 = fits 0 in
    subst (λ (y : ℕ × Bytes). Takes (b ∷ bytes) (little_endian (suc width) y.0) y.1 × (y.0 < 256 ^ suc width)) (some_is (b + 256 * a.0.0, a.0.1) x a.2)
    (record { parts = little_endian_split width b a.0.0 byte bytes a.0.1 t.0.parts; fits = t.0.fits }, omega (arith, pow-succ' 256 width, t.1, byte))

-- what an integer type has: so many numbers in all, of which those that aren't negative end at its greatest
record Extent (p : PType) : Type 0 where
  most : ℕ
  all : ℕ
  size : 256 ^ width_of p ≡ all
  within : most < all
  greatest_is : greatest p ≡ pos most
  above : (n : ℕ) → in_range p (pos n) ≡ leb n most
  below : (n : ℕ) → in_range p (negsuc n) ≡ ltb n (all - (most + 1))

from_zero : (n most : ℕ) → (leb 0 n && leb n most) ≡ leb n most
from_zero n most = ap (λ b. b && leb n most) (le-leb 0 n (omega arith))

up_to_minus_one : (n most : ℕ) → (leb n most && true) ≡ ltb n (most + 1)
up_to_minus_one n most = elim (cases_lt n (most + 1)) [
  | inl lt ↦ rw (le-leb n most (omega arith), lt-ltb n (most + 1) lt) refl
  | inr le ↦ rw (lt-leb n most (omega arith), le-ltb n (most + 1) le) refl
]

extent_of : (p : PType) → Extent p
extent_of U8 = record { most = 255; all = 256; size = refl; within = omega arith; greatest_is = refl; above = λ n. from_zero n 255; below = λ n. sym (le-ltb n 0 (omega arith)) }
extent_of U16 = record { most = 65535; all = 65536; size = refl; within = omega arith; greatest_is = refl; above = λ n. from_zero n 65535; below = λ n. sym (le-ltb n 0 (omega arith)) }
extent_of U32 = record { most = 4294967295; all = 4294967296; size = refl; within = omega arith; greatest_is = refl; above = λ n. from_zero n 4294967295; below = λ n. sym (le-ltb n 0 (omega arith)) }
extent_of U64 = record { most = 18446744073709551615; all = 18446744073709551616; size = refl; within = omega arith; greatest_is = refl; above = λ n. from_zero n 18446744073709551615; below = λ n. sym (le-ltb n 0 (omega arith)) }
extent_of I8 = record { most = 127; all = 256; size = refl; within = omega arith; greatest_is = refl; above = λ n. refl; below = λ n. up_to_minus_one n 127 }
extent_of I16 = record { most = 32767; all = 65536; size = refl; within = omega arith; greatest_is = refl; above = λ n. refl; below = λ n. up_to_minus_one n 32767 }
extent_of I32 = record { most = 2147483647; all = 4294967296; size = refl; within = omega arith; greatest_is = refl; above = λ n. refl; below = λ n. up_to_minus_one n 2147483647 }
extent_of I64 = record { most = 9223372036854775807; all = 18446744073709551616; size = refl; within = omega arith; greatest_is = refl; above = λ n. refl; below = λ n. up_to_minus_one n 9223372036854775807 }

twos_complement_below : (p : PType) (i : ℤ) → in_range p i ≡ true → twos_complement (width_of p) i < 256 ^ width_of p
twos_complement_below p (pos n) e =
    let x = extent_of p in
    omega (arith, x.size, x.within, leb-true n x.most (sym (x.above n) ∙ e))
twos_complement_below p (negsuc n) e =
    let x = extent_of p in
    omega (arith, x.size, x.within, ltb-true n (x.all - (x.most + 1)) (sym (x.below n) ∙ e))

of_twos_complement_low : (p : PType) (n : ℕ) → n ≤ (extent_of p).most → of_twos_complement p n ≡ pos n
of_twos_complement_low p n le =
    let low : int_le (pos n) (greatest p) ≡ true = ap (int_le (pos n)) (extent_of p).greatest_is ∙ le-leb n (extent_of p).most le in
    ap (λ b. cond b (pos n) (negsuc (256 ^ width_of p - (n + 1)))) low

of_twos_complement_high : (p : PType) (n : ℕ) → (extent_of p).most < n → of_twos_complement p n ≡ negsuc (256 ^ width_of p - (n + 1))
of_twos_complement_high p n lt =
    let high : int_le (pos n) (greatest p) ≡ false = ap (int_le (pos n)) (extent_of p).greatest_is ∙ lt-leb n (extent_of p).most lt in
    ap (λ b. cond b (pos n) (negsuc (256 ^ width_of p - (n + 1)))) high

of_twos_complement_again : (p : PType) (i : ℤ) → in_range p i ≡ true → of_twos_complement p (twos_complement (width_of p) i) ≡ i
of_twos_complement_again p (pos n) e = of_twos_complement_low p n (leb-true n (extent_of p).most (sym ((extent_of p).above n) ∙ e))
of_twos_complement_again p (negsuc n) e =
    let x = extent_of p in
    let lt = ltb-true n (x.all - (x.most + 1)) (sym (x.below n) ∙ e) in
    let back : 256 ^ width_of p - (256 ^ width_of p - (n + 1) + 1) ≡ n = omega (arith, x.size, x.within, lt) in
    of_twos_complement_high p (256 ^ width_of p - (n + 1)) (omega (arith, x.size, x.within, lt)) ∙ ap negsuc back

of_twos_complement_takes : (p : PType) (n : ℕ) → n < 256 ^ width_of p → (in_range p (of_twos_complement p n) ≡ true) × (twos_complement (width_of p) (of_twos_complement p n) ≡ n)
of_twos_complement_takes p n lt =
    let x = extent_of p in
    elim (cases_lt x.most n) [
      | inl high ↦
          let is = of_twos_complement_high p n high in
          let back : 256 ^ width_of p - (256 ^ width_of p - (n + 1) + 1) ≡ n = omega (arith, lt) in (
            ap (in_range p) is ∙ x.below (256 ^ width_of p - (n + 1)) ∙ lt-ltb (256 ^ width_of p - (n + 1)) (x.all - (x.most + 1)) (omega (arith, x.size, lt, high)),
            ap (twos_complement (width_of p)) is ∙ back,
          )
      | inr low ↦
          let is = of_twos_complement_low p n low in
          (ap (in_range p) is ∙ x.above n ∙ le-leb n x.most low, ap (twos_complement (width_of p)) is)
    ]

integer_again : (p : PType) (i : ℤ) (rest : Bytes) → in_range p i ≡ true → integer_at p (integer_bytes p i ++ rest) ≡ Some (i, rest)
unfolding integer_at integer_bytes
integer_again p i rest e = rw (little_endian_again (width_of p) (twos_complement (width_of p) i) rest (twos_complement_below p i e), of_twos_complement_again p i e) refl

integer_takes : (p : PType) (bytes : Bytes) (x : ℤ × Bytes) → IsBytes bytes → integer_at p bytes ≡ Some x → Takes bytes (integer_bytes p x.0) x.1 × (in_range p x.0 ≡ true)
unfolding integer_at integer_bytes
integer_takes p bytes x fits e =
    let a = bind_some (little_endian_at (width_of p) bytes) (λ n. Some (of_twos_complement p n.0, n.1)) x e in
    let t = little_endian_takes (width_of p) bytes a.0 fits a.1 in
    let back = of_twos_complement_takes p a.0.0 t.1 in
    subst (λ (y : ℤ × Bytes). Takes bytes (little_endian (width_of p) (twos_complement (width_of p) y.0)) y.1 × (in_range p y.0 ≡ true)) (some_is (of_twos_complement p a.0.0, a.0.1) x a.2)
    (subst (λ n. Takes bytes (little_endian (width_of p) n) a.0.1) (sym back.1) t.0, back.0)

-- ---- what was written is read again

truth_again : (b : Bool) → truth_of (truth_byte b) ≡ Some b
truth_again false = refl
truth_again true = refl

null_again : (n : Nullability) (rest : Bytes) → is_nullable n ≡ true → null_at n rest ≡ Some (raw_null, rest)
null_again NonNullable rest e = absurd cc
null_again Nullable rest e = refl

all_elements_again : (t : Ty) (xs : Raws) (rest : Bytes) → raws_number xs < 2 ^ 32 → elements_with (value_at t) (raws_number xs) (elements_bytes t xs ++ rest) ≡ Some (xs, rest)
    → all_elements_with (value_at t) ((number_bytes (raws_number xs) ++ elements_bytes t xs) ++ rest) ≡ Some (xs, rest)
unfolding all_elements_with
all_elements_again t xs rest lt elements =
    ap (all_elements_with (value_at t)) (append_assoc (number_bytes (raws_number xs)) (elements_bytes t xs) rest) ∙ rw (number_again (raws_number xs) (elements_bytes t xs ++ rest) lt, elements) refl

mutual
  unfolding kind_at elements_with fits

  pub value_again : (x : Raw) (t : Ty) (rest : Bytes) → fits x t ≡ true → TextsAre IsText x → value_at t (value_bytes t x ++ rest) ≡ Some (x, rest)
  value_again raw_null t rest fit texts = null_again (nullability_of t) rest fit
  value_again (raw_bool b) (bool_ty n) rest fit texts = rw (truth_again b) refl
  value_again (raw_bool b) (int_ty p n) rest fit texts = absurd cc
  value_again (raw_bool b) (text_ty n) rest fit texts = absurd cc
  value_again (raw_bool b) (list_ty e n) rest fit texts = absurd cc
  value_again (raw_bool b) (struct_ty fs n) rest fit texts = absurd cc
  value_again (raw_int i) (bool_ty n) rest fit texts = absurd cc
  value_again (raw_int i) (int_ty p n) rest fit texts = rw (integer_again p i rest fit) refl
  value_again (raw_int i) (text_ty n) rest fit texts = absurd cc
  value_again (raw_int i) (list_ty e n) rest fit texts = absurd cc
  value_again (raw_int i) (struct_ty fs n) rest fit texts = absurd cc
  value_again (raw_text s) (bool_ty n) rest fit texts = absurd cc
  value_again (raw_text s) (int_ty p n) rest fit texts = absurd cc
  value_again (raw_text s) (text_ty n) rest fit texts = rw (text_again s rest texts.short texts.utf8) refl
  value_again (raw_text s) (list_ty e n) rest fit texts = absurd cc
  value_again (raw_text s) (struct_ty fs n) rest fit texts = absurd cc
  value_again (raw_list xs) (bool_ty n) rest fit texts = absurd cc
  value_again (raw_list xs) (int_ty p n) rest fit texts = absurd cc
  value_again (raw_list xs) (text_ty n) rest fit texts = absurd cc
  value_again (raw_list xs) (list_ty e n) rest fit texts =
      let all = all_elements_again e xs rest texts.0 (elements_again xs e rest fit texts.1) in
      ap (λ o. o >>= λ ys. Some (raw_list ys.0, ys.1)) all
  value_again (raw_list xs) (struct_ty fs n) rest fit texts = absurd cc
  value_again (raw_struct xs) (bool_ty n) rest fit texts = absurd cc
  value_again (raw_struct xs) (int_ty p n) rest fit texts = absurd cc
  value_again (raw_struct xs) (text_ty n) rest fit texts = absurd cc
  value_again (raw_struct xs) (list_ty e n) rest fit texts = absurd cc
  value_again (raw_struct xs) (struct_ty fs n) rest fit texts = ap (λ o. o >>= λ ys. Some (raw_struct ys.0, ys.1)) (members_again xs fs rest fit texts)

  elements_again : (xs : Raws) (t : Ty) (rest : Bytes) → all_fit xs t ≡ true → AllTextsAre IsText xs → elements_with (value_at t) (raws_number xs) (elements_bytes t xs ++ rest) ≡ Some (xs, rest)
  elements_again no_raws t rest fit texts = refl
  elements_again (raw x xs) t rest fit texts =
      let k : 1 + raws_number xs ≡ suc (raws_number xs) = omega arith in
      let both = both_true (fits x t) (all_fit xs t) fit in
      ap (λ i. elements_with (value_at t) i ((value_bytes t x ++ elements_bytes t xs) ++ rest)) k
      ∙ ap (elements_with (value_at t) (suc (raws_number xs))) (append_assoc (value_bytes t x) (elements_bytes t xs) rest)
      ∙ ap (λ o. o >>= λ y. elements_with (value_at t) (raws_number xs) y.1 >>= λ ys. Some (raw y.0 ys.0, ys.1)) (value_again x t (elements_bytes t xs ++ rest) both.0 texts.0)
      ∙ ap (λ o. o >>= λ ys. Some (raw x ys.0, ys.1)) (elements_again xs t rest both.1 texts.1)

  members_again : (xs : Raws) (fs : Fields) (rest : Bytes) → fields_fit xs fs ≡ true → AllTextsAre IsText xs → members_at fs (members_bytes fs xs ++ rest) ≡ Some (xs, rest)
  members_again no_raws no_fields rest fit texts = refl
  members_again no_raws (field f t fs) rest fit texts = absurd cc
  members_again (raw x xs) no_fields rest fit texts = absurd cc
  members_again (raw x xs) (field f t fs) rest fit texts =
      let both = both_true (fits x t) (fields_fit xs fs) fit in
      ap (members_at (field f t fs)) (append_assoc (value_bytes t x) (members_bytes fs xs) rest)
      ∙ ap (λ o. o >>= λ y. members_at fs y.1 >>= λ ys. Some (raw y.0 ys.0, ys.1)) (value_again x t (members_bytes fs xs ++ rest) both.0 texts.0)
      ∙ ap (λ o. o >>= λ ys. Some (raw x ys.0, ys.1)) (members_again xs fs rest both.1 texts.1)

-- ---- what is read is spelled so

truth_takes : (b : ℕ) (truth : Bool) → truth_of b ≡ Some truth → truth_byte truth ≡ b
truth_takes zero truth e = ap truth_byte (sym (some_is false truth e))
truth_takes (suc zero) truth e = ap truth_byte (sym (some_is true truth e))
truth_takes (suc (suc b)) truth e = absurd cc

-- a value of a type that was taken from the front
pub record TakesValue (t : Ty) (bytes : Bytes) (x : Raw) (rest : Bytes) : Type 0 where
  pub taken : Takes bytes (value_bytes t x) rest
  pub fit : fits x t ≡ true
  pub texts : TextsAre IsText x

abbrev ReadsValues : Ty → (Bytes → Option (Raw × Bytes)) → Type 0
ReadsValues t read = (bytes : Bytes) (x : Raw × Bytes) → IsBytes bytes → read bytes ≡ Some x → TakesValue t bytes x.0 x.1

-- what a kind has, behind the byte that says that the value isn't null
abbrev ReadsKind : Ty → (Bytes → Option (Raw × Bytes)) → Type 0
ReadsKind t read = (bytes : Bytes) (x : Raw × Bytes) → IsBytes bytes → read bytes ≡ Some x → TakesValue t (1 ∷ bytes) x.0 x.1

null_takes : (t : Ty) (rest : Bytes) (x : Raw × Bytes) → IsBytes rest → null_at (nullability_of t) rest ≡ Some x → TakesValue t (0 ∷ rest) x.0 x.1
unfolding fits
null_takes t rest x here e = from (nullability_of t) refl e
  where
    from : (n : Nullability) → nullability_of t ≡ n → null_at n rest ≡ Some x → TakesValue t (0 ∷ rest) x.0 x.1
    from NonNullable is e = absurd cc
    from Nullable is e = subst (λ (y : Raw × Bytes). TakesValue t (0 ∷ rest) y.0 y.1) (some_is (raw_null, rest) x e) (record { taken = record { parts = refl; fits = here }; fit = ap is_nullable is; texts = tt })

marked_takes : (t : Ty) (kind : Bytes → Option (Raw × Bytes)) → ReadsKind t kind → ReadsValues t (marked_with (nullability_of t) kind)
marked_takes t kind reads [] x here e = absurd cc
marked_takes t kind reads (zero ∷ rest) x here e = null_takes t rest x (IsBytes-rest 0 rest here) e
marked_takes t kind reads (suc zero ∷ rest) x here e = reads rest x (IsBytes-rest 1 rest here) e
marked_takes t kind reads (suc (suc mark) ∷ rest) x here e = absurd cc

-- elements that were taken from the front
record TakesElements (t : Ty) (k : ℕ) (bytes : Bytes) (xs : Raws) (rest : Bytes) : Type 0 where
  taken : Takes bytes (elements_bytes t xs) rest
  fit : all_fit xs t ≡ true
  texts : AllTextsAre IsText xs
  number : raws_number xs ≡ k

elements_take : (t : Ty) (read : Bytes → Option (Raw × Bytes)) → ReadsValues t read → (k : ℕ) (bytes : Bytes) (x : Raws × Bytes) → IsBytes bytes → elements_with read k bytes ≡ Some x → TakesElements t k bytes x.0 x.1
unfolding elements_with fits
elements_take t read reads zero bytes x here e =
    subst (λ (y : Raws × Bytes). TakesElements t 0 bytes y.0 y.1) (some_is (no_raws, bytes) x e) (record { taken = record { parts = refl; fits = here }; fit = refl; texts = tt; number = refl })
elements_take t read reads (suc k) bytes x here e =
    let a = bind_some (read bytes) (λ y. elements_with read k y.1 >>= λ ys. Some (raw y.0 ys.0, ys.1)) x e in
    let b = bind_some (elements_with read k a.0.1) (λ ys. Some (raw a.0.0 ys.0, ys.1)) x a.2 in
    let first = reads bytes a.0 here a.1 in
    let others = elements_take t read reads k a.0.1 b.0 first.taken.fits b.1 in
    let made : Raws × Bytes = (raw a.0.0 b.0.0, b.0.1) in
    subst (λ (y : Raws × Bytes). TakesElements t (suc k) bytes y.0 y.1) (some_is made x b.2) (record {
      taken = Takes-then bytes (value_bytes t a.0.0) a.0.1 (elements_bytes t b.0.0) b.0.1 first.taken others.taken;
      fit = rw (first.fit, others.fit) refl;
      texts = (first.texts, others.texts);
      number = omega (arith, others.number);
    })

-- a value for each field that was taken from the front
record TakesMembers (fs : Fields) (bytes : Bytes) (xs : Raws) (rest : Bytes) : Type 0 where
  taken : Takes bytes (members_bytes fs xs) rest
  fit : fields_fit xs fs ≡ true
  texts : AllTextsAre IsText xs

-- one byte before what was taken
behind_one : (bytes text rest : Bytes) → Takes bytes text rest → Takes (1 ∷ bytes) (1 ∷ text) rest
behind_one bytes text rest t = record { parts = ap (λ (b : Bytes). 1 ∷ b) t.parts; fits = t.fits }

bool_takes : (n : Nullability) → ReadsKind (bool_ty n) (kind_at (bool_ty n))
unfolding kind_at fits
bool_takes n [] x here e = absurd cc
bool_takes n (b ∷ rest) x here e =
    let a = bind_some (truth_of b) (λ truth. Some (raw_bool truth, rest)) x e in
    let parts : 1 ∷ b ∷ rest ≡ 1 ∷ truth_byte a.0 ∷ rest = ap (λ c. 1 ∷ c ∷ rest) (sym (truth_takes b a.0 a.1)) in
    subst (λ (y : Raw × Bytes). TakesValue (bool_ty n) (1 ∷ b ∷ rest) y.0 y.1) (some_is (raw_bool a.0, rest) x a.2) (record { taken = record { parts = parts; fits = IsBytes-rest b rest here }; fit = refl; texts = tt })

int_takes : (p : PType) (n : Nullability) → ReadsKind (int_ty p n) (kind_at (int_ty p n))
unfolding kind_at fits
int_takes p n bytes x here e =
    let a = bind_some (integer_at p bytes) (λ i. Some (raw_int i.0, i.1)) x e in
    let t = integer_takes p bytes a.0 here a.1 in
    subst (λ (y : Raw × Bytes). TakesValue (int_ty p n) (1 ∷ bytes) y.0 y.1) (some_is (raw_int a.0.0, a.0.1) x a.2) (record { taken = behind_one bytes (integer_bytes p a.0.0) a.0.1 t.0; fit = t.1; texts = tt })

text_value_takes : (n : Nullability) → ReadsKind (text_ty n) (kind_at (text_ty n))
unfolding kind_at fits
text_value_takes n bytes x here e =
    let a = bind_some (text_at bytes) (λ s. Some (raw_text s.0, s.1)) x e in
    let t = text_takes bytes a.0 here a.1 in
    subst (λ (y : Raw × Bytes). TakesValue (text_ty n) (1 ∷ bytes) y.0 y.1) (some_is (raw_text a.0.0, a.0.1) x a.2)
    (record { taken = behind_one bytes (piece_bytes a.0.0) a.0.1 t.0; fit = refl; texts = record { utf8 = t.2; short = t.1 } })

list_takes : (t : Ty) (n : Nullability) (read : Bytes → Option (Raw × Bytes)) → ReadsValues t read → ReadsKind (list_ty t n) (list_value_with read)
unfolding all_elements_with fits
list_takes t n read reads bytes x here e =
    let a = bind_some (all_elements_with read bytes) (λ xs. Some (raw_list xs.0, xs.1)) x e in
    let b = bind_some (number_at bytes) (λ k. elements_with read k.0 k.1) a.0 a.1 in
    let number = number_takes bytes b.0 here b.1 in
    let xs = elements_take t read reads b.0.0 b.0.1 a.0 number.0.fits b.2 in
    let both = Takes-then bytes (number_bytes b.0.0) b.0.1 (elements_bytes t a.0.0) a.0.1 number.0 xs.taken in
    let text : Takes bytes (number_bytes (raws_number a.0.0) ++ elements_bytes t a.0.0) a.0.1 = subst (λ k. Takes bytes (number_bytes k ++ elements_bytes t a.0.0) a.0.1) (sym xs.number) both in
    subst (λ (y : Raw × Bytes). TakesValue (list_ty t n) (1 ∷ bytes) y.0 y.1) (some_is (raw_list a.0.0, a.0.1) x a.2)
    (record { taken = behind_one bytes (number_bytes (raws_number a.0.0) ++ elements_bytes t a.0.0) a.0.1 text; fit = xs.fit; texts = (omega (arith, number.1, xs.number), xs.texts) })

mutual
  unfolding kind_at fits

  kind_takes : (t : Ty) → ReadsKind t (kind_at t)
  kind_takes (bool_ty n) bytes x here e = bool_takes n bytes x here e
  kind_takes (int_ty p n) bytes x here e = int_takes p n bytes x here e
  kind_takes (text_ty n) bytes x here e = text_value_takes n bytes x here e
  kind_takes (list_ty t n) bytes x here e = list_takes t n (value_at t) (marked_takes t (kind_at t) (kind_takes t)) bytes x here e
  kind_takes (struct_ty fs n) bytes x here e =
      let a = bind_some (members_at fs bytes) (λ xs. Some (raw_struct xs.0, xs.1)) x e in
      let t = members_take fs bytes a.0 here a.1 in
      subst (λ (y : Raw × Bytes). TakesValue (struct_ty fs n) (1 ∷ bytes) y.0 y.1) (some_is (raw_struct a.0.0, a.0.1) x a.2) (record { taken = behind_one bytes (members_bytes fs a.0.0) a.0.1 t.taken; fit = t.fit; texts = t.texts })

  members_take : (fs : Fields) (bytes : Bytes) (x : Raws × Bytes) → IsBytes bytes → members_at fs bytes ≡ Some x → TakesMembers fs bytes x.0 x.1
  members_take no_fields bytes x here e = subst (λ (y : Raws × Bytes). TakesMembers no_fields bytes y.0 y.1) (some_is (no_raws, bytes) x e) (record { taken = record { parts = refl; fits = here }; fit = refl; texts = tt })
  members_take (field f t fs) bytes x here e =
      let a = bind_some (value_at t bytes) (λ y. members_at fs y.1 >>= λ ys. Some (raw y.0 ys.0, ys.1)) x e in
      let b = bind_some (members_at fs a.0.1) (λ ys. Some (raw a.0.0 ys.0, ys.1)) x a.2 in
      let first = marked_takes t (kind_at t) (kind_takes t) bytes a.0 here a.1 in
      let others = members_take fs a.0.1 b.0 first.taken.fits b.1 in
      let made : Raws × Bytes = (raw a.0.0 b.0.0, b.0.1) in
      subst (λ (y : Raws × Bytes). TakesMembers (field f t fs) bytes y.0 y.1) (some_is made x b.2) (record {
        taken = Takes-then bytes (value_bytes t a.0.0) a.0.1 (members_bytes fs b.0.0) b.0.1 first.taken others.taken;
        fit = rw (first.fit, others.fit) refl;
        texts = (first.texts, others.texts);
      })

pub value_takes : (t : Ty) → ReadsValues t (value_at t)
value_takes t bytes x here e = marked_takes t (kind_at t) (kind_takes t) bytes x here e
