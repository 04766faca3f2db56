-- A type that is read is the type that was written, and what was written is read again.
use Rattle.std.proofs.Common.{◌≡◌, ℕ, zero, suc, ◌+◌, ◌≤◌, [], ◌∷◌, ◌++◌, Option, Some, refl, sym, ap, subst, ◌∙◌, append_assoc, arith}
use Rattle.vx_dtype.specs.Types.{Bytes, Ty, bool_ty, int_ty, text_ty, list_ty, struct_ty, Fields, no_fields, field}
use Rattle.vx_dtype.specs.declared.PType.{PType}
use Rattle.vx_dtype.specs.declared.PType.TheVariants.{U8, U16, U32, U64, I8, I16, I32, I64}
use Rattle.vx_dtype.specs.declared.Nullability.{Nullability}
use Rattle.vx_dtype.specs.declared.Nullability.TheVariants.{NonNullable, Nullable}
use Rattle.vx_dtype.specs.TypeRules.{depth_of, depth_below, null_number, ptype_number, null_numbered, ptype_numbered}
use Rattle.vx_wire_bytes.specs.Numbers.{number_bytes, piece_bytes}
use Rattle.vx_wire_bytes.specs.TypeForms.{fields_number, type_bytes, fields_bytes, HasNames, HaveNames}
use Rattle.vx_wire_bytes.specs.Reading.{◌>>=◌, number_at, text_at}
use Rattle.vx_wire_bytes.specs.TypeReading.{fields_with, all_fields_with, kind_with, type_at}
use Rattle.vx_wire_bytes.proofs.NumberLemmas.{IsBytes, IsBytes-rest, bind_some, some_is, Takes, Takes-then, number_takes, number_again}
use Rattle.vx_wire_bytes.proofs.HeadLemmas.{text_takes, text_again}

-- ---- what was written is read again

nullability_again : (n : Nullability) → null_numbered (null_number n) ≡ Some n
nullability_again NonNullable = refl
nullability_again Nullable = refl

width_again : (p : PType) → ptype_numbered (ptype_number p) ≡ Some p
width_again U8 = refl
width_again U16 = refl
width_again U32 = refl
width_again U64 = refl
width_again I8 = refl
width_again I16 = refl
width_again I32 = refl
width_again I64 = refl

all_fields_again : (fs : Fields) (deep : ℕ) (rest : Bytes) → number_at (number_bytes (fields_number fs) ++ (fields_bytes fs ++ rest)) ≡ Some (fields_number fs, fields_bytes fs ++ rest)
    → fields_with (type_at deep) (fields_number fs) (fields_bytes fs ++ rest) ≡ Some (fs, rest)
    → all_fields_with (type_at deep) ((number_bytes (fields_number fs) ++ fields_bytes fs) ++ rest) ≡ Some (fs, rest)
unfolding all_fields_with
all_fields_again fs deep rest number fields = ap (all_fields_with (type_at deep)) (append_assoc (number_bytes (fields_number fs)) (fields_bytes fs) rest) ∙ rw (number, fields) refl

mutual
  unfolding type_at fields_with depth_of

  pub type_again : (t : Ty) (deep : ℕ) (rest : Bytes) → HasNames t → depth_of t ≤ deep → type_at deep (type_bytes t ++ rest) ≡ Some (t, rest)
  type_again (bool_ty n) zero rest names le = absurd (omega arith)
  type_again (bool_ty n) (suc deep) rest names le = rw (nullability_again n) refl
  type_again (int_ty p n) zero rest names le = absurd (omega arith)
  type_again (int_ty p n) (suc deep) rest names le = rw (nullability_again n, width_again p) refl
  type_again (text_ty n) zero rest names le = absurd (omega arith)
  type_again (text_ty n) (suc deep) rest names le = rw (nullability_again n) refl
  type_again (list_ty e n) zero rest names le = absurd (omega arith)
  type_again (list_ty e n) (suc deep) rest names le = rw (nullability_again n, type_again e deep rest names (omega arith)) refl
  type_again (struct_ty fs n) zero rest names le = absurd (omega arith)
  type_again (struct_ty fs n) (suc deep) rest names le =
      let all = all_fields_again fs deep rest (number_again (fields_number fs) (fields_bytes fs ++ rest) names.0) (fields_again fs deep rest names.1 (omega arith)) in
      rw (nullability_again n, all) refl

  pub fields_again : (fs : Fields) (deep : ℕ) (rest : Bytes) → HaveNames fs → depth_below fs ≤ deep → fields_with (type_at deep) (fields_number fs) (fields_bytes fs ++ rest) ≡ Some (fs, rest)
  fields_again no_fields deep rest names le = refl
  fields_again (field f t fs) deep rest names le =
      let k : 1 + fields_number fs ≡ suc (fields_number fs) = omega arith in
      let regrouped : (piece_bytes f ++ (type_bytes t ++ fields_bytes fs)) ++ rest ≡ piece_bytes f ++ (type_bytes t ++ (fields_bytes fs ++ rest)) =
      append_assoc (piece_bytes f) (type_bytes t ++ fields_bytes fs) rest ∙ ap (λ (b : Bytes). piece_bytes f ++ b) (append_assoc (type_bytes t) (fields_bytes fs) rest) in
      ap (λ i. fields_with (type_at deep) i ((piece_bytes f ++ (type_bytes t ++ fields_bytes fs)) ++ rest)) k
      ∙ ap (fields_with (type_at deep) (suc (fields_number fs))) regrouped
      ∙ rw (text_again f (type_bytes t ++ (fields_bytes fs ++ rest)) names.0.short names.0.utf8, type_again t deep (fields_bytes fs ++ rest) names.1 (omega arith), fields_again fs deep rest names.2 (omega arith)) refl

-- ---- what is read is spelled so

nullability_takes : (b : ℕ) (n : Nullability) → null_numbered b ≡ Some n → null_number n ≡ b
nullability_takes zero n e = ap null_number (sym (some_is NonNullable n e))
nullability_takes (suc zero) n e = ap null_number (sym (some_is Nullable n e))
nullability_takes (suc (suc b)) n e = absurd cc

width_takes : (b : ℕ) (p : PType) → ptype_numbered b ≡ Some p → ptype_number p ≡ b
width_takes zero p e = ap ptype_number (sym (some_is U8 p e))
width_takes (suc zero) p e = ap ptype_number (sym (some_is U16 p e))
width_takes (suc (suc zero)) p e = ap ptype_number (sym (some_is U32 p e))
width_takes (suc (suc (suc zero))) p e = ap ptype_number (sym (some_is U64 p e))
width_takes (suc (suc (suc (suc zero)))) p e = ap ptype_number (sym (some_is I8 p e))
width_takes (suc (suc (suc (suc (suc zero))))) p e = ap ptype_number (sym (some_is I16 p e))
width_takes (suc (suc (suc (suc (suc (suc zero)))))) p e = ap ptype_number (sym (some_is I32 p e))
width_takes (suc (suc (suc (suc (suc (suc (suc zero))))))) p e = ap ptype_number (sym (some_is I64 p e))
width_takes (suc (suc (suc (suc (suc (suc (suc (suc b)))))))) p e = absurd cc

-- a type that was taken from the front, no deeper than so much
pub record TakesType (deep : ℕ) (bytes : Bytes) (t : Ty) (rest : Bytes) : Type 0 where
  pub taken : Takes bytes (type_bytes t) rest
  pub names : HasNames t
  pub depth : depth_of t ≤ deep

abbrev pub ReadsTypes : ℕ → (Bytes → Option (Ty × Bytes)) → Type 0
ReadsTypes deep read = (bytes : Bytes) (x : Ty × Bytes) → IsBytes bytes → read bytes ≡ Some x → TakesType deep bytes x.0 x.1

-- fields that were taken from the front
pub record TakesFields (deep k : ℕ) (bytes : Bytes) (fs : Fields) (rest : Bytes) : Type 0 where
  pub taken : Takes bytes (fields_bytes fs) rest
  pub names : HaveNames fs
  pub number : fields_number fs ≡ k
  pub depth : depth_below fs ≤ deep

pub fields_take : (deep : ℕ) (read : Bytes → Option (Ty × Bytes)) → ReadsTypes deep read → (k : ℕ) (bytes : Bytes) (x : Fields × Bytes) → IsBytes bytes → fields_with read k bytes ≡ Some x → TakesFields deep k bytes x.0 x.1
unfolding fields_with depth_of
fields_take deep read reads zero bytes x fits e =
    subst (λ (y : Fields × Bytes). TakesFields deep 0 bytes y.0 y.1) (some_is (no_fields, bytes) x e) (record { taken = record { parts = refl; fits = fits }; names = tt; number = refl; depth = omega arith })
fields_take deep read reads (suc k) bytes x fits e =
    let a = bind_some (text_at bytes) (λ f. read f.1 >>= λ t. fields_with read k t.1 >>= λ fs. Some (field f.0 t.0 fs.0, fs.1)) x e in
    let b = bind_some (read a.0.1) (λ t. fields_with read k t.1 >>= λ fs. Some (field a.0.0 t.0 fs.0, fs.1)) x a.2 in
    let c = bind_some (fields_with read k b.0.1) (λ fs. Some (field a.0.0 b.0.0 fs.0, fs.1)) x b.2 in
    let name = text_takes bytes a.0 fits a.1 in
    let type = reads a.0.1 b.0 name.0.fits b.1 in
    let others = fields_take deep read reads k b.0.1 c.0 type.taken.fits c.1 in
    let both = Takes-then a.0.1 (type_bytes b.0.0) b.0.1 (fields_bytes c.0.0) c.0.1 type.taken others.taken in
    let all = Takes-then bytes (piece_bytes a.0.0) a.0.1 (type_bytes b.0.0 ++ fields_bytes c.0.0) c.0.1 name.0 both in
    let made : Fields × Bytes = (field a.0.0 b.0.0 c.0.0, c.0.1) in
    subst (λ (y : Fields × Bytes). TakesFields deep (suc k) bytes y.0 y.1) (some_is made x c.2)
    (record { taken = all; names = (record { utf8 = name.2; short = name.1 }, type.names, others.names); number = omega (arith, others.number); depth = omega (arith, type.depth, others.depth) })

-- the two bytes before what a kind has
tagged : (tag null : ℕ) (n : Nullability) (text rest left : Bytes) → null_number n ≡ null → Takes rest text left → Takes (tag ∷ null ∷ rest) (tag ∷ null_number n ∷ text) left
tagged tag null n text rest left e t = record { parts = ap (λ (b : Bytes). tag ∷ null ∷ b) t.parts ∙ ap (λ b. tag ∷ b ∷ (text ++ left)) (sym e); fits = t.fits }

kind_takes : (deep : ℕ) (read : Bytes → Option (Ty × Bytes)) → ReadsTypes deep read → (tag null : ℕ) (n : Nullability) (rest : Bytes) (x : Ty × Bytes) → IsBytes rest → null_number n ≡ null → kind_with read tag n rest ≡ Some x → TakesType (suc deep) (tag ∷ null ∷ rest) x.0 x.1
unfolding depth_of all_fields_with
kind_takes deep read reads zero null n rest x fits is e =
    subst (λ (y : Ty × Bytes). TakesType (suc deep) (0 ∷ null ∷ rest) y.0 y.1) (some_is (bool_ty n, rest) x e)
    (record { taken = tagged 0 null n [] rest rest is (record { parts = refl; fits = fits }); names = tt; depth = omega arith })
kind_takes deep read reads (suc zero) null n [] x fits is e = absurd cc
kind_takes deep read reads (suc zero) null n (w ∷ rest) x fits is e =
    let a = bind_some (ptype_numbered w) (λ p. Some (int_ty p n, rest)) x e in
    let width = width_takes w a.0 a.1 in
    subst (λ (y : Ty × Bytes). TakesType (suc deep) (1 ∷ null ∷ w ∷ rest) y.0 y.1) (some_is (int_ty a.0 n, rest) x a.2)
    (record { taken = tagged 1 null n (ptype_number a.0 ∷ []) (w ∷ rest) rest is (record { parts = ap (λ b. b ∷ rest) (sym width); fits = IsBytes-rest w rest fits }); names = tt; depth = omega arith })
kind_takes deep read reads (suc (suc zero)) null n rest x fits is e =
    subst (λ (y : Ty × Bytes). TakesType (suc deep) (2 ∷ null ∷ rest) y.0 y.1) (some_is (text_ty n, rest) x e)
    (record { taken = tagged 2 null n [] rest rest is (record { parts = refl; fits = fits }); names = tt; depth = omega arith })
kind_takes deep read reads (suc (suc (suc zero))) null n rest x fits is e =
    let a = bind_some (read rest) (λ e. Some (list_ty e.0 n, e.1)) x e in
    let t = reads rest a.0 fits a.1 in
    subst (λ (y : Ty × Bytes). TakesType (suc deep) (3 ∷ null ∷ rest) y.0 y.1) (some_is (list_ty a.0.0 n, a.0.1) x a.2)
    (record { taken = tagged 3 null n (type_bytes a.0.0) rest a.0.1 is t.taken; names = t.names; depth = omega (arith, t.depth) })
kind_takes deep read reads (suc (suc (suc (suc zero)))) null n rest x fits is e =
    let a = bind_some (all_fields_with read rest) (λ fs. Some (struct_ty fs.0 n, fs.1)) x e in
    let b = bind_some (number_at rest) (λ k. fields_with read k.0 k.1) a.0 a.1 in
    let number = number_takes rest b.0 fits b.1 in
    let fs = fields_take deep read reads b.0.0 b.0.1 a.0 number.0.fits b.2 in
    let both = Takes-then rest (number_bytes b.0.0) b.0.1 (fields_bytes a.0.0) a.0.1 number.0 fs.taken in
    let text : Takes rest (number_bytes (fields_number a.0.0) ++ fields_bytes a.0.0) a.0.1 = subst (λ k. Takes rest (number_bytes k ++ fields_bytes a.0.0) a.0.1) (sym fs.number) both in
    subst (λ (y : Ty × Bytes). TakesType (suc deep) (4 ∷ null ∷ rest) y.0 y.1) (some_is (struct_ty a.0.0 n, a.0.1) x a.2)
    (record { taken = tagged 4 null n (number_bytes (fields_number a.0.0) ++ fields_bytes a.0.0) rest a.0.1 is text; names = (omega (arith, number.1, fs.number), fs.names); depth = omega (arith, fs.depth) })
kind_takes deep read reads (suc (suc (suc (suc (suc tag))))) null n rest x fits is e = absurd cc

pub type_takes : (deep : ℕ) → ReadsTypes deep (type_at deep)
unfolding type_at
type_takes zero bytes x fits e = absurd cc
type_takes (suc deep) [] x fits e = absurd cc
type_takes (suc deep) (tag ∷ []) x fits e = absurd cc
type_takes (suc deep) (tag ∷ null ∷ rest) x fits e =
    let a = bind_some (null_numbered null) (λ n. kind_with (type_at deep) tag n rest) x e in
    kind_takes deep (type_at deep) (type_takes deep) tag null a.0 rest x (IsBytes-rest null rest (IsBytes-rest tag (null ∷ rest) fits)) (nullability_takes null a.0 a.1) a.2
