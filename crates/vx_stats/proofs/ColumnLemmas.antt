-- Columns of the blocks of a field: their types, and those of the fields below it.
use Rattle.std.proofs.Common.{◌≡◌, refl, ap, sym, ◌∙◌, ℕ, zero, suc, ◌+◌, ◌<◌, Bool, true, false, cond, not, ◌&&◌, ◌||◌, Option, Some, None, subst, List, [], ◌∷◌, map, length, get_or, arith}
use Rattle.std.specs.Prelude.{unwrap_or, is_some}
use Rattle.std.specs.List.{AllByRecursion, slice_get}
use Rattle.std.specs.Str.{bytes_eq}
use Rattle.std.proofs.lemmas.Bool.{and_parts}
use Rattle.std.proofs.lemmas.Slice.Eq.{bytes_eq-Decides}
use Rattle.vx_dtype.specs.EqualLaws.{bytes_eq_equiv}
use Rattle.vx_dtype.specs.declared.Nullability.{Nullability}
use Rattle.vx_dtype.specs.declared.Nullability.TheVariants.{Nullable}
use Rattle.vx_dtype.specs.Types.{Bytes, Ty, bool_ty, int_ty, text_ty, list_ty, struct_ty, Fields, no_fields, field}
use Rattle.vx_dtype.specs.TypeRules.{is_plain, with_nullability, nullability_of, widened, fields_of, field_names, field_type, has_name, distinct_names, no_name_twice, no_name_twice_below}
use Rattle.vx_dtype.specs.StructTypes.{is_struct_ty, field_types}
use Rattle.vx_dtype.specs.Structs.{field_of}
use Rattle.vx_dtype.proofs.DistinctLemmas.{not_found}
use Rattle.vx_column.specs.Columns.{Column}
use Rattle.vx_laws_stats.proofs.LeafFacts.{other-name}
use Rattle.vx_stats.specs.ColumnFacts.{AreOf, AreStructs, HaveField, column_rows, field_column_of}

-- what holds of each holds of the one at a place
pub each-at : {X : Type 0} (P : X → Type 0) (xs : List X) (i : ℕ) (d : X) → AllByRecursion P xs → i < length xs → P (get_or xs i d)
each-at P [] i d h k = absurd (omega (arith, k))
each-at P (x ∷ xs) zero d h k = h.0
each-at P (x ∷ xs) (suc i) d h k = each-at P xs i d h.1 (omega (arith, k))

-- a type that is another but for nulls is plain where the other is, and a struct of the same fields
plain-with : (t : Ty) → is_plain (with_nullability t Nullable) ≡ is_plain t
plain-with (bool_ty n) = refl
plain-with (int_ty p n) = refl
plain-with (text_ty n) = refl
plain-with (list_ty e n) = refl
plain-with (struct_ty fs n) = refl

pub plain-alike : (s t : Ty) → with_nullability s Nullable ≡ with_nullability t Nullable → is_plain t ≡ true → is_plain s ≡ true
plain-alike s t e h = sym (plain-with s) ∙ ap is_plain e ∙ plain-with t ∙ h

struct-alike : (s : Ty) (fs : Fields) (n : Nullability) → with_nullability s Nullable ≡ with_nullability (struct_ty fs n) Nullable → (is_struct_ty s ≡ true) × (fields_of s ≡ fs)
struct-alike (struct_ty gs m) fs n e = let same : gs ≡ fs = cc in (refl, same)
struct-alike (bool_ty m) fs n e = let no : ⊥ = cc in absurd no
struct-alike (int_ty p m) fs n e = let no : ⊥ = cc in absurd no
struct-alike (text_ty m) fs n e = let no : ⊥ = cc in absurd no
struct-alike (list_ty d m) fs n e = let no : ⊥ = cc in absurd no

pub structs-alike : (fs : Fields) (n : Nullability) (cs : List Column) → AreOf (struct_ty fs n) cs → AreStructs fs cs
structs-alike fs n [] h = tt
structs-alike fs n (c ∷ cs) h = (struct-alike c.ty fs n h.0, structs-alike fs n cs h.1)

widened-with : (t : Ty) (n : Nullability) → with_nullability (widened t n) Nullable ≡ with_nullability t Nullable
widened-with (bool_ty m) n = refl
widened-with (int_ty p m) n = refl
widened-with (text_ty m) n = refl
widened-with (list_ty e m) n = refl
widened-with (struct_ty fs m) n = refl

-- where names are distinct, the type at a place is that of the name there
pub named-in : (fs : Fields) (i : ℕ) (f : Bytes) → slice_get (field_names fs) i ≡ Some f → has_name f (field_names fs) ≡ true
named-in no_fields i f e = let no : ⊥ = cc in absurd no
named-in (field g u fs) zero f e = let same : g ≡ f = cc in ap (λ (b : Bool). b || has_name f (field_names fs)) ((bytes_eq-Decides f g).1 (sym same))
named-in (field g u fs) (suc i) f e = or_second (bytes_eq f g) (has_name f (field_names fs)) (named-in fs i f e)
  where
    or_second : (a b : Bool) → b ≡ true → (a || b) ≡ true
    or_second true b h = refl
    or_second false b h = h

pub type-of-name : (fs : Fields) (i : ℕ) (f : Bytes) (t : Ty) → distinct_names (field_names fs) ≡ true → slice_get (field_names fs) i ≡ Some f → slice_get (field_types fs) i ≡ Some t → field_type f fs ≡ Some t
type-of-name no_fields i f t d e k = let no : ⊥ = cc in absurd no
type-of-name (field g u fs) zero f t d e k =
    let same : g ≡ f = cc in
    ap (λ (b : Bool). cond b (Some u) (field_type f fs)) ((bytes_eq-Decides f g).1 (sym same)) ∙ k
type-of-name (field g u fs) (suc i) f t d e k =
    let names = and_parts (not (has_name g (field_names fs))) (distinct_names (field_names fs)) d in
    let apart = other-name g f (field_names fs) (not_found (has_name g (field_names fs)) names.0) (named-in fs i f e) in
    ap (λ (b : Bool). cond b (Some u) (field_type f fs)) apart ∙ type-of-name fs i f t names.1 e k

pub have-field : (f : Bytes) (fs : Fields) (t : Ty) (cs : List Column) → field_type f fs ≡ Some t → AreStructs fs cs → HaveField f cs
have-field f fs t [] e h = tt
have-field f fs t (c ∷ cs) e h = ((h.0.0, ap (λ (gs : Fields). is_some (field_type f gs)) h.0.1 ∙ ap is_some e), have-field f fs t cs e h.1)

pub fields-alike : (f : Bytes) (fs : Fields) (t : Ty) (cs : List Column) → field_type f fs ≡ Some t → AreStructs fs cs → AreOf t (map (field_column_of f) cs)
fields-alike f fs t [] e h = tt
fields-alike f fs t (c ∷ cs) e h =
    let found : unwrap_or (field_type f (fields_of c.ty)) c.ty ≡ t =
    ap (λ (gs : Fields). unwrap_or (field_type f gs) c.ty) h.0.1 ∙ ap (λ (o : Option Ty). unwrap_or o c.ty) e in (
      widened-with (unwrap_or (field_type f (fields_of c.ty)) c.ty) (nullability_of c.ty) ∙ ap (λ (u : Ty). with_nullability u Nullable) found,
      fields-alike f fs t cs e h.1,
    )

pub field-rows : (f : Bytes) (cs : List Column) → column_rows (map (field_column_of f) cs) ≡ map (map (field_of f)) (column_rows cs)
field-rows f [] = refl
field-rows f (c ∷ cs) = ap (λ (vs : List _). map (field_of f) c.rows ∷ vs) (field-rows f cs)

-- no struct in the type of a field has two fields of one name, where none in those of the fields has
pub names-at : (fs : Fields) (i : ℕ) (t : Ty) → no_name_twice_below fs ≡ true → slice_get (field_types fs) i ≡ Some t → no_name_twice t ≡ true
unfolding no_name_twice
names-at no_fields i t h e = let no : ⊥ = cc in absurd no
names-at (field f u fs) zero t h e = let same : u ≡ t = cc in subst (λ (w : Ty). no_name_twice w ≡ true) same (and_parts (no_name_twice u) (no_name_twice_below fs) h).0
names-at (field f u fs) (suc i) t h e = names-at fs i t (and_parts (no_name_twice u) (no_name_twice_below fs) h).1 e

-- the names and the types of a struct's fields
pub names-in : (fs : Fields) (n : Nullability) → no_name_twice (struct_ty fs n) ≡ true → (distinct_names (field_names fs) ≡ true) × (no_name_twice_below fs ≡ true)
unfolding no_name_twice
names-in fs n h = and_parts (distinct_names (field_names fs)) (no_name_twice_below fs) h
