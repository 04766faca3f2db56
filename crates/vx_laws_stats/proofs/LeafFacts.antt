-- Where the paths of plain fields lead: each to its type, and no two are one.
use Rattle.std.proofs.Common.{◌≡◌, refl, ap, sym, ◌∙◌, Bool, true, false, cond, not, ◌||◌, Some, None, List, [], ◌∷◌, ◌++◌, map, ⊎_elim}
use Rattle.std.specs.List.{AllByRecursion}
use Rattle.std.specs.Option.{option_and_then}
use Rattle.std.specs.Str.{bytes_eq}
use Rattle.std.proofs.lemmas.Bool.{and_parts, cases_Bool}
use Rattle.std.proofs.lemmas.Slice.Eq.{bytes_eq-Decides}
use Rattle.vx_dtype.specs.declared.Nullability.{Nullability}
use Rattle.vx_dtype.specs.Types.{Bytes, Ty, bool_ty, int_ty, text_ty, list_ty, struct_ty, Fields, no_fields, field}
use Rattle.vx_dtype.specs.TypeRules.{is_plain, field_names, field_type, has_name, distinct_names, no_name_twice, no_name_twice_below}
use Rattle.vx_dtype.proofs.DistinctLemmas.{not_found}
use Rattle.vx_dtype.proofs.ValuedLemmas.{bytes_eq_refl}
use Rattle.vx_semantics.specs.Tables.{row_type}
use Rattle.vx_zones.specs.Zoning.{type_at, plain_only, leaf_type}
use Rattle.vx_laws_stats.specs.BuiltStatistics.{Leaf, under, leaves_of, leaves_below}

-- what holds of each holds of each more loosely, of each of two lists, and of each that is mapped
pub each_so : {X : Type 0} (P Q : X → Type 0) (xs : List X) → ((x : X) → P x → Q x) → AllByRecursion P xs → AllByRecursion Q xs
each_so P Q [] f h = tt
each_so P Q (x ∷ xs) f h = (f x h.0, each_so P Q xs f h.1)

pub each_both : {X : Type 0} (P : X → Type 0) (xs ys : List X) → AllByRecursion P xs → AllByRecursion P ys → AllByRecursion P (xs ++ ys)
each_both P [] ys h k = k
each_both P (x ∷ xs) ys h k = (h.0, each_both P xs ys h.1 k)

pub each_mapped : {X Y : Type 0} (P : Y → Type 0) (f : X → Y) (xs : List X) → AllByRecursion (λ x. P (f x)) xs → AllByRecursion P (map f xs)
each_mapped P f [] h = tt
each_mapped P f (x ∷ xs) h = (h.0, each_mapped P f xs h.1)

-- a plain field of a type: its path leads to its type there
pub record Leads (t : Ty) (l : Leaf) : Type 0 where
  pub found : type_at l.path t ≡ Some l.ty
  pub plain : is_plain l.ty ≡ true

-- a plain field of these fields: its path begins with the name of one of them, and the rest leads on from its type
pub record LeadsBelow (fs : Fields) (l : Leaf) : Type 0 where
  pub first : Bytes
  pub rest : List Bytes
  pub is : l.path ≡ first ∷ rest
  pub named : has_name first (field_names fs) ≡ true
  pub found : option_and_then (type_at rest) (field_type first fs) ≡ Some l.ty
  pub plain : is_plain l.ty ≡ true

from-fields : (fs : Fields) (n : Nullability) (l : Leaf) → LeadsBelow fs l → Leads (struct_ty fs n) l
from-fields fs n l b = record { found = ap (λ (p : List Bytes). type_at p (struct_ty fs n)) b.is ∙ b.found; plain = b.plain }

of-first : (f : Bytes) (t : Ty) (fs : Fields) (l : Leaf) → Leads t l → LeadsBelow (field f t fs) (under f l)
of-first f t fs l h = record {
  first = f;
  rest = l.path;
  is = refl;
  named = ap (λ b. b || has_name f (field_names fs)) (bytes_eq_refl f);
  found = ap (λ b. option_and_then (type_at l.path) (cond b (Some t) (field_type f fs))) (bytes_eq_refl f) ∙ h.found;
  plain = h.plain;
}

-- another name than those of fields is none of them
pub other-name : (f g : Bytes) (names : List Bytes) → has_name f names ≡ false → has_name g names ≡ true → bytes_eq g f ≡ false
other-name f g names h k = ⊎_elim (λ e. absurd (both-ways (same e))) (λ e. e) (cases_Bool (bytes_eq g f))
  where
    same : bytes_eq g f ≡ true → has_name g names ≡ false
    same e = ap (λ (z : Bytes). has_name z names) ((bytes_eq-Decides g f).0 e) ∙ h

    both-ways : has_name g names ≡ false → ⊥
    both-ways e = let no : true ≡ false = sym k ∙ e in cc

or_second : (a b : Bool) → b ≡ true → (a || b) ≡ true
or_second true b h = refl
or_second false b h = h

of-rest : (f : Bytes) (t : Ty) (fs : Fields) (l : Leaf) → has_name f (field_names fs) ≡ false → LeadsBelow fs l → LeadsBelow (field f t fs) l
of-rest f t fs l alone b = record {
  first = b.first;
  rest = b.rest;
  is = b.is;
  named = or_second (bytes_eq b.first f) (has_name b.first (field_names fs)) b.named;
  found =
      ap (λ (c : Bool). option_and_then (type_at b.rest) (cond c (Some t) (field_type b.first fs))) (other-name f b.first (field_names fs) alone b.named)
      ∙ b.found;
  plain = b.plain;
}

mutual
  unfolding no_name_twice

  pub leads : (t : Ty) → no_name_twice t ≡ true → AllByRecursion (Leads t) (leaves_of t)
  leads (bool_ty n) h = (record { found = refl; plain = refl }, tt)
  leads (int_ty p n) h = (record { found = refl; plain = refl }, tt)
  leads (text_ty n) h = (record { found = refl; plain = refl }, tt)
  leads (list_ty e n) h = tt
  leads (struct_ty fs n) h =
      let parts = and_parts (distinct_names (field_names fs)) (no_name_twice_below fs) h in
      each_so (LeadsBelow fs) (Leads (struct_ty fs n)) (leaves_below fs) (from-fields fs n) (leads_below fs parts.0 parts.1)

  pub leads_below : (fs : Fields) → distinct_names (field_names fs) ≡ true → no_name_twice_below fs ≡ true → AllByRecursion (LeadsBelow fs) (leaves_below fs)
  leads_below no_fields d h = tt
  leads_below (field f t fs) d h =
      let names = and_parts (not (has_name f (field_names fs))) (distinct_names (field_names fs)) d in
      let types = and_parts (no_name_twice t) (no_name_twice_below fs) h in
      each_both (LeadsBelow (field f t fs)) (map (under f) (leaves_of t)) (leaves_below fs)
      (each_mapped (LeadsBelow (field f t fs)) (under f) (leaves_of t)
      (each_so (Leads t) (λ (l : Leaf). LeadsBelow (field f t fs) (under f l)) (leaves_of t) (of-first f t fs) (leads t types.0)))
      (each_so (LeadsBelow fs) (LeadsBelow (field f t fs)) (leaves_below fs)
      (λ l b. of-rest f t fs l (not_found (has_name f (field_names fs)) names.0) b) (leads_below fs names.1 types.1))

-- a plain field of a table, as its zones find it
pub record IsLeaf (columns : Fields) (l : Leaf) : Type 0 where
  pub found : type_at l.path (row_type columns) ≡ Some l.ty
  pub plain : is_plain l.ty ≡ true

pub leaf-found : (columns : Fields) (l : Leaf) → IsLeaf columns l → leaf_type columns l.path ≡ Some l.ty
leaf-found columns l h = ap (option_and_then plain_only) h.found ∙ ap (λ (b : Bool). cond b (Some l.ty) None) h.plain

pub table-leaves : (columns : Fields) → no_name_twice (row_type columns) ≡ true → AllByRecursion (IsLeaf columns) (leaves_below columns)
table-leaves columns h =
    each_so (Leads (row_type columns)) (IsLeaf columns) (leaves_below columns) (λ l b. record { found = b.found; plain = b.plain }) (leads (row_type columns) h)
