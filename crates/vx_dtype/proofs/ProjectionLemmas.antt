-- Types collected one by one, and the fields of which they are the types.
use Rattle.std.proofs.Common.{◌≡◌, Bool, true, false, ◌&&◌, ◌||◌, cond, Some, None, option_map, refl, ap, ◌∙◌, List, [], ◌∷◌, ◌++◌, append_assoc, append-nil, sym, ℕ, ◌+◌, ◌<◌, ◌≤◌, length, drop}
use Rattle.std.specs.Prelude.{Option, is_some}
use Rattle.std.specs.Str.{bytes_eq}
use Rattle.std.proofs.lemmas.Bool.{and_parts}
use Rattle.std.proofs.lemmas.Option.{same_Some}
use Rattle.std.proofs.Math.ListN.{get_or}
use Rattle.std.proofs.lemmas.List.{drop_all}
use Rattle.vx_dtype.specs.Types.{Bytes, Ty, Fields, no_fields, field}
use Rattle.vx_dtype.specs.TypeRules.{field_type, field_names, has_name}
use Rattle.vx_dtype.specs.Zipped.{zipped}
use Rattle.vx_dtype.proofs.DistinctLemmas.{names-from}
use Rattle.vx_dtype.specs.StructTypes.{with_field, fields_at, all_known, projected}

-- a type before others, where there are any
abbrev pub before : Option Ty → Option (List Ty) → Option (List Ty)
before (Some t) (Some ts) = Some (t ∷ ts)
before _ _ = None

-- the types of the first fields of these names, where no name is missing
abbrev pub types_named : List Bytes → Fields → Option (List Ty)
types_named [] gs = Some []
types_named (f ∷ fs) gs = before (field_type f gs) (types_named fs gs)

-- types that were collected, before those that are left, where none of these is missing
abbrev pub joined : List Ty → Option (List Ty) → Option (List Ty)
joined ts rest = option_map (λ us. ts ++ us) rest

-- one more is collected
pub joined_before : (ts : List Ty) (t : Ty) (rest : Option (List Ty)) → joined ts (before (Some t) rest) ≡ joined (ts ++ t ∷ []) rest
joined_before ts t None = refl
joined_before ts t (Some us) = ap Some (sym (append_assoc ts (t ∷ []) us))

-- a name without a type leaves nothing
joined_missing : (ts : List Ty) (o : Option Ty) (rest : Option (List Ty)) → o ≡ None → joined ts (before o rest) ≡ None
joined_missing ts None rest e = refl
joined_missing ts (Some t) rest e = absurd cc

-- a name is one of the fields' where it has a type
has_name-typed : (f : Bytes) (fs : Fields) → has_name f (field_names fs) ≡ is_some (field_type f fs)
has_name-typed f no_fields = refl
has_name-typed f (field g t fs) =
    elim (bytes_eq f g) as (λ b. (b || has_name f (field_names fs)) ≡ is_some (cond b (Some t) (field_type f fs))) [ true ↦ refl | false ↦ has_name-typed f fs ]

by_types : (f : Bytes) (t : Ty) (b : Bool) (gs : Fields) (names : List Bytes) (ts : Option (List Ty)) → cond b (Some gs) None ≡ option_map (zipped names) ts
    → cond b (Some (field f t gs)) None ≡ option_map (zipped (f ∷ names)) (before (Some t) ts)
by_types f t true gs names (Some ts) h = ap (λ (hs : Fields). Some (field f t hs)) (same_Some gs (zipped names ts) h)
by_types f t true gs names None h = absurd cc
by_types f t false gs names (Some ts) h = absurd cc
by_types f t false gs names None h = refl

by_type : (f : Bytes) (names : List Bytes) (fs : Fields) (o : Option Ty) → projected names fs ≡ option_map (zipped names) (types_named names fs)
    → cond (is_some o && all_known names fs) (Some (with_field f o (fields_at names fs))) None ≡ option_map (zipped (f ∷ names)) (before o (types_named names fs))
by_type f names fs None h = refl
by_type f names fs (Some t) h = by_types f t (all_known names fs) (fields_at names fs) names (types_named names fs) h

-- the fields with some names are those of the types that were found, each beside its name
pub projected_named : (names : List Bytes) (fs : Fields) → projected names fs ≡ option_map (zipped names) (types_named names fs)
projected_named [] fs = refl
projected_named (f ∷ names) fs =
    ap (λ b. cond (b && all_known names fs) (Some (fields_at (f ∷ names) fs)) None) (has_name-typed f fs) ∙ by_type f names fs (field_type f fs) (projected_named names fs)

module _ (names : List Bytes) (fs : Fields) (i : ℕ) (ts : List Ty) (collected : types_named names fs ≡ joined ts (types_named (drop i names) fs)) where
  -- where a name has no type there are no fields with the names
  pub projected-missing : (f : Bytes) → i < length names → f ≡ get_or names i f → field_type f fs ≡ None → projected names fs ≡ None
  projected-missing f h e none =
      let here : types_named (drop i names) fs ≡ before (field_type f fs) (types_named (drop (i + 1) names) fs) = ap (λ gs. types_named gs fs) (names-from names i f h e) in
      projected_named names fs ∙ ap (option_map (zipped names)) (collected ∙ ap (joined ts) here ∙ joined_missing ts (field_type f fs) (types_named (drop (i + 1) names) fs) none)

  -- where each name's type was found, the types beside the names are the fields
  pub projected-found : length names ≤ i → projected names fs ≡ Some (zipped names ts)
  projected-found h =
      let rest : types_named (drop i names) fs ≡ Some [] = ap (λ gs. types_named gs fs) (drop_all i names h) in
      projected_named names fs ∙ ap (option_map (zipped names)) (collected ∙ ap (joined ts) rest ∙ ap Some (append-nil ts))

by_known : (f : Bytes) (names : List Bytes) (fs : Fields) (o : Option Ty) → is_some o ≡ true → field_names (fields_at names fs) ≡ names
    → field_names (with_field f o (fields_at names fs)) ≡ f ∷ names
by_known f names fs None e h = absurd cc
by_known f names fs (Some t) e h = ap (λ gs. f ∷ gs) h

-- the fields with some names, where each is one of the fields', have these names
field_names-at : (names : List Bytes) (fs : Fields) → all_known names fs ≡ true → field_names (fields_at names fs) ≡ names
field_names-at [] fs h = refl
field_names-at (f ∷ names) fs h =
    let parts = and_parts (has_name f (field_names fs)) (all_known names fs) h in
    by_known f names fs (field_type f fs) (sym (has_name-typed f fs) ∙ parts.0) (field_names-at names fs parts.1)

names_of_projected : (names : List Bytes) (fs made : Fields) (b : Bool) → all_known names fs ≡ b → cond b (Some (fields_at names fs)) None ≡ Some made → field_names made ≡ names
names_of_projected names fs made true known e = ap field_names (sym (same_Some (fields_at names fs) made e)) ∙ field_names-at names fs known
names_of_projected names fs made false known e = absurd cc

-- so have the fields that are projected
pub projected_names : (names : List Bytes) (fs made : Fields) → projected names fs ≡ Some made → field_names made ≡ names
projected_names names fs made e = names_of_projected names fs made (all_known names fs) refl e
