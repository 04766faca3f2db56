-- Fields behind fields, as loops collect them.
use Rattle.std.proofs.Common.{◌≡◌, ℕ, suc, ◌+◌, ◌≤◌, true, false, cond, List, [], ◌∷◌, ◌++◌, length, map, Some, refl, ap, sym, ◌∙◌, arith}
use Rattle.std.specs.List.{slice_get}
use Rattle.vx_dtype.specs.Types.{Bytes, Ty, Fields, no_fields, field}
use Rattle.vx_dtype.specs.TypeRules.{field_names, has_name}
use Rattle.vx_dtype.specs.StructTypes.{field_types}
use Rattle.vx_dtype.specs.Zipped.{zipped}
use Rattle.vx_dtype.proofs.FieldsFrom.{fields_from, fields_from-here, fields_from-past}
use Rattle.vx_semantics.specs.Typing.{fields_without}

-- the fields, and the others behind them
abbrev pub joined : Fields → Fields → Fields
joined no_fields gs = gs
joined (field f t fs) gs = field f t (joined fs gs)

pub joined_none : (fs : Fields) → joined fs no_fields ≡ fs
joined_none no_fields = refl
joined_none (field f t fs) = ap (field f t) (joined_none fs)

module _ {A : Type 0} (see : A → Ty) where
  -- one more field is collected
  pub joined_more : (ns : List Bytes) (xs : List A) (f : Bytes) (x : A) (rest : Fields) → length ns ≡ length xs
      → joined (zipped (ns ++ f ∷ []) (map see (xs ++ x ∷ []))) rest ≡ joined (zipped ns (map see xs)) (field f (see x) rest)
  joined_more [] [] f x rest e = refl
  joined_more [] (y ∷ xs) f x rest e = absurd (omega (arith, e))
  joined_more (g ∷ ns) [] f x rest e = absurd (omega (arith, e))
  joined_more (g ∷ ns) (y ∷ xs) f x rest e = ap (field g (see y)) (joined_more ns xs f x rest (omega (arith, e)))

-- ---- fields that are left out

module _ (names : List Bytes) (fs : Fields) (i : ℕ) where
  one_here : (f : Bytes) (t : Ty) → slice_get (field_names fs) i ≡ Some f → slice_get (field_types fs) i ≡ Some t → fields_from i fs ≡ field f t (fields_from (i + 1) fs)
  one_here f t a b =
      let next : suc i ≡ i + 1 = omega arith in
      fields_from-here i fs f t a b ∙ ap (λ k. field f t (fields_from k fs)) next

  pub left_out : (f : Bytes) (t : Ty) → slice_get (field_names fs) i ≡ Some f → slice_get (field_types fs) i ≡ Some t → has_name f names ≡ true
      → fields_without names (fields_from i fs) ≡ fields_without names (fields_from (i + 1) fs)
  left_out f t a b h =
      let rest = fields_without names (fields_from (i + 1) fs) in
      ap (fields_without names) (one_here f t a b) ∙ ap (λ c. cond c rest (field f t rest)) h

  left_in : (f : Bytes) (t : Ty) → slice_get (field_names fs) i ≡ Some f → slice_get (field_types fs) i ≡ Some t → has_name f names ≡ false
      → fields_without names (fields_from i fs) ≡ field f t (fields_without names (fields_from (i + 1) fs))
  left_in f t a b h =
      let rest = fields_without names (fields_from (i + 1) fs) in
      ap (fields_without names) (one_here f t a b) ∙ ap (λ c. cond c rest (field f t rest)) h

  pub none_left : length (field_names fs) ≤ i → fields_without names (fields_from i fs) ≡ no_fields
  none_left h = ap (fields_without names) (fields_from-past i fs h)

-- a field whose name is not among these is collected
pub taken_in : {A : Type 0} (see : A → Ty) (names : List Bytes) (fs : Fields) (i : ℕ) (f : Bytes) (kept : List Bytes) (xs : List A)
    → fields_without names fs ≡ joined (zipped kept (map see xs)) (fields_without names (fields_from i fs))
    → (x : A) (kept_with : List Bytes) (with_x : List A) → length kept ≡ length xs → kept_with ≡ kept ++ f ∷ [] → with_x ≡ xs ++ x ∷ []
    → slice_get (field_names fs) i ≡ Some f → slice_get (field_types fs) i ≡ Some (see x) → has_name f names ≡ false
    → fields_without names fs ≡ joined (zipped kept_with (map see with_x)) (fields_without names (fields_from (i + 1) fs))
taken_in see names fs i f kept xs so_far x kept_with with_x e is_kept is_with named typed h =
    let left = fields_without names (fields_from (i + 1) fs) in
    so_far ∙ ap (joined (zipped kept (map see xs))) (left_in names fs i f (see x) named typed h)
    ∙ sym (joined_more see kept xs f x left e)
    ∙ ap (λ ns. joined (zipped ns (map see (xs ++ x ∷ []))) left) (sym is_kept) ∙ ap (λ ys. joined (zipped kept_with (map see ys)) left) (sym is_with)
