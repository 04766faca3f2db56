-- What fields made of names and types have: their names, the fields from a place on, and the depth of each type among them.
use Rattle.std.proofs.Common.{not, cond, nat_lt, Some, None, option_map, ◌≡◌, ℕ, zero, suc, ◌+◌, ◌<◌, ◌≤◌, max, ◌≢◌, Bool, true, false, ◌&&◌, refl, ◌∙◌, ap, length, map, drop, List, [], ◌∷◌, arith}
use Rattle.std.proofs.Math.ListN.{get_or}
use Rattle.std.proofs.lemmas.List.{drop_more, drop_all}
use Rattle.std.specs.Str.{bytes_eq}
use Rattle.std.specs.List.{slice_get, position, position_or_len}
use Rattle.std.proofs.lemmas.Option.{slice_get_past, slice_get-get_or, slice_get-map}
use Rattle.vx_dtype.specs.StructTypes.{field_types}
use Rattle.vx_dtype.specs.Types.{Bytes, Ty, Fields, no_fields, field}
use Rattle.vx_dtype.specs.TypeRules.{field_type, field_names, depth_of, depth_below}
use Rattle.vx_dtype.specs.declared.types.likeness.Nullabilities.{Nullabilities}
use Rattle.vx_dtype.specs.Agreeing.{types_agree, fields_agree}
use Rattle.vx_dtype.specs.Zipped.{zipped}

and_false : (a b : Bool) → (a && (b && false)) ≡ false
and_false false b = refl
and_false true false = refl
and_false true true = refl

placed : (b : Bool) (n i : ℕ) → cond b (Some n) None ≡ Some i → (b ≡ true) × (n ≡ i)
placed true n i h = (refl, cc)
placed false n i h = absurd cc

not_placed : (b : Bool) (n : ℕ) → cond b (Some n) None ≡ None → b ≡ false
not_placed true n h = cc
not_placed false n h = refl

module _ {A : Type 0} (see : A → Ty) where
  -- their names are the names
  pub field_names_zipped : (fs : List Bytes) (xs : List A) → length fs ≡ length xs → field_names (zipped fs (map see xs)) ≡ fs
  field_names_zipped [] [] e = refl
  field_names_zipped [] (x ∷ xs) e = refl
  field_names_zipped (f ∷ fs) [] e = absurd (omega (arith, e))
  field_names_zipped (f ∷ fs) (x ∷ xs) e = ap (λ gs. f ∷ gs) (field_names_zipped fs xs (omega (arith, e)))

  -- their types are the types
  pub field_types_zipped : (fs : List Bytes) (xs : List A) → length fs ≡ length xs → field_types (zipped fs (map see xs)) ≡ map see xs
  field_types_zipped [] [] e = refl
  field_types_zipped [] (x ∷ xs) e = absurd (omega (arith, e))
  field_types_zipped (f ∷ fs) [] e = absurd (omega (arith, e))
  field_types_zipped (f ∷ fs) (x ∷ xs) e = ap (λ ts. see x ∷ ts) (field_types_zipped fs xs (omega (arith, e)))

  pub type_at_zipped : (fs : List Bytes) (xs : List A) (i : ℕ) (x : A) → length fs ≡ length xs → i < length xs → slice_get (field_types (zipped fs (map see xs))) i ≡ Some (see (get_or xs i x))
  type_at_zipped fs xs i x e h =
      ap (λ ts. slice_get ts i) (field_types_zipped fs xs e) ∙ slice_get-map see xs i ∙ ap (option_map see) (slice_get-get_or xs i x h)

  pub type_past_zipped : (fs : List Bytes) (xs : List A) (i : ℕ) → length fs ≡ length xs → length xs ≤ i → slice_get (field_types (zipped fs (map see xs))) i ≡ None
  type_past_zipped fs xs i e h =
      ap (λ ts. slice_get ts i) (field_types_zipped fs xs e) ∙ slice_get-map see xs i ∙ ap (option_map see) (slice_get_past xs i h)

  -- the type of a name is the one at the name's first place
  field_type_zipped : (f : Bytes) (fs : List Bytes) (xs : List A) → length fs ≡ length xs → field_type f (zipped fs (map see xs)) ≡ option_map see (slice_get xs (position_or_len (bytes_eq f) fs))
  field_type_zipped f [] [] e = refl
  field_type_zipped f [] (x ∷ xs) e = absurd (omega (arith, e))
  field_type_zipped f (g ∷ gs) [] e = absurd (omega (arith, e))
  field_type_zipped f (g ∷ gs) (x ∷ xs) e =
      let n = position_or_len (bytes_eq f) gs in
      let rest = field_type_zipped f gs xs (omega (arith, e)) in
      let one : suc n ≡ 1 + n = omega arith in
      let next = ap (λ m. option_map see (slice_get (x ∷ xs) m)) one in
      elim (bytes_eq f g) as (λ b. cond b (Some (see x)) (field_type f (zipped gs (map see xs))) ≡ option_map see (slice_get (x ∷ xs) (cond (not b) (1 + n) 0))) [ true ↦ refl | false ↦ rest ∙ next ]

  pub field_type_missing : (f : Bytes) (fs : List Bytes) (xs : List A) → length fs ≡ length xs → position (bytes_eq f) fs ≡ None → field_type f (zipped fs (map see xs)) ≡ None
  field_type_missing f fs xs e h =
      let n = position_or_len (bytes_eq f) fs in
      let past : nat_lt n (length fs) ≡ false = not_placed (nat_lt n (length fs)) n h in
      field_type_zipped f fs xs e ∙ ap (option_map see) (slice_get_past xs n (grind (arith, past, e)))

  pub field_type_at : (f : Bytes) (fs : List Bytes) (xs : List A) (i : ℕ) (x : A) → length fs ≡ length xs → position (bytes_eq f) fs ≡ Some i → (i < length xs) × (field_type f (zipped fs (map see xs)) ≡ Some (see (get_or xs i x)))
  field_type_at f fs xs i x e h =
      let n = position_or_len (bytes_eq f) fs in
      let found = placed (nat_lt n (length fs)) n i h in
      let within : i < length xs = grind (arith, found.0, found.1, e) in
      let same : slice_get xs n ≡ slice_get xs i = ap (slice_get xs) found.1 in
      (within, field_type_zipped f fs xs e ∙ ap (option_map see) (same ∙ slice_get-get_or xs i x within))

  -- the fields from a place on
  abbrev pub fields_from : ℕ → List Bytes → List A → Fields
  fields_from i fs xs = zipped (drop i fs) (map see (drop i xs))

  -- at a place within, they are the field there and those behind it
  pub fields_from-step : (fs : List Bytes) (xs : List A) (i : ℕ) (f : Bytes) (x : A) → length fs ≡ length xs → i < length xs → fields_from i fs xs ≡ field (get_or fs i f) (see (get_or xs i x)) (fields_from (i + 1) fs xs)
  fields_from-step fs xs i f x e h = let k : i < length fs = omega (arith, e, h) in
      ap (λ gs. zipped gs (map see (drop i xs))) (drop_more fs i f k)
      ∙ ap (λ ys. zipped (get_or fs i f ∷ drop (i + 1) fs) (map see ys)) (drop_more xs i x h)

  -- behind the last place there are none
  pub fields_from-end : (fs : List Bytes) (xs : List A) (i : ℕ) → length fs ≡ length xs → length xs ≤ i → fields_from i fs xs ≡ no_fields
  fields_from-end fs xs i e h = let k : length fs ≤ i = omega (arith, e, h) in
      ap (λ gs. zipped gs (map see (drop i xs))) (drop_all i fs k)

  -- no type among them is deeper than the deepest
  pub depth_at : (fs : List Bytes) (xs : List A) (i : ℕ) (x : A) → length fs ≡ length xs → i < length xs → depth_of (see (get_or xs i x)) ≤ depth_below (zipped fs (map see xs))
  unfolding depth_of
  depth_at [] (y ∷ ys) i x e h = absurd (omega (arith, e))
  depth_at fs [] i x e h = absurd (omega (arith, h))
  depth_at (f ∷ fs) (y ∷ ys) zero x e h = omega arith
  depth_at (f ∷ fs) (y ∷ ys) (suc i) x e h = omega (arith, depth_at fs ys i x (omega (arith, e)) (omega (arith, h)))

  -- the deepest from a place on is the one there or the deepest behind it
  pub depth_below-step : (fs : List Bytes) (xs : List A) (i : ℕ) (f : Bytes) (x : A) → length fs ≡ length xs → i < length xs → depth_below (fields_from i fs xs) ≡ max (depth_of (see (get_or xs i x))) (depth_below (fields_from (i + 1) fs xs))
  unfolding depth_of
  depth_below-step fs xs i f x e h = ap depth_below (fields_from-step fs xs i f x e h)

  -- of other lengths they don't agree
  pub fields_agree_lengths : (by : Nullabilities) (fs gs : List Bytes) (xs ys : List A) → length fs ≡ length xs → length gs ≡ length ys → length xs ≢ length ys
      → fields_agree by (zipped fs (map see xs)) (zipped gs (map see ys)) ≡ false
  unfolding fields_agree
  fields_agree_lengths by fs gs [] [] d e h = absurd (h refl)
  fields_agree_lengths by (f ∷ fs) gs [] (y ∷ ys) d e h = absurd (omega (arith, d))
  fields_agree_lengths by [] (g ∷ gs) [] (y ∷ ys) d e h = refl
  fields_agree_lengths by [] [] [] (y ∷ ys) d e h = absurd (omega (arith, e))
  fields_agree_lengths by [] gs (x ∷ xs) ys d e h = absurd (omega (arith, d))
  fields_agree_lengths by (f ∷ fs) (g ∷ gs) (x ∷ xs) [] d e h = absurd (omega (arith, e))
  fields_agree_lengths by (f ∷ fs) [] (x ∷ xs) [] d e h = refl
  fields_agree_lengths by (f ∷ fs) [] (x ∷ xs) (y ∷ ys) d e h = refl
  fields_agree_lengths by (f ∷ fs) (g ∷ gs) (x ∷ xs) (y ∷ ys) d e h =
      let k : length xs ≢ length ys = λ m. h (ap suc m) in
      let q = fields_agree_lengths by fs gs xs ys (omega (arith, d)) (omega (arith, e)) k in
      ap (λ b. bytes_eq f g && (types_agree by (see x) (see y) && b)) q ∙ and_false (bytes_eq f g) (types_agree by (see x) (see y))
