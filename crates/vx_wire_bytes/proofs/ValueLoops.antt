-- Reading values one after the other, as a loop does.
use Rattle.std.proofs.Common.{◌≡◌, ℕ, zero, suc, ◌-◌, ◌+◌, ◌≤◌, ◌<◌, List, [], ◌∷◌, ◌++◌, length, map, Option, Some, None, refl, sym, ap, ◌∙◌, arith}
use Rattle.std.specs.List.{slice_get}
use Rattle.std.proofs.lemmas.Option.{same_Some}
use Rattle.vx_dtype.specs.Types.{Bytes, Ty, Fields, no_fields, field}
use Rattle.vx_dtype.specs.TypeRules.{field_names}
use Rattle.vx_dtype.specs.StructTypes.{field_types}
use Rattle.vx_dtype.specs.Values.{Raw, Raws, no_raws, raw}
use Rattle.vx_dtype.specs.RawViews.{raws_of}
use Rattle.vx_wire_bytes.specs.Reading.{◌>>=◌, number_at}
use Rattle.vx_wire_bytes.specs.ValueReading.{elements_with, all_elements_with, members_at, value_at}
use Rattle.vx_dtype.proofs.FieldsFrom.{fields_from, fields_from-past}

-- one list of values behind another
abbrev pub joined_raws : Raws → Raws → Raws
joined_raws no_raws ys = ys
joined_raws (raw x xs) ys = raw x (joined_raws xs ys)

joined_raws-nil : (xs : Raws) → joined_raws xs no_raws ≡ xs
joined_raws-nil no_raws = refl
joined_raws-nil (raw x xs) = ap (raw x) (joined_raws-nil xs)

joined_raws-assoc : (xs ys zs : Raws) → joined_raws (joined_raws xs ys) zs ≡ joined_raws xs (joined_raws ys zs)
joined_raws-assoc no_raws ys zs = refl
joined_raws-assoc (raw x xs) ys zs = ap (raw x) (joined_raws-assoc xs ys zs)

-- what was read before, and what is still read
abbrev pub with_raws : Raws → Option (Raws × Bytes) → Option (Raws × Bytes)
with_raws front read = read >>= λ x. Some (joined_raws front x.0, x.1)

with_raws-joined : (front : Raws) (x : Raw) (read : Option (Raws × Bytes)) → with_raws front (read >>= λ xs. Some (raw x xs.0, xs.1)) ≡ with_raws (joined_raws front (raw x no_raws)) read
with_raws-joined front x None = refl
with_raws-joined front x (Some xs) = ap (λ ys. Some (ys, xs.1)) (sym (joined_raws-assoc front (raw x no_raws) xs.0))

with_raws-none : (read : Option (Raws × Bytes)) → with_raws no_raws read ≡ read
with_raws-none None = refl
with_raws-none (Some x) = refl

-- the answer with nothing before it
with_raws-end : (front : Raws) (rest : Bytes) → with_raws front (Some (no_raws, rest)) ≡ Some (front, rest)
with_raws-end front rest = ap (λ xs. Some (xs, rest)) (joined_raws-nil front)

module _ {A : Type 0} (see : A → Raw) where
  raws_of-push : (xs : List A) (x : A) → raws_of (map see (xs ++ x ∷ [])) ≡ joined_raws (raws_of (map see xs)) (raw (see x) no_raws)
  raws_of-push [] x = refl
  raws_of-push (y ∷ xs) x = ap (raw (see y)) (raws_of-push xs x)

  -- so many elements were read, and what is left gives the others
  abbrev pub IsReadingElements : (Bytes → Option (Raw × Bytes)) → Bytes → ℕ → ℕ → Bytes → List A → Type 0
  IsReadingElements read bytes n i rest xs = all_elements_with read bytes ≡ with_raws (raws_of (map see xs)) (elements_with read (n - i) rest)

  pub elements_start : (read : Bytes → Option (Raw × Bytes)) (bytes : Bytes) (n : ℕ) (rest : Bytes) (xs : List A) → xs ≡ [] → Some (n, rest) ≡ number_at bytes → IsReadingElements read bytes n 0 rest xs
  unfolding all_elements_with
  elements_start read bytes n rest xs none e =
      let k : n ≡ n - 0 = omega arith in
      let all : all_elements_with read bytes ≡ elements_with read n rest = rw (← e) refl in
      all ∙ ap (λ i. elements_with read i rest) k ∙ sym (with_raws-none (elements_with read (n - 0) rest)) ∙ ap (λ ys. with_raws (raws_of (map see ys)) (elements_with read (n - 0) rest)) (sym none)

  pub elements_go_on : (read : Bytes → Option (Raw × Bytes)) (bytes : Bytes) (n i : ℕ) (rest : Bytes) (xs new : List A) (x : A) (after : Bytes) → i < n → Some (see x, after) ≡ read rest → new ≡ xs ++ x ∷ []
      → IsReadingElements read bytes n i rest xs → IsReadingElements read bytes n (i + 1) after new
  unfolding elements_with
  elements_go_on read bytes n i rest xs new x after lt e is so_far =
      let k : n - i ≡ suc (n - (i + 1)) = omega arith in
      let row = ap (λ ys. raws_of (map see ys)) is ∙ raws_of-push xs x in
      so_far ∙ rw (k, ← e, row) (with_raws-joined (raws_of (map see xs)) (see x) (elements_with read (n - (i + 1)) after))

  pub no_element : (read : Bytes → Option (Raw × Bytes)) (bytes : Bytes) (n i : ℕ) (rest : Bytes) (xs : List A) → i < n → None ≡ read rest → IsReadingElements read bytes n i rest xs → None ≡ all_elements_with read bytes
  unfolding elements_with
  no_element read bytes n i rest xs lt e so_far =
      let k : n - i ≡ suc (n - (i + 1)) = omega arith in
      let none : with_raws (raws_of (map see xs)) (elements_with read (n - i) rest) ≡ None = rw (k, ← e) refl in
      sym (so_far ∙ none)

  pub elements_end : (read : Bytes → Option (Raw × Bytes)) (bytes : Bytes) (n i : ℕ) (rest : Bytes) (xs : List A) → n ≤ i → IsReadingElements read bytes n i rest xs → Some (raws_of (map see xs), rest) ≡ all_elements_with read bytes
  unfolding elements_with
  elements_end read bytes n i rest xs le so_far =
      let k : n - i ≡ 0 = omega arith in
      let one : with_raws (raws_of (map see xs)) (elements_with read (n - i) rest) ≡ Some (raws_of (map see xs), rest) = rw k (with_raws-end (raws_of (map see xs)) rest) in
      sym (so_far ∙ one)

pub no_elements_start : (read : Bytes → Option (Raw × Bytes)) (bytes : Bytes) → None ≡ number_at bytes → None ≡ all_elements_with read bytes
unfolding all_elements_with
no_elements_start read bytes e = rw (← e) refl

-- the values of the fields from a place on: of the field there, and of those behind it
members_at-at : (i : ℕ) (fs : Fields) (t : Ty) (bytes : Bytes) → slice_get (field_types fs) i ≡ Some t → members_at (fields_from i fs) bytes ≡ (value_at t bytes >>= λ x. members_at (fields_from (suc i) fs) x.1 >>= λ xs. Some (raw x.0 xs.0, xs.1))
unfolding members_at
members_at-at zero no_fields t bytes a = absurd cc
members_at-at (suc i) no_fields t bytes a = absurd cc
members_at-at zero (field f u fs) t bytes a = ap (λ v. value_at v bytes >>= λ x. members_at fs x.1 >>= λ xs. Some (raw x.0 xs.0, xs.1)) (same_Some u t a)
members_at-at (suc i) (field f u fs) t bytes a = members_at-at i fs t bytes a

module _ {A : Type 0} (see : A → Raw) where
  -- a value was read for so many fields, and what is left gives the others
  abbrev pub IsReadingMembers : Fields → Bytes → ℕ → Bytes → List A → Type 0
  IsReadingMembers fs bytes i rest xs = members_at fs bytes ≡ with_raws (raws_of (map see xs)) (members_at (fields_from i fs) rest)

  pub members_go_on : (fs : Fields) (bytes : Bytes) (i : ℕ) (rest : Bytes) (t : Ty) (xs new : List A) (x : A) (after : Bytes) → slice_get (field_types fs) i ≡ Some t → Some (see x, after) ≡ value_at t rest → new ≡ xs ++ x ∷ []
      → IsReadingMembers fs bytes i rest xs → IsReadingMembers fs bytes (i + 1) after new
  members_go_on fs bytes i rest t xs new x after a e is so_far =
      let k : suc i ≡ i + 1 = omega arith in
      let row = ap (λ ys. raws_of (map see ys)) is ∙ raws_of-push see xs x in
      so_far ∙ ap (with_raws (raws_of (map see xs))) (members_at-at i fs t rest a ∙ ap (λ o. o >>= λ x. members_at (fields_from (suc i) fs) x.1 >>= λ xs. Some (raw x.0 xs.0, xs.1)) (sym e))
      ∙ with_raws-joined (raws_of (map see xs)) (see x) (members_at (fields_from (suc i) fs) after)
      ∙ ap (λ ys. with_raws ys (members_at (fields_from (suc i) fs) after)) (sym row) ∙ ap (λ j. with_raws (raws_of (map see new)) (members_at (fields_from j fs) after)) k

  pub no_member : (fs : Fields) (bytes : Bytes) (i : ℕ) (rest : Bytes) (t : Ty) (xs : List A) → slice_get (field_types fs) i ≡ Some t → None ≡ value_at t rest → IsReadingMembers fs bytes i rest xs → None ≡ members_at fs bytes
  no_member fs bytes i rest t xs a e so_far =
      sym (so_far ∙ ap (with_raws (raws_of (map see xs))) (members_at-at i fs t rest a ∙ ap (λ o. o >>= λ x. members_at (fields_from (suc i) fs) x.1 >>= λ xs. Some (raw x.0 xs.0, xs.1)) (sym e)))

  pub members_end : (fs : Fields) (bytes : Bytes) (i : ℕ) (rest : Bytes) (xs : List A) → length (field_names fs) ≤ i → IsReadingMembers fs bytes i rest xs → Some (raws_of (map see xs), rest) ≡ members_at fs bytes
  unfolding members_at
  members_end fs bytes i rest xs le so_far =
      let none = fields_from-past i fs le in
      sym (so_far ∙ ap (λ gs. with_raws (raws_of (map see xs)) (members_at gs rest)) none ∙ with_raws-end (raws_of (map see xs)) rest)
