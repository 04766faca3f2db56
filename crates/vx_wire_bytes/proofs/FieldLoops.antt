-- Reading fields one after the other, as a loop does.
use Rattle.std.proofs.Common.{◌≡◌, ◌≢◌, ℕ, zero, suc, ◌-◌, ◌+◌, ◌≤◌, ◌<◌, List, [], ◌∷◌, ◌++◌, length, map, Option, Some, None, refl, sym, ap, ◌∙◌, arith}
use Rattle.std.proofs.lemmas.List.{length-map, length-append}
use Rattle.vx_dtype.specs.Types.{Bytes, Ty, Fields, no_fields, field}
use Rattle.vx_dtype.specs.Zipped.{zipped}
use Rattle.vx_wire_bytes.specs.Reading.{◌>>=◌, number_at, text_at}
use Rattle.vx_wire_bytes.specs.TypeReading.{fields_with, all_fields_with, tagged_with, type_at}

-- one list of fields behind another
abbrev pub joined_fields : Fields → Fields → Fields
joined_fields no_fields gs = gs
joined_fields (field f t fs) gs = field f t (joined_fields fs gs)

joined_fields-nil : (fs : Fields) → joined_fields fs no_fields ≡ fs
joined_fields-nil no_fields = refl
joined_fields-nil (field f t fs) = ap (field f t) (joined_fields-nil fs)

joined_fields-assoc : (fs gs hs : Fields) → joined_fields (joined_fields fs gs) hs ≡ joined_fields fs (joined_fields gs hs)
joined_fields-assoc no_fields gs hs = refl
joined_fields-assoc (field f t fs) gs hs = ap (field f t) (joined_fields-assoc fs gs hs)

module _ {A : Type 0} (see : A → Ty) where
  -- a name and a type at the end
  pub zipped-push : (fs : List Bytes) (xs : List A) (f : Bytes) (x : A) → length fs ≡ length xs → zipped (fs ++ f ∷ []) (map see (xs ++ x ∷ [])) ≡ joined_fields (zipped fs (map see xs)) (field f (see x) no_fields)
  zipped-push [] [] f x e = refl
  zipped-push [] (y ∷ xs) f x e = absurd (omega (arith, e))
  zipped-push (g ∷ fs) [] f x e = absurd (omega (arith, e))
  zipped-push (g ∷ fs) (y ∷ xs) f x e = ap (field g (see y)) (zipped-push fs xs f x (omega (arith, e)))

-- what was read before, and what is still read
abbrev pub with_fields : Fields → Option (Fields × Bytes) → Option (Fields × Bytes)
with_fields front read = read >>= λ x. Some (joined_fields front x.0, x.1)

with_fields-joined : (front : Fields) (f : Bytes) (t : Ty) (read : Option (Fields × Bytes)) → with_fields front (read >>= λ x. Some (field f t x.0, x.1)) ≡ with_fields (joined_fields front (field f t no_fields)) read
with_fields-joined front f t None = refl
with_fields-joined front f t (Some x) = ap (λ fs. Some (fs, x.1)) (sym (joined_fields-assoc front (field f t no_fields) x.0))

with_fields-none : (read : Option (Fields × Bytes)) → with_fields no_fields read ≡ read
with_fields-none None = refl
with_fields-none (Some x) = refl

pub fields_start : (read : Bytes → Option (Ty × Bytes)) (bytes : Bytes) (n : ℕ) (rest : Bytes) → Some (n, rest) ≡ number_at bytes → all_fields_with read bytes ≡ with_fields no_fields (fields_with read n rest)
unfolding all_fields_with
fields_start read bytes n rest e = rw (← e) (sym (with_fields-none (fields_with read n rest)))

pub no_fields_start : (read : Bytes → Option (Ty × Bytes)) (bytes : Bytes) → None ≡ number_at bytes → None ≡ all_fields_with read bytes
unfolding all_fields_with
no_fields_start read bytes e = rw (← e) refl

pub fields_go_on : (read : Bytes → Option (Ty × Bytes)) (total : Option (Fields × Bytes)) (front : Fields) (n i : ℕ) (rest : Bytes) (f : Bytes) (after_name : Bytes) (t : Ty) (after : Bytes) → i < n
    → Some (f, after_name) ≡ text_at rest → Some (t, after) ≡ read after_name → total ≡ with_fields front (fields_with read (n - i) rest)
    → total ≡ with_fields (joined_fields front (field f t no_fields)) (fields_with read (n - (i + 1)) after)
unfolding fields_with
fields_go_on read total front n i rest f after_name t after lt name type so_far =
    let k : n - i ≡ suc (n - (i + 1)) = omega arith in
    so_far ∙ rw (k, ← name, ← type) (with_fields-joined front f t (fields_with read (n - (i + 1)) after))

pub no_name : (read : Bytes → Option (Ty × Bytes)) (total : Option (Fields × Bytes)) (front : Fields) (n i : ℕ) (rest : Bytes) → i < n → None ≡ text_at rest → total ≡ with_fields front (fields_with read (n - i) rest) → None ≡ total
unfolding fields_with
no_name read total front n i rest lt name so_far =
    let k : n - i ≡ suc (n - (i + 1)) = omega arith in
    let none : with_fields front (fields_with read (n - i) rest) ≡ None = rw (k, ← name) refl in
    sym (so_far ∙ none)

pub no_type : (read : Bytes → Option (Ty × Bytes)) (total : Option (Fields × Bytes)) (front : Fields) (n i : ℕ) (rest f after_name : Bytes) → i < n → Some (f, after_name) ≡ text_at rest → None ≡ read after_name → total ≡ with_fields front (fields_with read (n - i) rest) → None ≡ total
unfolding fields_with
no_type read total front n i rest f after_name lt name type so_far =
    let k : n - i ≡ suc (n - (i + 1)) = omega arith in
    let none : with_fields front (fields_with read (n - i) rest) ≡ None = rw (k, ← name, ← type) refl in
    sym (so_far ∙ none)

pub fields_end : (read : Bytes → Option (Ty × Bytes)) (total : Option (Fields × Bytes)) (front : Fields) (n i : ℕ) (rest : Bytes) → n ≤ i → total ≡ with_fields front (fields_with read (n - i) rest) → Some (front, rest) ≡ total
unfolding fields_with
fields_end read total front n i rest le so_far =
    let k : n - i ≡ 0 = omega arith in
    let one : with_fields front (fields_with read (n - i) rest) ≡ Some (front, rest) = rw k (ap (λ fs. Some (fs, rest)) (joined_fields-nil front)) in
    sym (so_far ∙ one)

pub type_at-step : (deep : ℕ) (bytes : Bytes) → deep ≢ 0 → tagged_with (type_at (deep - 1)) bytes ≡ type_at deep bytes
unfolding type_at
type_at-step zero bytes some = absurd (some refl)
type_at-step (suc deep) bytes some =
    let k : suc deep - 1 ≡ deep = omega arith in
    ap (λ d. tagged_with (type_at d) bytes) k

-- so many fields were read, with these names and types, and what is left gives the others
pub record IsReadingFields (read : Bytes → Option (Ty × Bytes)) (bytes : Bytes) (n i : ℕ) (rest : Bytes) (names : List Bytes) (types : List Ty) : Type 0 where
  pub lengths : length names ≡ length types
  pub so_far : all_fields_with read bytes ≡ with_fields (zipped names types) (fields_with read (n - i) rest)

module _ {A : Type 0} (see : A → Ty) where
  pub reading_starts : (read : Bytes → Option (Ty × Bytes)) (bytes : Bytes) (n : ℕ) (rest : Bytes) (names : List Bytes) (xs : List A) → names ≡ [] → xs ≡ [] → Some (n, rest) ≡ number_at bytes → IsReadingFields read bytes n 0 rest names (map see xs)
  reading_starts read bytes n rest names xs no_names no_types e =
      let k : n - 0 ≡ n = omega arith in
      record {
        lengths = ap length no_names ∙ ap (λ ys. length (map see ys)) (sym no_types);
        so_far = fields_start read bytes n rest e ∙ ap (λ i. with_fields no_fields (fields_with read i rest)) (sym k)
            ∙ ap (λ fs. with_fields fs (fields_with read (n - 0) rest)) (ap (λ ys. zipped [] (map see ys)) (sym no_types) ∙ ap (λ ns. zipped ns (map see xs)) (sym no_names));
      }

  pub reading_goes_on : (read : Bytes → Option (Ty × Bytes)) (bytes : Bytes) (n i : ℕ) (rest : Bytes) (names new_names : List Bytes) (xs new_xs : List A) (f after_name : Bytes) (x : A) (after : Bytes) → i < n
      → Some (f, after_name) ≡ text_at rest → Some (see x, after) ≡ read after_name → new_names ≡ names ++ f ∷ [] → new_xs ≡ xs ++ x ∷ []
      → IsReadingFields read bytes n i rest names (map see xs) → IsReadingFields read bytes n (i + 1) after new_names (map see new_xs)
  reading_goes_on read bytes n i rest names new_names xs new_xs f after_name x after lt name type ns ts r =
      let lengths : length names ≡ length xs = omega (arith, r.lengths, length-map xs see) in
      let row : zipped new_names (map see new_xs) ≡ joined_fields (zipped names (map see xs)) (field f (see x) no_fields) = ap (λ a. zipped a (map see new_xs)) ns ∙ ap (λ a. zipped (names ++ f ∷ []) (map see a)) ts ∙ zipped-push see names xs f x lengths in
      record {
        lengths = omega (arith, lengths, ap length ns, ap length ts, length-map new_xs see, length-append names (f ∷ []), length-append xs (x ∷ []));
        so_far = fields_go_on read (all_fields_with read bytes) (zipped names (map see xs)) n i rest f after_name (see x) after lt name type r.so_far ∙ ap (λ fs. with_fields fs (fields_with read (n - (i + 1)) after)) (sym row);
      }
