-- The values of a range, read one after the other.
use Rattle.std.proofs.Common.{◌≡◌, refl, sym, ap, ◌∙◌, ℕ, zero, suc, ◌+◌, ◌≤◌, ◌<◌, true, List, [], ◌∷◌, ◌++◌, Option, Some, None}
use Rattle.std.proofs.lemmas.Bool.{and_from, and_parts}
use Rattle.vx_dtype.specs.Types.{Bytes, Ty}
use Rattle.vx_dtype.specs.Values.{Raw, Val, valued}
use Rattle.vx_dtype.specs.Fits.{fits}
use Rattle.vx_dtype.specs.RawViews.{raw_view}
use Rattle.vx_dtype.specs.declared.values.ScalarValue.{ScalarValue}
use Rattle.vx_wire_bytes.specs.Reading.{◌>>=◌}
use Rattle.vx_wire_bytes.specs.ValueReading.{value_at}
use Rattle.vx_column.specs.Columns.{values_fit, seen, seen_rows}
use Rattle.vx_laws_file.specs.HeaderReading.{items_with}
use Rattle.vx_laws_file.specs.HeldTables.{values_at}
use Rattle.vx_file_bytes.proofs.ItemLemmas.{IsReadingItems, items_start, items_go_on, no_item, items_end}

-- a value that was read, as what it stands for
abbrev taken : Ty → Raw × Bytes → Option (Val × Bytes)
taken t x = Some (valued x.0 t, x.1)

-- a value of a type at the front, as what it stands for
pub val_at : Ty → Bytes → Option (Val × Bytes)
val_at t bytes = value_at t bytes >>= taken t

-- a value, and those behind it, each read so
abbrev with_more : (Bytes → Option (List Val × Bytes)) → Val × Bytes → Option (List Val × Bytes)
with_more read y = read y.1 >>= λ vs. Some (y.0 ∷ vs.0, vs.1)

val_is : (t : Ty) (n : ℕ) (o : Option (Raw × Bytes)) → (o >>= λ x. values_at t n x.1 >>= λ vs. Some (valued x.0 t ∷ vs.0, vs.1)) ≡ ((o >>= taken t) >>= with_more (values_at t n))
val_is t n None = refl
val_is t n (Some x) = refl

values_are_items : (t : Ty) (n : ℕ) (bytes : Bytes) → values_at t n bytes ≡ items_with (val_at t) n bytes
unfolding items_with val_at
values_are_items t zero bytes = refl
values_are_items t (suc n) bytes = val_is t n (value_at t bytes) ∙ ap (λ f. val_at t bytes >>= with_more f) (λ i b. values_are_items t n b i)

val_some : (t : Ty) (bytes : Bytes) (x : ScalarValue) (after : Bytes) → Some (raw_view x, after) ≡ value_at t bytes → Some (seen t x, after) ≡ val_at t bytes
unfolding val_at
val_some t bytes x after e = ap (λ o. o >>= taken t) e

val_none : (t : Ty) (bytes : Bytes) → None ≡ value_at t bytes → None ≡ val_at t bytes
unfolding val_at
val_none t bytes e = ap (λ o. o >>= taken t) e

fit_more : (t : Ty) (xs : List ScalarValue) (x : ScalarValue) → values_fit t xs ≡ true → fits (raw_view x) t ≡ true → values_fit t (xs ++ x ∷ []) ≡ true
fit_more t [] x e h = and_from (fits (raw_view x) t) true h refl
fit_more t (y ∷ ys) x e h =
    let parts = and_parts (fits (raw_view y) t) (values_fit t ys) e in
    and_from (fits (raw_view y) t) (values_fit t (ys ++ x ∷ [])) parts.0 (fit_more t ys x parts.1 h)

seen_more : (t : Ty) (xs : List ScalarValue) (x : ScalarValue) → seen_rows t (xs ++ x ∷ []) ≡ seen_rows t xs ++ seen t x ∷ []
seen_more t [] x = refl
seen_more t (y ∷ ys) x = ap (λ zs. seen t y ∷ zs) (seen_more t ys x)

-- of so many values these were read, each of which is one of the type, and what is left gives the others
pub record IsReadingValues (t : Ty) (n : ℕ) (bytes : Bytes) (i : ℕ) (rest : Bytes) (xs : List ScalarValue) : Type 0 where
  pub so_far : IsReadingItems (val_at t) n bytes i rest (seen_rows t xs)
  pub fit : values_fit t xs ≡ true

pub values_start : (t : Ty) (n : ℕ) (bytes : Bytes) (xs : List ScalarValue) → xs ≡ [] → IsReadingValues t n bytes 0 bytes xs
values_start t n bytes xs none = record { so_far = items_start (val_at t) n bytes (seen_rows t xs) (ap (seen_rows t) none); fit = ap (values_fit t) none }

pub values_go_on : (t : Ty) (n : ℕ) (bytes : Bytes) (i : ℕ) (rest : Bytes) (xs new : List ScalarValue) (x : ScalarValue) (after : Bytes) → i < n → Some (raw_view x, after) ≡ value_at t rest
    → fits (raw_view x) t ≡ true → new ≡ xs ++ x ∷ [] → IsReadingValues t n bytes i rest xs → IsReadingValues t n bytes (i + 1) after new
values_go_on t n bytes i rest xs new x after lt e h is r = record {
  so_far = items_go_on (val_at t) n bytes i rest (seen_rows t xs) (seen_rows t new) (seen t x) after lt (val_some t rest x after e) (ap (seen_rows t) is ∙ seen_more t xs x) r.so_far;
  fit = ap (values_fit t) is ∙ fit_more t xs x r.fit h;
}

pub no_value : (t : Ty) (n : ℕ) (bytes : Bytes) (i : ℕ) (rest : Bytes) (xs : List ScalarValue) → i < n → None ≡ value_at t rest → IsReadingValues t n bytes i rest xs → None ≡ values_at t n bytes
no_value t n bytes i rest xs lt e r = no_item (val_at t) n bytes i rest (seen_rows t xs) lt (val_none t rest e) r.so_far ∙ sym (values_are_items t n bytes)

pub values_end : (t : Ty) (n : ℕ) (bytes : Bytes) (i : ℕ) (rest : Bytes) (xs : List ScalarValue) → n ≤ i → IsReadingValues t n bytes i rest xs → Some (seen_rows t xs, rest) ≡ values_at t n bytes
values_end t n bytes i rest xs le r = items_end (val_at t) n bytes i rest (seen_rows t xs) le r.so_far ∙ sym (values_are_items t n bytes)
