-- Columns under names.
use Rattle.std.proofs.Common.{◌≡◌, refl, ap, sym, ◌∙◌, ℕ, zero, suc, ◌<◌, Bool, true, false, cond, ◌||◌, List, [], ◌∷◌, length, Option, Some, None, arith, position, get_or, subst}
use Rattle.std.specs.List.{slice_get, AllZip, position_or_len}
use Rattle.std.specs.Option.{option_and_then}
use Rattle.std.specs.Str.{bytes_eq}
use Rattle.std.proofs.lemmas.Bool.{lt-ltb, false≢true}
use Rattle.std.proofs.lemmas.Slice.Zip.{AllZip-long}
use Rattle.std.proofs.lemmas.Option.{same_Some, none-some}
use Rattle.std.proofs.lemmas.List.Quantifiers.{position-Some}
use Rattle.std.proofs.lemmas.Slice.Eq.{bytes_eq-Decides}
use Rattle.vx_dtype.specs.Types.{Bytes, Fields}
use Rattle.vx_dtype.specs.TypeRules.{has_name}
use Rattle.vx_column.specs.Columns.{Column}
use Rattle.vx_partition.specs.Splits.{first_of}
use Rattle.vx_prepare.specs.Preparing.{IsOf, AreOf}
use Rattle.vx_prepare.specs.Parts.{IsHeld}

-- what stands under the first name that equals one stands under it
module _ (R : Bytes → Column → Type 0) (a : Bytes) where
  at_place : (names : List Bytes) (columns : List Column) (i : ℕ) (c : Column) → AllZip R names columns → slice_get columns i ≡ Some c → R (get_or names i a) c
  at_place [] [] i c h at = absurd (none-some c at)
  at_place [] (d ∷ columns) i c h at = absurd h
  at_place (n ∷ names) [] i c h at = absurd h
  at_place (n ∷ names) (d ∷ columns) zero c h at = subst (R n) (same_Some d c at) h.0
  at_place (n ∷ names) (d ∷ columns) (suc i) c h at = at_place names columns i c h.1 at

  under_place : (names : List Bytes) (columns : List Column) (c : Column) (p : Option ℕ) → position (bytes_eq a) names ≡ p → AllZip R names columns
      → option_and_then (λ i. slice_get columns i) p ≡ Some c → R a c
  under_place names columns c None e h at = absurd (none-some c at)
  under_place names columns c (Some i) e h at =
      let first = position-Some (bytes_eq a) names i a e in
      subst (λ n. R n c) (sym ((bytes_eq-Decides a (get_or names i a)).0 first.1)) (at_place names columns i c h at)

  pub under_name : (names : List Bytes) (columns : List Column) (c : Column) → AllZip R names columns → first_of (bytes_eq a) names columns ≡ Some c → R a c
  under_name names columns c h at = under_place names columns c (position (bytes_eq a) names) refl h at

-- ---- there is one

placed_by : (a n : Bytes) (names : List Bytes) (b : Bool) → bytes_eq a n ≡ b → (b || has_name a names) ≡ true → (has_name a names ≡ true → position_or_len (bytes_eq a) names < length names)
    → position_or_len (bytes_eq a) (n ∷ names) < length (n ∷ names)
placed_by a n names true e h behind = rw e (omega arith)
placed_by a n names false e h behind = let rest = behind h in rw e (omega (arith, rest))

placed : (a : Bytes) (names : List Bytes) → has_name a names ≡ true → position_or_len (bytes_eq a) names < length names
placed a [] h = absurd (false≢true h)
placed a (n ∷ names) h = placed_by a n names (bytes_eq a n) refl h (placed a names)

get_within : {A : Type 0} (xs : List A) (i : ℕ) → i < length xs → (x : A) × (slice_get xs i ≡ Some x)
get_within [] i h = absurd (omega (arith, h))
get_within (x ∷ xs) zero h = (x, refl)
get_within (x ∷ xs) (suc i) h = get_within xs i (omega (arith, h))

as_long : (fs : Fields) (len : ℕ) (names : List Bytes) (columns : List Column) → AreOf fs len names columns → length names ≡ length columns
as_long fs len names columns h = sym (AllZip-long (IsOf fs len) names columns h)

-- under each of the names stands a column of so many rows
pub is_held : (fs : Fields) (len : ℕ) (names : List Bytes) (columns : List Column) (a : Bytes) → AreOf fs len names columns → has_name a names ≡ true → IsHeld len names columns a
is_held fs len names columns a h k =
    let place = position_or_len (bytes_eq a) names in
    let within : place < length names = placed a names k in
    let found = get_within columns place (omega (arith, within, as_long fs len names columns h)) in
    let at : position (bytes_eq a) names ≡ Some place = ap (λ b. cond b (Some place) None) (lt-ltb place (length names) within) in
    let first : first_of (bytes_eq a) names columns ≡ Some found.0 = ap (option_and_then (λ i. slice_get columns i)) at ∙ found.1 in
    (found.0, first, (under_name (IsOf fs len) a names columns found.0 h first).1)
