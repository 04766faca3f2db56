-- Texts at rows: what is told of one, and of all, and their column.
use Rattle.std.proofs.Common.{◌≡◌, ℕ, ◌+◌, ◌-◌, ◌*◌, ◌<◌, List, [], ◌∷◌, ◌++◌, map, length, Bool, true, false, not, ◌&&◌, ◌||◌, Option, Some, None, cond, refl, ◌∙◌, sym, ap, arith, inl, inr}
use Rattle.std.specs.Prelude.{Result, Ok, Err, nat_le, ◌==◌}
use Rattle.std.specs.List.{list_all, range_with_len}
use Rattle.std.specs.Str.{IsUtf8, is_utf8}
use Rattle.std.specs.declared.vec.Vec.{Vec}
use Rattle.std.specs.declared.alloc.Global.{Global}
use Rattle.std.proofs.lemmas.Bool.{and_parts, and_from, or_cases, eqb-true, cond-true}
use Rattle.std.proofs.lemmas.List.{map_push}
use Rattle.std.proofs.lemmas.Str.{IsUtf8-from_is_utf8, is_utf8-from_IsUtf8}
use Rattle.vx_dtype.specs.declared.Nullability.{Nullability}
use Rattle.vx_dtype.specs.declared.Nullability.TheVariants.{NonNullable, Nullable}
use Rattle.vx_dtype.specs.declared.values.ScalarValue.{ScalarValue}
use Rattle.vx_dtype.specs.declared.values.ScalarValue.TheFolds.{fold-roll-ScalarValue}
use Rattle.vx_dtype.specs.declared.values.ScalarValue.TheOpen.{Utf8 as TextLayer}
use Rattle.vx_dtype.specs.declared.values.ScalarValue.TheVariants as scalars
use Rattle.vx_dtype.specs.declared.values.ScalarValue.TheVariants.{rolls-Utf8}
use Rattle.vx_dtype.specs.Fits.{fits}
use Rattle.vx_dtype.specs.RawViews.{raw_view, raw_step}
use Rattle.vx_dtype.specs.TypeRules.{no_name_twice}
use Rattle.vx_dtype.specs.Types.{Bytes, text_ty}
use Rattle.vx_dtype.specs.Values.{Raw, raw_text, null_val, text_val, valued}
use Rattle.vx_column.specs.Answers.{optional_raw}
use Rattle.vx_column.specs.Columns.{Column, column, raws_fit, raw_rows}
use Rattle.vx_column.specs.PlainValues.{text_or_null}
use Rattle.vx_arrays.specs.declared.errors.ArrayError.{ArrayError}
use Rattle.vx_arrays.specs.declared.errors.ArrayError.TheVariants.{WrongBuffers, BadText, NullCell}
use Rattle.vx_arrays.specs.Arrays.{unless, has_validity, is_valid, cell_at, cells, may_have, column_of_cells, text_at, has_place, has_places, has_text, texts_column}
use Rattle.vx_arrays.specs.Readings.{AnswersText, AnswersTexts, text_told, texts_told, column_of_texts}
use Rattle.vx_arrays.proofs.AnswerLemmas.{refused_by}
use Rattle.vx_arrays.proofs.RangeLemmas.{all_below, all_fails, all_holds, cells_more}

-- ---- places
pub place_at : (offsets bytes : Bytes) (rows i : ℕ) → has_places offsets bytes rows ≡ true → i < rows → has_place offsets bytes i ≡ true
place_at offsets bytes rows i h within =
    elim (or_cases (rows == 0) (nat_le (4 * (rows + 1)) (length offsets) && list_all (has_place offsets bytes) (range_with_len 0 rows)) h) [
      | inl none ↦ absurd (omega (arith, eqb-true rows 0 none))
      | inr both ↦
          all_below (has_place offsets bytes) rows i
          (and_parts (nat_le (4 * (rows + 1)) (length offsets)) (list_all (has_place offsets bytes) (range_with_len 0 rows)) both).1 within
    ]

-- ---- one text
not_utf8 : (bs : Bytes) → (IsUtf8 bs → ⊥) → is_utf8 bs ≡ false
not_utf8 bs h = by-test (is_utf8 bs) refl where
  by-test : (b : Bool) → is_utf8 bs ≡ b → b ≡ false
  by-test true is = absurd (h (IsUtf8-from_is_utf8 bs is))
  by-test false is = refl

known_table : (valid utf8 : Bool) (t s : Bytes) (x : Raw) → valid ≡ true → utf8 ≡ true → s ≡ t → x ≡ raw_text s
    → unless (not valid || utf8) BadText (Ok (optional_raw raw_text (cond valid (Some t) None))) ≡ Ok x
known_table true true t s x v u e is = ap (λ (y : Bytes). Ok (raw_text y)) (sym e) ∙ ap (λ (y : Raw). Ok y) (sym is)
known_table true false t s x v u e is = absurd cc
known_table false utf8 t s x v u e is = absurd cc

bad_table : (valid utf8 : Bool) (x : Raw) → valid ≡ true → utf8 ≡ false → unless (not valid || utf8) BadText (Ok x) ≡ Err BadText
bad_table true false x v u = refl
bad_table true true x v u = absurd cc
bad_table false utf8 x v u = absurd cc

pub text_known : (validity offsets bytes s : Bytes) (i : ℕ) (x : Raw) → is_valid validity i ≡ true → IsUtf8 s → s ≡ text_at offsets bytes i
    → x ≡ raw_text s → text_told validity offsets bytes i ≡ Ok x
text_known validity offsets bytes s i x v u e is =
    known_table (is_valid validity i) (is_utf8 (text_at offsets bytes i)) (text_at offsets bytes i) s x v (ap is_utf8 (sym e) ∙ is_utf8-from_IsUtf8 s u) e is

pub text_bad : (validity offsets bytes s : Bytes) (i : ℕ) → is_valid validity i ≡ true → (IsUtf8 s → ⊥) → s ≡ text_at offsets bytes i
    → text_told validity offsets bytes i ≡ Err BadText
text_bad validity offsets bytes s i v u e =
    bad_table (is_valid validity i) (is_utf8 (text_at offsets bytes i)) (optional_raw raw_text (cell_at validity (text_at offsets bytes) i)) v
    (ap is_utf8 (sym e) ∙ not_utf8 s u)

-- a text of the code stands for itself
pub raw_view-text : (s : Bytes) → raw_view (scalars.Utf8 s) ≡ raw_text s
raw_view-text s = ap raw_view (sym (rolls-Utf8 s)) ∙ fold-roll-ScalarValue Raw raw_step (TextLayer s)

-- ---- all texts
refusal_of : (b : Bool) (x : Raw) (e : ArrayError) → unless b BadText (Ok x) ≡ Err e → (b ≡ false) × (e ≡ BadText)
refusal_of true x e h = absurd cc
refusal_of false x e h = (refl, let same : e ≡ BadText = cc in same)

text_of : (b : Bool) (x y : Raw) → unless b BadText (Ok x) ≡ Ok y → (b ≡ true) × (y ≡ x)
text_of true x y h = (refl, let same : y ≡ x = cc in same)
text_of false x y h = absurd cc

module _ (validity offsets bytes : Bytes) (rows i : ℕ) (within : i < rows)
    (left : list_all (has_text validity offsets bytes) (range_with_len 0 rows) ≡ list_all (has_text validity offsets bytes) (range_with_len i (rows - i))) where
  refused_at : (e : ArrayError) → text_told validity offsets bytes i ≡ Err e → texts_told validity offsets bytes rows ≡ Err e
  refused_at e h =
      let p : ℕ → Bool = has_text validity offsets bytes in
      let all : List Raw = map (optional_raw raw_text) (cells validity (text_at offsets bytes) rows) in
      let fails = refusal_of (p i) (optional_raw raw_text (cell_at validity (text_at offsets bytes) i)) e h in
      ap (λ (b : Bool). unless b BadText (Ok all)) (all_fails p i rows (list_all p (range_with_len 0 rows)) within left fails.0)
      ∙ ap (λ (x : ArrayError). Err x) (sym fails.1)

  pub texts_refused : (e : ArrayError) → AnswersText (text_told validity offsets bytes i) (Err e)
      → AnswersTexts (texts_told validity offsets bytes rows) (Err e)
  texts_refused e h =
      refused_by raw_view (λ (xs : Vec ScalarValue Global). map raw_view xs.items) (text_told validity offsets bytes i)
      (texts_told validity offsets bytes rows) e (refused_at e) h

  pub texts_more : (old new : List ScalarValue) (x : ScalarValue) → text_told validity offsets bytes i ≡ Ok (raw_view x) → new ≡ old ++ x ∷ []
      → map raw_view old ≡ map (optional_raw raw_text) (cells validity (text_at offsets bytes) i)
      → (map raw_view new ≡ map (optional_raw raw_text) (cells validity (text_at offsets bytes) (i + 1)))
      × (list_all (has_text validity offsets bytes) (range_with_len 0 rows)
      ≡ list_all (has_text validity offsets bytes) (range_with_len (i + 1) (rows - (i + 1))))
  texts_more old new x h push before =
      let p : ℕ → Bool = has_text validity offsets bytes in
      let cell : Option Bytes = cell_at validity (text_at offsets bytes) i in
      let holds = text_of (p i) (optional_raw raw_text cell) (raw_view x) h in (
        ap (map raw_view) push
            ∙ map_push raw_view old x
            ∙ (λ k. before k ++ holds.1 k ∷ [])
            ∙ sym (map_push (optional_raw raw_text) (cells validity (text_at offsets bytes) i) cell)
            ∙ ap (map (optional_raw raw_text)) (sym (cells_more validity (text_at offsets bytes) i)),
        all_holds p i rows (list_all p (range_with_len 0 rows)) within left holds.0,
      )

-- ---- the column of texts
-- a column may have them exactly where they are of its type
texts_fit : (n : Nullability) (ts : List (Option Bytes)) → raws_fit (text_ty n) (map (optional_raw raw_text) ts) ≡ may_have n ts
unfolding fits
texts_fit Nullable [] = refl
texts_fit NonNullable [] = refl
texts_fit Nullable (None ∷ ts) = texts_fit Nullable ts
texts_fit Nullable (Some s ∷ ts) = texts_fit Nullable ts
texts_fit NonNullable (None ∷ ts) = refl
texts_fit NonNullable (Some s ∷ ts) = texts_fit NonNullable ts

text_rows : (n : Nullability) (ts : List (Option Bytes)) → raw_rows (text_ty n) (map (optional_raw raw_text) ts) ≡ map text_or_null ts
unfolding valued
text_rows n [] = refl
text_rows n (None ∷ ts) = ap (λ vs. null_val ∷ vs) (text_rows n ts)
text_rows n (Some s ∷ ts) = ap (λ vs. text_val s ∷ vs) (text_rows n ts)

-- a type of texts has no names
pub text_names : (n : Nullability) → no_name_twice (text_ty n) ≡ true
unfolding no_name_twice
text_names n = refl

-- the column of raw values is that of the cells
column-cells : (n : Nullability) (ts : List (Option Bytes)) → column_of_texts n (map (optional_raw raw_text) ts) ≡ column_of_cells (text_ty n) text_or_null ts
column-cells n ts = λ k. unless (texts_fit n ts k) NullCell (Ok (column (text_ty n) (text_rows n ts k)))

all_of : (b : Bool) (x xs : List Raw) → unless b BadText (Ok x) ≡ Ok xs → (b ≡ true) × (xs ≡ x)
all_of true x xs h = (refl, let same : xs ≡ x = cc in same)
all_of false x xs h = absurd cc

pub column-texts : (n : Nullability) (rows : ℕ) (validity offsets bytes : Bytes) (xs : List Raw) → has_validity validity rows ≡ true
    → has_places offsets bytes rows ≡ true → texts_told validity offsets bytes rows ≡ Ok xs
    → texts_column n rows validity offsets bytes ≡ column_of_texts n xs
unfolding texts_column
column-texts n rows validity offsets bytes xs v o h =
    let all : Bool = list_all (has_text validity offsets bytes) (range_with_len 0 rows) in
    let ts : List (Option Bytes) = cells validity (text_at offsets bytes) rows in
    let told : Result Column ArrayError = column_of_cells (text_ty n) text_or_null ts in
    let known = all_of all (map (optional_raw raw_text) ts) xs h in
    cond-true (has_validity validity rows && has_places offsets bytes rows) (unless all BadText told) (Err WrongBuffers)
    (and_from (has_validity validity rows) (has_places offsets bytes rows) v o)
    ∙ cond-true all told (Err BadText) known.0
    ∙ sym (column-cells n ts)
    ∙ ap (column_of_texts n) (sym known.1)
