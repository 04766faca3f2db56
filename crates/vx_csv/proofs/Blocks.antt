-- Rows cut into blocks, as a loop over what is left of them meets them, and the columns of a block.
use Rattle.std.proofs.Common.{◌≡◌, ◌∙◌, refl, sym, ap, ℕ, zero, suc, ◌+◌, ◌<◌, ◌≤◌, min, true, List, [], ◌∷◌, map, take, drop, length, get_or, length-take, length-drop, arith}
use Rattle.std.specs.List.{list_all}
use Rattle.std.proofs.lemmas.Bool.{and_parts}
use Rattle.std.proofs.lemmas.List.{drop_more, drop_all, take-map, take_min, drop_min, length-map}
use Rattle.csv.specs.Records.{Row, fields_of}
use Rattle.vx_dtype.specs.Types.{Bytes, Ty, bool_ty, int_ty, text_ty, list_ty, struct_ty}
use Rattle.vx_dtype.specs.declared.types.DType.{DType}
use Rattle.vx_dtype.specs.TypeViews.{type_view}
use Rattle.vx_dtype.specs.TypeRules.{is_plain, no_name_twice}
use Rattle.vx_laws_csv.specs.Cells.{cell_at}
use Rattle.vx_laws_csv.specs.FoundTypes.{all_taken}
use Rattle.vx_laws_csv.specs.Sheets.{are_texts}
use Rattle.vx_laws_csv.specs.CsvTables.{parts_within, cut, rows_taken, columns_taken, column_of, columns_from, row_taken}
use Rattle.vx_laws_csv.proofs.Lists.{map-drop, all-drop, all-take}
use Rattle.vx_laws_csv.proofs.Cutting.{cut-first}
use Rattle.std.specs.Str.{is_utf8}

-- ---- one block more

pub cut-step : (size : ℕ) (left block rest : List Row) → 0 < size → 0 < length left → block ≡ take (min size (length left)) left → rest ≡ drop (min size (length left)) left
    → cut size (map fields_of left) ≡ map fields_of block ∷ cut size (map fields_of rest)
cut-step size left block rest some long front back =
    let first : take size (map fields_of left) ≡ map fields_of block = take-map fields_of size left ∙ ap (map fields_of) (sym (take_min size left) ∙ sym front) in
    let others : drop size (map fields_of left) ≡ map fields_of rest = map-drop fields_of size left ∙ ap (map fields_of) (sym (drop_min size left) ∙ sym back) in
    let filled = length-map left fields_of in
    cut-first size (map fields_of left) some (omega (arith, long, filled)) ∙ (λ j. first j ∷ cut size (others j))

pub block-length : (size : ℕ) (left block : List Row) → block ≡ take (min size (length left)) left → min size (length left) ≡ length (map fields_of block)
block-length size left block front =
    let long = length-take (min size (length left)) left in
    let same = ap (λ (rs : List Row). length rs) front in
    let seen = length-map block fields_of in
    omega (arith, long, same, seen)

-- what holds of the rows that are left holds of the block and of the rest
pub texts-front : (n : ℕ) (left block : List Row) → block ≡ take n left → are_texts (map fields_of left) ≡ true → are_texts (map fields_of block) ≡ true
texts-front n left block front h = ap (λ (rs : List Row). are_texts (map fields_of rs)) front ∙ ap are_texts (sym (take-map fields_of n left)) ∙ all-take (list_all is_utf8) n (map fields_of left) h

pub texts-back : (n : ℕ) (left rest : List Row) → rest ≡ drop n left → are_texts (map fields_of left) ≡ true → are_texts (map fields_of rest) ≡ true
texts-back n left rest back h = ap (λ (rs : List Row). are_texts (map fields_of rs)) back ∙ ap are_texts (sym (map-drop fields_of n left)) ∙ all-drop (list_all is_utf8) n (map fields_of left) h

pub taken-front : (null : Bytes) (ts : List Ty) (n : ℕ) (left block : List Row) → block ≡ take n left → rows_taken null ts (map fields_of left) ≡ true → rows_taken null ts (map fields_of block) ≡ true
taken-front null ts n left block front h =
    ap (λ (rs : List Row). rows_taken null ts (map fields_of rs)) front ∙ ap (rows_taken null ts) (sym (take-map fields_of n left)) ∙ all-take (row_taken null 0 ts) n (map fields_of left) h

pub taken-back : (null : Bytes) (ts : List Ty) (n : ℕ) (left rest : List Row) → rest ≡ drop n left → rows_taken null ts (map fields_of left) ≡ true → rows_taken null ts (map fields_of rest) ≡ true
taken-back null ts n left rest back h =
    ap (λ (rs : List Row). rows_taken null ts (map fields_of rs)) back ∙ ap (rows_taken null ts) (sym (map-drop fields_of n left)) ∙ all-drop (row_taken null 0 ts) n (map fields_of left) h

-- a cut has no more parts than items
parts-count : {A : Type 0} (most size : ℕ) (xs : List A) → 0 < size → length (parts_within most size xs) ≤ length xs
parts-count zero size xs some = omega arith
parts-count (suc most) size [] some = omega arith
parts-count (suc most) size (x ∷ xs) some =
    let rest = parts-count most size (drop size (x ∷ xs)) some in
    let left = length-drop size (x ∷ xs) in
    omega (arith, rest, left, some)

pub cut-count : {A : Type 0} (size : ℕ) (xs : List A) → 0 < size → length (cut size xs) ≤ length xs
cut-count size xs some = parts-count (length xs) size xs some

-- ---- one column more

-- what is known of the columns from a place on
pub record AreSound (null : Bytes) (i : ℕ) (dtypes : List DType) (rows : List (List Bytes)) : Type 0 where
  pub plain : list_all is_plain (map type_view dtypes) ≡ true
  pub taken : columns_taken null i (map type_view dtypes) rows ≡ true

-- what is known of the one there
pub record IsSound (null : Bytes) (i : ℕ) (d : DType) (rows : List (List Bytes)) : Type 0 where
  pub plain : is_plain (type_view d) ≡ true
  pub taken : all_taken null (type_view d) (map (cell_at i) rows) ≡ true

pub sound-here : (null : Bytes) (i : ℕ) (dtypes : List DType) (d : DType) (rows : List (List Bytes)) → i < length dtypes → d ≡ get_or dtypes i d
    → AreSound null i (drop i dtypes) rows → IsSound null i d rows × AreSound null (i + 1) (drop (i + 1) dtypes) rows
sound-here null i dtypes d rows h is s =
    let later = drop (i + 1) dtypes in
    let here : drop i dtypes ≡ d ∷ later = drop_more dtypes i d h ∙ ap (λ (x : DType). x ∷ later) (sym is) in
    let plain : list_all is_plain (map type_view (d ∷ later)) ≡ true = sym (ap (λ (ds : List DType). list_all is_plain (map type_view ds)) here) ∙ s.plain in
    let taken : columns_taken null i (map type_view (d ∷ later)) rows ≡ true = sym (ap (λ (ds : List DType). columns_taken null i (map type_view ds) rows) here) ∙ s.taken in
    let plains = and_parts (is_plain (type_view d)) (list_all is_plain (map type_view later)) plain in
    let takens = and_parts (all_taken null (type_view d) (map (cell_at i) rows)) (columns_taken null (i + 1) (map type_view later) rows) taken in
    (record { plain = plains.0; taken = takens.0 }, record { plain = plains.1; taken = takens.1 })

pub columns-step : (null : Bytes) (i : ℕ) (dtypes : List DType) (d : DType) (rows : List (List Bytes)) → i < length dtypes → d ≡ get_or dtypes i d
    → columns_from null i (map type_view (drop i dtypes)) rows ≡ column_of null i (type_view d) rows ∷ columns_from null (i + 1) (map type_view (drop (i + 1) dtypes)) rows
columns-step null i dtypes d rows h is =
    ap (λ (ds : List DType). columns_from null i (map type_view ds) rows) (drop_more dtypes i d h)
    ∙ ap (λ (x : DType). column_of null i (type_view x) rows ∷ columns_from null (i + 1) (map type_view (drop (i + 1) dtypes)) rows) (sym is)

pub columns-end : (null : Bytes) (i : ℕ) (dtypes : List DType) (rows : List (List Bytes)) → length dtypes ≤ i → columns_from null i (map type_view (drop i dtypes)) rows ≡ []
columns-end null i dtypes rows h = ap (λ (ds : List DType). columns_from null i (map type_view ds) rows) (drop_all i dtypes h)

-- in a plain type no name stands twice
pub plain-names : (t : Ty) → is_plain t ≡ true → no_name_twice t ≡ true
unfolding no_name_twice
plain-names (bool_ty n) h = refl
plain-names (int_ty p n) h = refl
plain-names (text_ty n) h = refl
plain-names (list_ty e n) h = absurd cc
plain-names (struct_ty fs n) h = absurd cc
