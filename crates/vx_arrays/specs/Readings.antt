-- For the checker: no public clause cites this. What is answered on the way to columns.
use Rattle.std.specs.Prelude.{ℕ, List, ◌++◌, map, Result, Ok, Err}
use Rattle.std.specs.List.{list_all, range_with_len}
use Rattle.std.specs.declared.vec.Vec.{Vec}
use Rattle.std.specs.declared.alloc.Global.{Global}
use Rattle.vx_dtype.specs.declared.Nullability.{Nullability}
use Rattle.vx_dtype.specs.declared.values.ScalarValue.{ScalarValue}
use Rattle.vx_dtype.specs.RawViews.{raw_view}
use Rattle.vx_dtype.specs.Types.{Bytes, text_ty}
use Rattle.vx_dtype.specs.Values.{Raw, raw_text}
use Rattle.vx_column.specs.Answers.{optional_raw}
use Rattle.vx_column.specs.Columns.{Column, column, raws_fit, raw_rows}
use Rattle.vx_arrays.specs.declared.errors.ArrayError.{ArrayError}
use Rattle.vx_arrays.specs.declared.errors.ArrayError.TheVariants.{BadText, NullCell}
use Rattle.vx_arrays.specs.Arrays.{Answers, unless, cell_at, cells, text_at, has_text}

-- what is answered of one column
abbrev pub AnswersOne : Result Column ArrayError → Result Column ArrayError → Type 0
AnswersOne told answer = Answers (λ (c : Column). c) told answer

-- the text at a row as a raw value, or that it is none
abbrev pub text_told : Bytes → Bytes → Bytes → ℕ → Result Raw ArrayError
text_told validity offsets bytes i =
    unless (has_text validity offsets bytes i) BadText (Ok (optional_raw raw_text (cell_at validity (text_at offsets bytes) i)))

abbrev pub AnswersText : Result Raw ArrayError → Result ScalarValue ArrayError → Type 0
AnswersText told answer = Answers raw_view told answer

-- the texts at so many rows, or that one is none
abbrev pub texts_told : Bytes → Bytes → Bytes → ℕ → Result (List Raw) ArrayError
texts_told validity offsets bytes rows =
    unless (list_all (has_text validity offsets bytes) (range_with_len 0 rows)) BadText
    (Ok (map (optional_raw raw_text) (cells validity (text_at offsets bytes) rows)))

abbrev pub AnswersTexts : Result (List Raw) ArrayError → Result (Vec ScalarValue Global) ArrayError → Type 0
AnswersTexts told answer = Answers (λ (xs : Vec ScalarValue Global). map raw_view xs.items) told answer

-- the column of raw values of a type of texts; NullCell where one isn't of the type
abbrev pub column_of_texts : Nullability → List Raw → Result Column ArrayError
column_of_texts n xs = unless (raws_fit (text_ty n) xs) NullCell (Ok (column (text_ty n) (raw_rows (text_ty n) xs)))

-- columns that are answered already, before those that are told
abbrev pub behind : List Column → Result (List Column) ArrayError → Result (List Column) ArrayError
behind cs (Ok ds) = Ok (cs ++ ds)
behind cs (Err e) = Err e
