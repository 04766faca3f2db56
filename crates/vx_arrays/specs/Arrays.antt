-- Columns in the layout of the columnar format of Apache Arrow, as the body of a record batch holds them: one body of bytes, and the place of each buffer in
-- it. The buffers stand in the order of the columns. A column of booleans or of integers has two, validity and values; one of texts three, validity, offsets
-- and bytes. Lists and structs have none here. A buffer may be longer than its column needs, since Arrow pads buffers, and never shorter.
use Rattle.std.specs.Prelude.{◌≡◌, ℕ, ◌+◌, ◌*◌, nat_le, nat_lt, ◌==◌, ℤ, pos, Bool, not, ◌&&◌, ◌||◌, cond}
use Rattle.std.specs.Prelude.{List, [], ◌∷◌, length, map, take, drop, slice_index, slice_range, Option, Some, None, is_some, Result, Ok, Err}
use Rattle.std.specs.Int.{w8, w16, w32, w64, from_le_bytes, cast_signed}
use Rattle.std.specs.List.{list_all, range_with_len}
use Rattle.std.specs.Str.{is_utf8}
use Rattle.std.specs.declared.vec.Vec.{Vec}
use Rattle.std.specs.declared.alloc.Global.{Global}
use Rattle.vx_dtype.specs.declared.Nullability.{Nullability}
use Rattle.vx_dtype.specs.declared.PType.{PType}
use Rattle.vx_dtype.specs.declared.PType.TheVariants.{U8, U16, U32, U64, I8, I16, I32, I64}
use Rattle.vx_dtype.specs.Types.{Bytes, Ty, bool_ty, int_ty, text_ty, list_ty, struct_ty}
use Rattle.vx_dtype.specs.TypeRules.{is_nullable, nullability_of}
use Rattle.vx_dtype.specs.Values.{Val}
use Rattle.vx_words.specs.Words.{truth_val}
use Rattle.vx_column.specs.Columns.{Column, column}
use Rattle.vx_column.specs.PlainValues.{number_val, text_or_null}
use Rattle.vx_arrays.specs.Bitmaps.{bytes_for, bit_at}
use Rattle.vx_arrays.specs.declared.errors.ArrayError.{ArrayError}
use Rattle.vx_arrays.specs.declared.errors.ArrayError.TheVariants.{NoMemory, NoArray, WrongBuffers, BadText, NullCell}

infixl 10 ◌>>=◌
-- what is answered further on; a refusal ends it
abbrev pub ◌>>=◌ : {A B : Type 0} → Result A ArrayError → (A → Result B ArrayError) → Result B ArrayError
Ok x >>= f = f x
Err e >>= f = Err e

-- the refusal where the condition doesn't hold, else the answer
abbrev pub unless : {A : Type 0} → Bool → ArrayError → Result A ArrayError → Result A ArrayError
unless b e answer = cond b answer (Err e)

-- ---- buffers: two numbers each, its first byte in the body and how many it has

-- the two numbers of a buffer, by its own number, which counts from 0
abbrev pub buffer_start : List ℕ → ℕ → ℕ
buffer_start buffers k = slice_index buffers (2 * k)

abbrev pub buffer_length : List ℕ → ℕ → ℕ
buffer_length buffers k = slice_index buffers (2 * k + 1)

-- whether there is a buffer of this number, and it lies in the body
abbrev pub has_buffer : Bytes → List ℕ → ℕ → Bool
has_buffer body buffers k =
    nat_lt (2 * k + 1) (length buffers) && nat_le (buffer_start buffers k + buffer_length buffers k) (length body)

-- the buffer of this number
unfoldable pub buffer_told : Bytes → List ℕ → ℕ → Result Bytes ArrayError
buffer_told body buffers k =
    unless (has_buffer body buffers k) WrongBuffers (Ok (take (buffer_length buffers k) (drop (buffer_start buffers k) body)))

-- ---- cells

-- whether a bitmap has a bit for each of so many rows
abbrev pub has_bits : Bytes → ℕ → Bool
has_bits bitmap rows = nat_le (bytes_for rows) (length bitmap)

-- the same of a validity, which may have no bytes
abbrev pub has_validity : Bytes → ℕ → Bool
has_validity validity rows = (length validity == 0) || has_bits validity rows

-- whether the cell at a row isn't null: its bit of validity is 1; where the validity has no bytes, no cell is null
abbrev pub is_valid : Bytes → ℕ → Bool
is_valid validity i = (length validity == 0) || bit_at validity i

-- what stands at a row: the value there, and none where the cell is null
abbrev pub cell_at : {A : Type 0} → Bytes → (ℕ → A) → ℕ → Option A
cell_at validity value i = cond (is_valid validity i) (Some (value i)) None

-- what stands at each of so many rows
abbrev pub cells : {A : Type 0} → Bytes → (ℕ → A) → ℕ → List (Option A)
cells validity value rows = map (cell_at validity value) (range_with_len 0 rows)

-- whether a column of this nullability may have these cells
abbrev pub may_have : {A : Type 0} → Nullability → List (Option A) → Bool
may_have n xs = is_nullable n || list_all is_some xs

-- the column of a type whose rows these cells are, each as its value
abbrev pub column_of_cells : {A : Type 0} → Ty → (Option A → Val) → List (Option A) → Result Column ArrayError
column_of_cells t value xs = unless (may_have (nullability_of t) xs) NullCell (Ok (column t (map value xs)))

-- ---- booleans: a bitmap

-- the column of booleans over so many rows that has these buffers
unfoldable pub truths_column : Nullability → ℕ → Bytes → Bytes → Result Column ArrayError
truths_column n rows validity values =
    unless (has_validity validity rows && has_bits values rows) WrongBuffers
    (column_of_cells (bool_ty n) truth_val (cells validity (bit_at values) rows))

-- ---- integers: the least byte first, signed ones in two's complement

-- how many bytes a number of an integer type has
abbrev pub width_of : PType → ℕ
width_of U8 = 1
width_of U16 = 2
width_of U32 = 4
width_of U64 = 8
width_of I8 = 1
width_of I16 = 2
width_of I32 = 4
width_of I64 = 8

-- the number of an integer type that these bytes are
abbrev pub number_of : PType → Bytes → ℤ
number_of U8 bytes = pos (from_le_bytes w8 bytes)
number_of U16 bytes = pos (from_le_bytes w16 bytes)
number_of U32 bytes = pos (from_le_bytes w32 bytes)
number_of U64 bytes = pos (from_le_bytes w64 bytes)
number_of I8 bytes = cast_signed w8 (from_le_bytes w8 bytes)
number_of I16 bytes = cast_signed w16 (from_le_bytes w16 bytes)
number_of I32 bytes = cast_signed w32 (from_le_bytes w32 bytes)
number_of I64 bytes = cast_signed w64 (from_le_bytes w64 bytes)

-- the number at a row
abbrev pub number_at : PType → Bytes → ℕ → ℤ
number_at p values i = number_of p (take (width_of p) (drop (width_of p * i) values))

-- the column of integers over so many rows that has these buffers
unfoldable pub numbers_column : PType → Nullability → ℕ → Bytes → Bytes → Result Column ArrayError
numbers_column p n rows validity values =
    unless (has_validity validity rows && nat_le (width_of p * rows) (length values)) WrongBuffers
    (column_of_cells (int_ty p n) (number_val p) (cells validity (number_at p values) rows))

-- ---- texts: one offset more than rows, and the bytes of all texts

-- the offset at a row: 32 bits, the least byte first. Arrow's offsets are signed and never negative; here they are unsigned
abbrev pub offset_at : Bytes → ℕ → ℕ
offset_at offsets i = from_le_bytes w32 (take 4 (drop (4 * i) offsets))

-- the text at a row: the bytes from its offset up to but without the next one
abbrev pub text_at : Bytes → Bytes → ℕ → Bytes
text_at offsets bytes i = slice_range bytes (offset_at offsets i) (offset_at offsets (i + 1))

-- whether a row's offset isn't above the next one, and that one not above the number of bytes
abbrev pub has_place : Bytes → Bytes → ℕ → Bool
has_place offsets bytes i =
    nat_le (offset_at offsets i) (offset_at offsets (i + 1)) && nat_le (offset_at offsets (i + 1)) (length bytes)

-- whether there is an offset more than rows, and each row has its place in the bytes, also a null one; without rows there may be none
abbrev pub has_places : Bytes → Bytes → ℕ → Bool
has_places offsets bytes rows =
    (rows == 0) || (nat_le (4 * (rows + 1)) (length offsets) && list_all (has_place offsets bytes) (range_with_len 0 rows))

-- whether a row is null, or its text is UTF-8
abbrev pub has_text : Bytes → Bytes → Bytes → ℕ → Bool
has_text validity offsets bytes i = not (is_valid validity i) || is_utf8 (text_at offsets bytes i)

-- the column of texts over so many rows that has these buffers
unfoldable pub texts_column : Nullability → ℕ → Bytes → Bytes → Bytes → Result Column ArrayError
texts_column n rows validity offsets bytes =
    unless (has_validity validity rows && has_places offsets bytes rows) WrongBuffers
    (unless (list_all (has_text validity offsets bytes) (range_with_len 0 rows)) BadText
    (column_of_cells (text_ty n) text_or_null (cells validity (text_at offsets bytes) rows)))

-- ---- columns

-- how many buffers a column of a type has
abbrev pub buffer_count : Ty → ℕ
buffer_count (bool_ty n) = 2
buffer_count (int_ty p n) = 2
buffer_count (text_ty n) = 3
buffer_count (list_ty e n) = 0
buffer_count (struct_ty fs n) = 0

-- the column of a type over so many rows whose first buffer has this number. Refused, in this order: NoArray where the type is that of lists or structs;
-- WrongBuffers where one of its buffers isn't there, isn't in the body or is too short, or an offset is above the next one or above the number of bytes;
-- BadText where a text that isn't null isn't UTF-8; NullCell where a cell is null and the type isn't nullable
unfoldable pub column_told : Ty → ℕ → Bytes → List ℕ → ℕ → Result Column ArrayError
column_told (bool_ty n) rows body buffers k =
    buffer_told body buffers k >>= λ validity. buffer_told body buffers (k + 1) >>= λ values. truths_column n rows validity values
column_told (int_ty p n) rows body buffers k =
    buffer_told body buffers k >>= λ validity. buffer_told body buffers (k + 1) >>= λ values. numbers_column p n rows validity values
column_told (text_ty n) rows body buffers k =
    buffer_told body buffers k >>= λ validity. buffer_told body buffers (k + 1) >>= λ offsets.
    buffer_told body buffers (k + 2) >>= λ bytes. texts_column n rows validity offsets bytes
column_told (list_ty e n) rows body buffers k = Err NoArray
column_told (struct_ty fs n) rows body buffers k = Err NoArray

-- the columns of types over so many rows, where the first buffer of the first has this number; WrongBuffers where numbers are left behind those of the last
abbrev pub columns_from : ℕ → List Ty → ℕ → Bytes → List ℕ → Result (List Column) ArrayError
columns_from k [] rows body buffers = unless (length buffers == 2 * k) WrongBuffers (Ok [])
columns_from k (t ∷ ts) rows body buffers =
    column_told t rows body buffers k >>= λ c. columns_from (k + buffer_count t) ts rows body buffers >>= λ cs. Ok (c ∷ cs)

-- the columns of types over so many rows, by the body and the numbers of the buffers; else the refusal of the first column that is refused
abbrev pub arrays_told : List Ty → ℕ → Bytes → List ℕ → Result (List Column) ArrayError
arrays_told ts rows body buffers = columns_from 0 ts rows body buffers

-- the answer is the one that is told, but for want of memory, which may come at any time
abbrev pub Answers : {A X : Type 0} → (X → A) → Result A ArrayError → Result X ArrayError → Type 0
Answers view told (Err NoMemory) = Unit {0}
Answers view told (Err e) = told ≡ Err e
Answers view told (Ok x) = told ≡ Ok (view x)

-- the same of columns
abbrev pub AnswersArrays : Result (List Column) ArrayError → Result (Vec Column Global) ArrayError → Type 0
AnswersArrays told answer = Answers (λ (cs : Vec Column Global). cs.items) told answer
