-- The tables that inputs tell: those of texts of CSV are of their records, and the blocks of each are a table with its zones.
use Rattle.std.proofs.Common.{◌≡◌, refl, ap, sym, ◌∙◌, subst, ℕ, ◌<◌, nat_le, Bool, true, false, cond, List, [], ◌∷◌, ◌++◌, map, length, flat_map, Option, Some, None, Result, Ok, Err, unwrap_or}
use Rattle.std.proofs.lemmas.List.{map-append}
use Rattle.vx_dtype.specs.Types.{Bytes, Fields}
use Rattle.vx_dtype.specs.Values.{Val}
use Rattle.vx_tables.specs.Blocks.{table_refusal}
use Rattle.vx_request.specs.Requests.{most_bytes}
use Rattle.vx_request.specs.Tables.{ToldTable, told_table}
use Rattle.vx_request.specs.declared.errors.RequestError.{RequestError}
use Rattle.vx_laws_csv.specs.Refusals.{Refusal, ◌>>=◌, unless_refused}
use Rattle.vx_laws_csv.specs.Sheets.{form_refusal, records_of}
use Rattle.vx_laws_csv.specs.CsvTables.{CsvTable, cut, row_val, table_with, number_refusal, given_refusal, found_columns, found_behind, found_in, found_table, typed_behind, typed_in, typed_table}
use Rattle.vx_laws_csv.proofs.Cutting.{cutting_keeps_rows}
use Rattle.vx_laws_csv.proofs.Whole.{tables_are_whole, tables_hold_the_cells}
use Rattle.vx_cutting.specs.CutLaws.{all_rows}
use Rattle.vx_laws_shell.specs.ToldTables.{table_told}
use Rattle.vx_laws_shell.proofs.ToldTables.{told_tables_are_tables}
use Rattle.vx_laws_writing.specs.WriteWords.{InputForm, of_json, of_csv}
use Rattle.vx_laws_writing.specs.Writing.{InputFault, csv_table, csv_told, json_told, long_text, rows_unnamed, table_by, told_csv}
use Rattle.vx_laws_writing.specs.WriteLaws.{IsTableOfText, TablesAreOfTheirTexts}

-- what holds of an answer where there is one, and how it holds behind steps
abbrev Holds : {X E : Type 0} → (X → Type 0) → Result X E → Type 0
Holds P (Ok x) = P x
Holds P (Err e) = Unit {0}

unless-holds : {X : Type 0} (P : X → Type 0) (o : Option Refusal) (answer : Result X Refusal) → Holds P answer → Holds P (unless_refused o answer)
unless-holds P None answer h = h
unless-holds P (Some r) answer h = tt

step-holds : {X Y : Type 0} (P : Y → Type 0) (r : Result X Refusal) (next : X → Result Y Refusal) → ((x : X) → r ≡ Ok x → Holds P (next x)) → Holds P (r >>= next)
step-holds P (Ok x) next h = h x refl
step-holds P (Err e) next h = tt

named-holds : {X Y : Type 0} (P : Y → Type 0) (o : Option Refusal) (names : X) (next : X → Result Y Refusal) → Holds P (next names) → Holds P (unless_refused o (Ok names) >>= next)
named-holds P None names next h = h
named-holds P (Some r) names next h = tt

-- the table of a text
abbrev IsOfText : Bytes → Option Fields → ℕ → Bytes → CsvTable → Type 0
IsOfText null given size text table = IsTableOfText null given size text (told_csv table)

found-rows : (most : ℕ) (null : Bytes) (size : ℕ) (text : Bytes) (records : List (List Bytes)) → records_of text ≡ Ok records → Holds (IsOfText null None size text) (found_in null size most records)
found-rows most null size text [] is = tt
found-rows most null size text (names ∷ rows) is =
    let P = IsOfText null None size text in
    let table = table_with null size (found_columns null names rows) rows in
    named-holds P (form_refusal names rows) names (found_behind null size most rows)
    (unless-holds P (number_refusal most rows) (Ok table) (record { names = names; rows = rows; records_are = is; told_is = refl }))

found-holds : (most : ℕ) (null : Bytes) (size : ℕ) (text : Bytes) → Holds (IsOfText null None size text) (found_table null size most text)
found-holds most null size text = step-holds (IsOfText null None size text) (records_of text) (found_in null size most) (found-rows most null size text)

typed-rows : (most : ℕ) (null : Bytes) (size : ℕ) (fs : Fields) (text : Bytes) (records : List (List Bytes)) → records_of text ≡ Ok records
    → Holds (IsOfText null (Some fs) size text) (typed_in null size most fs records)
typed-rows most null size fs text [] is = tt
typed-rows most null size fs text (names ∷ rows) is =
    let P = IsOfText null (Some fs) size text in
    let table = table_with null size fs rows in
    named-holds P (form_refusal names rows) names (typed_behind null size most fs rows)
    (unless-holds P (number_refusal most rows) (unless_refused (given_refusal null fs names rows) (Ok table))
    (unless-holds P (given_refusal null fs names rows) (Ok table) (record { names = names; rows = rows; records_are = is; told_is = refl })))

typed-holds : (most : ℕ) (null : Bytes) (size : ℕ) (fs : Fields) (text : Bytes) → Holds (IsOfText null (Some fs) size text) (typed_table null size most fs text)
typed-holds most null size fs text = step-holds (IsOfText null (Some fs) size text) (records_of text) (typed_in null size most fs) (typed-rows most null size fs text)

text-holds : (most : ℕ) (null : Bytes) (given : Option Fields) (size : ℕ) (text : Bytes) → Holds (IsOfText null given size text) (csv_table most null given size text)
text-holds most null None size text = found-holds most null size text
text-holds most null (Some fs) size text = typed-holds most null size fs text

-- the same told, within the length of an input
told-holds : (P : ToldTable → Type 0) (answer : Result CsvTable Refusal) → Holds (λ table. P (told_csv table)) answer → Holds P (csv_told answer)
told-holds P (Ok table) h = h
told-holds P (Err r) h = tt

within-holds : (P : ToldTable → Type 0) (b : Bool) (answer : Result ToldTable InputFault) → Holds P answer → Holds P (cond b answer (Err long_text))
within-holds P true answer h = h
within-holds P false answer h = tt

pub tables_are_of_their_texts : TablesAreOfTheirTexts
tables_are_of_their_texts most null given rows text told h =
    let size = unwrap_or rows rows_unnamed in
    let P = IsTableOfText null given size text in
    subst (Holds P) h
    (within-holds P (nat_le (length text) most_bytes) (csv_told (csv_table most null given size text)) (told-holds P (csv_table most null given size text) (text-holds most null given size text)))

-- the blocks of the table of a text are a table with its zones
pub text_tables_are_tables : (null : Bytes) (size : ℕ) (fs : Fields) (rows : List (List Bytes)) → table_refusal (table_with null size fs rows).zones (table_with null size fs rows).blocks ≡ None
text_tables_are_tables null size fs rows =
    let whole = tables_are_whole null size fs rows in
    rw (whole.lengths, whole.types) refl

-- and so are those of each table that an input tells
abbrev IsUnrefused : ToldTable → Type 0
IsUnrefused told = table_refusal told.zones told.blocks ≡ None

json-holds : (P : ToldTable → Type 0) (answer : Result ToldTable RequestError) → ((told : ToldTable) → answer ≡ Ok told → P told) → Holds P (json_told answer)
json-holds P (Ok told) h = h told refl
json-holds P (Err e) h = tt

pub tables_told_are_tables : (most : ℕ) (form : InputForm) (rows : Option ℕ) (input : Bytes) (told : ToldTable) → table_by most form rows input ≡ Ok told → table_refusal told.zones told.blocks ≡ None
tables_told_are_tables most of_json rows input told h = subst (Holds IsUnrefused) h (json-holds IsUnrefused (told_table input) (told_tables_are_tables input))
tables_told_are_tables most (of_csv null given) rows input told h =
    let is = tables_are_of_their_texts most null given rows input told h in
    subst IsUnrefused (sym is.told_is) (text_tables_are_tables null (unwrap_or rows rows_unnamed) (unwrap_or given (found_columns null is.names is.rows)) is.rows)

-- the rows of the table of a text
joined-map : {A B : Type 0} (f : A → B) (parts : List (List A)) → flat_map (λ part. part) (map (map f) parts) ≡ map f (flat_map (λ part. part) parts)
joined-map f [] = refl
joined-map f (part ∷ parts) = ap (λ ys. map f part ++ ys) (joined-map f parts) ∙ sym (map-append f part (flat_map (λ part. part) parts))

pub text_rows : (null : Bytes) (size : ℕ) (fs : Fields) (rows : List (List Bytes)) → 0 < size
    → all_rows (table_told (told_csv (table_with null size fs rows))).blocks ≡ map (row_val null fs) rows
text_rows null size fs rows some =
    ap all_rows (tables_hold_the_cells null size fs rows).blocks ∙ joined-map (row_val null fs) (cut size rows) ∙ ap (map (row_val null fs)) (cutting_keeps_rows size rows some)
