-- How what the calls answer is seen.
use Rattle.std.specs.Prelude.{◌≡◌, List, map, Result, Ok, Err}
use Rattle.std.specs.declared.vec.Vec.{Vec}
use Rattle.std.specs.declared.alloc.Global.{Global}
use Rattle.csv.specs.Records.{Row, fields_of}
use Rattle.vx_dtype.specs.Types.{Bytes, Ty}
use Rattle.vx_dtype.specs.TypeViews.{type_view}
use Rattle.vx_tables.specs.Blocks.{block_view}
use Rattle.vx_laws_csv.specs.Refusals as told
use Rattle.vx_laws_csv.specs.CsvTables as tables
use Rattle.vx_csv.specs.declared.errors.CsvRefusal.{CsvRefusal}
use Rattle.vx_csv.specs.declared.errors.CsvRefusal.TheVariants as refusal
use Rattle.vx_csv.specs.declared.errors.CsvError.{CsvError}
use Rattle.vx_csv.specs.declared.errors.CsvError.TheVariants.{NoMemory, Refused}
use Rattle.vx_csv.specs.declared.tables.CsvTable.{CsvTable}
use Rattle.vx_csv.specs.declared.given.GivenColumns.{GivenColumns}

-- a refusal as data
abbrev pub refusal_view : CsvRefusal → told.Refusal
refusal_view refusal.QuoteLeftOpen = told.quote_left_open
refusal_view refusal.NoHeader = told.no_header
refusal_view (refusal.NotText row column) = told.not_text row column
refusal_view refusal.NameTwice = told.name_twice
refusal_view (refusal.OtherLength row cells names) = told.other_length row cells names
refusal_view (refusal.TooManyRows rows) = told.too_many_rows rows
refusal_view refusal.OtherNames = told.other_names
refusal_view (refusal.NotPlain column dtype) = told.not_plain column (type_view dtype)
refusal_view (refusal.BadCell row column cell dtype) = told.bad_cell row column cell.items (type_view dtype)

-- the rules refuse with what the error holds; want of memory may be answered at any time
abbrev pub Refuses : {A : Type 0} → Result A told.Refusal → CsvError → Type 0
Refuses given NoMemory = Unit {0}
Refuses given (Refused r) = given ≡ Err (refusal_view r)

-- the answer, as it is seen, is what the rules give, or their refusal
abbrev pub AnswersBy : {A B : Type 0} → (A → B) → Result B told.Refusal → Result A CsvError → Type 0
AnswersBy view given (Ok made) = given ≡ Ok (view made)
AnswersBy view given (Err e) = Refuses given e

-- the cells of records
abbrev pub cells_view : Vec Row Global → List (List Bytes)
cells_view records = map fields_of records.items

-- a table as data
abbrev pub table_view : CsvTable → tables.CsvTable
table_view t = record { zones = t.zones; blocks = map block_view t.blocks.items }

-- the names and the types of columns while they are read
abbrev pub given_view : GivenColumns → List Bytes × List Ty
given_view columns = (columns.names.items, map type_view columns.dtypes.items)
