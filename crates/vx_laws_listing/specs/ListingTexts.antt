-- The lines that tell a table's columns and blocks, in the form of JSON without spaces. Columns and statistics are written as a request has them.
use Rattle.std.specs.Prelude.{ℕ, suc, ◌-◌, cond, List, [], ◌∷◌, ◌++◌, length, take, drop, codes, decimal, Option, Some, None}
use Rattle.std.specs.List.{flat_map, slice_get}
use Rattle.std.specs.Option.{option_and_then}
use Rattle.vx_dtype.specs.declared.Nullability.{Nullability}
use Rattle.vx_dtype.specs.declared.Nullability.TheVariants.{NonNullable, Nullable}
use Rattle.vx_dtype.specs.declared.Stat.{Stat}
use Rattle.vx_dtype.specs.ScalarAnswers.{is_raw_null}
use Rattle.vx_dtype.specs.StatNames.{stat_name}
use Rattle.vx_dtype.specs.Texts.{ty_text, quoted_text}
use Rattle.vx_dtype.specs.Types.{Bytes, Ty, bool_ty, int_ty, text_ty, list_ty, struct_ty, Fields, no_fields, field}
use Rattle.vx_dtype.specs.Values.{Typed, valued}
use Rattle.vx_display.specs.ValueTexts.{value_text}
use Rattle.vx_semantics.specs.Tables.{ZoneStat, Zones}
use Rattle.vx_folder.specs.FolderTables.{FilesTable}

-- the texts of items, the first behind a given text, each other one behind a comma
abbrev pub with_commas : {A : Type 0} → (A → Bytes) → Bytes → List A → Bytes
with_commas show before [] = []
with_commas show before (x ∷ xs) = before ++ (show x ++ with_commas show (codes ",") xs)

-- ---- columns

-- whether null is a value of a type
abbrev pub nullable_text : Nullability → Bytes
nullable_text NonNullable = codes "false"
nullable_text Nullable = codes "true"

-- the text of a plain type: its name within quotes
abbrev pub plain_type_text : Ty → Bytes
plain_type_text t = codes "\"" ++ (ty_text t ++ codes "\"")

-- the front of a struct's object, up to its fields
abbrev pub struct_front : Nullability → Bytes
struct_front n = codes "{\"nullable\":" ++ (nullable_text n ++ codes ",\"struct\":[")

-- the front of a field's object, up to its type
abbrev pub name_json : Bytes → Bytes
name_json f = codes "{\"name\":" ++ (quoted_text f ++ codes ",\"type\":")

unfoldable mutual
  -- a type: a plain one by its name, a list as an object of its elements' type and whether it is nullable, a struct as one of its fields likewise
  pub type_json : Ty → Bytes
  type_json (bool_ty n) = plain_type_text (bool_ty n)
  type_json (int_ty p n) = plain_type_text (int_ty p n)
  type_json (text_ty n) = plain_type_text (text_ty n)
  type_json (list_ty e n) = codes "{\"list\":" ++ (type_json e ++ (codes ",\"nullable\":" ++ (nullable_text n ++ codes "}")))
  type_json (struct_ty fs n) = struct_front n ++ (fields_json [] fs ++ codes "]}")

  -- each field as an object of its name and its type, the first behind a given text, each other one behind a comma
  pub fields_json : Bytes → Fields → Bytes
  fields_json before no_fields = []
  fields_json before (field f t fs) =
      before ++ (name_json f ++ (type_json t ++ (codes "}" ++ fields_json (codes ",") fs)))

-- the line of the columns: an object of one member
abbrev pub columns_line : Fields → Bytes
columns_line columns = codes "{\"columns\":[" ++ (fields_json [] columns ++ codes "]}\n")

-- ---- blocks

-- a statistic of a block whose value is known
pub record KnownStat : Type 0 where
  pub path : List Bytes
  pub stat : Stat
  pub value : Typed

-- the value of a statistic in a block: none where it is null, so isn't known
abbrev pub known_value : ℕ → ZoneStat → Option Typed
known_value block z = option_and_then (λ s. cond (is_raw_null s.value) None (Some s)) (slice_get z.values block)

-- the statistic with that value, where it is known
abbrev pub known_as : ZoneStat → Option Typed → List KnownStat
known_as z None = []
known_as z (Some s) = record { path = z.path; stat = z.stat; value = s } ∷ []

-- the statistics of a block that are known, in the order of the table's
abbrev pub known_in : ℕ → List ZoneStat → List KnownStat
known_in block stats = flat_map (λ z. known_as z (known_value block z)) stats

-- the text of the value of a statistic
abbrev pub scalar_json : Typed → Bytes
scalar_json s = value_text (valued s.value s.ty)

-- what stands between the path of a statistic and its value: its kind
abbrev pub kind_json : Stat → Bytes
kind_json s = codes "],\"stat\":\"" ++ (stat_name s ++ codes "\",\"values\":[")

-- a statistic: an object of its path, its kind, and its value as the only one
abbrev pub stat_json : KnownStat → Bytes
stat_json k = codes "{\"path\":[" ++ (with_commas quoted_text [] k.path ++ (kind_json k.stat ++ (scalar_json k.value ++ codes "]}")))

-- the front of a block's object: its number, its file's path, and how many rows it has
abbrev pub block_front : Bytes → ℕ → ℕ → Bytes
block_front path block rows =
    codes "{\"block\":" ++ (decimal block ++ (codes ",\"file\":" ++ (quoted_text path ++ (codes ",\"rows\":" ++ (decimal rows
    ++ codes ",\"stats\":[")))))

-- the line of a block: an object of its number, its file's path, how many rows it has, and its statistics that are known
abbrev pub block_line : Bytes → List ZoneStat → ℕ → ℕ → Bytes
block_line path stats block rows = block_front path block rows ++ (with_commas stat_json [] (known_in block stats) ++ codes "]}\n")

-- the lines of blocks of these lengths, numbered from this one on
abbrev pub block_lines : Bytes → List ZoneStat → ℕ → List ℕ → Bytes
block_lines path stats block [] = []
block_lines path stats block (rows ∷ lengths) = block_line path stats block rows ++ block_lines path stats (suc block) lengths

-- the lines of a table with these zones, whose file has this path: one of its columns, and one a block
abbrev pub listing_lines : Bytes → Zones → Bytes
listing_lines path zones = columns_line zones.columns ++ block_lines path zones.stats 0 zones.lengths

-- ---- folders

-- where the blocks of a file end among so many, behind whose begin stand those of others: where the next one's begin
abbrev pub end_among : ℕ → List ℕ → ℕ
end_among blocks [] = blocks
end_among blocks (begin ∷ begins) = begin

-- the blocks of a table from one number up to another
abbrev pub lengths_between : ℕ → ℕ → List ℕ → List ℕ
lengths_between begin end lengths = take (end - begin) (drop begin lengths)

-- the lines of the blocks of files of these names in the folder of a path, before each of which so many blocks stand
abbrev pub part_lines : Bytes → Zones → List Bytes → List ℕ → Bytes
part_lines path zones (name ∷ names) (begin ∷ begins) =
    block_lines (path ++ name) zones.stats begin (lengths_between begin (end_among (length zones.lengths) begins) zones.lengths)
    ++ part_lines path zones names begins
part_lines path zones _ _ = []

-- the lines of the table of the block files in the folder of a path: one of its columns, and one a block, which are numbered through the folder
abbrev pub folder_lines : Bytes → FilesTable → Bytes
folder_lines path table = columns_line table.zones.columns ++ part_lines path table.zones table.names table.begins
