-- Cells: the values of a type as JSON values.
use Rattle.std.specs.Prelude.{cond, List, [], ◌∷◌, length, Option, Some, None, is_some, option_map, unwrap_or}
use Rattle.std.specs.Option.{option_or}
use Rattle.std.specs.Result.{result_ok}
use Rattle.serde_json.specs.Data.{Data, Items, no_items, item}
use Rattle.serde_json.specs.Find.{get, as_null, as_bool, as_str, as_array}
use Rattle.vx_dtype.specs.declared.nulls.Nullability.TheVariants.{Nullable}
use Rattle.vx_dtype.specs.Types.{Ty, bool_ty, int_ty, text_ty, list_ty, struct_ty, Fields, no_fields, field}
use Rattle.vx_dtype.specs.TypeRules.{field_names, with_nullability}
use Rattle.vx_dtype.specs.Values.{Raw, raw_null, raw_bool, raw_int, raw_text, raw_list, raw_struct, Typed}
use Rattle.vx_dtype.specs.RawViews.{raws_of}
use Rattle.vx_dtype.specs.Fits.{fits}
use Rattle.vx_column.specs.Columns.{Column}
use Rattle.vx_column.specs.Answers.{column_of_raws}
use Rattle.vx_request.specs.Objects.{◌>>=◌, has_members, each_item, integer_in}

-- a list of elements, and a struct of members
abbrev pub list_from : List Raw → Option Raw
list_from xs = Some (raw_list (raws_of xs))

abbrev pub struct_from : List Raw → Option Raw
struct_from xs = Some (raw_struct (raws_of xs))

-- null
abbrev pub null_in : Data → Option Raw
null_in d = cond (is_some (as_null d)) (Some raw_null) None

-- null, or else what is read so
abbrev pub or_null : (Data → Option Raw) → Data → Option Raw
or_null read d = option_or (null_in d) (read d)

unfoldable mutual
  -- true and false, whole numbers, texts, lists of elements, objects with exactly the type's names as members; elements and members may be null
  pub present_in : Ty → Data → Option Raw
  present_in (bool_ty n) d = option_map raw_bool (as_bool d)
  present_in (int_ty p n) d = option_map raw_int (integer_in d)
  present_in (text_ty n) d = option_map raw_text (as_str d)
  present_in (list_ty e n) d = as_array d >>= each_item (or_null (present_in e)) >>= list_from
  present_in (struct_ty fs n) d = cond (has_members (length (field_names fs)) d) (members_in fs d) None >>= struct_from

  -- what the members of the fields' names stand for, where none is missing
  pub members_in : Fields → Data → Option (List Raw)
  members_in no_fields d = Some []
  members_in (field f t fs) d = get f d >>= or_null (present_in t) >>= λ x. members_in fs d >>= λ xs. Some (x ∷ xs)

-- null, or what stands for a value of a type's kind; whether null or a number is one of the type isn't asked here
abbrev pub raw_in : Ty → Data → Option Raw
raw_in t d = or_null (present_in t) d

-- a value beside a type, where it is one of the type
abbrev pub typed_where : Ty → Raw → Option Typed
typed_where t x = cond (fits x t) (Some (record { ty = t; value = x })) None

-- the value of a type that a cell is
abbrev pub typed_in : Ty → Data → Option Typed
typed_in t d = raw_in t d >>= typed_where t

-- what stands for a statistic's cell that is no value of its type: no statistic has structs, so zones with this value are refused
abbrev pub no_value : Typed
no_value = record { ty = struct_ty no_fields Nullable; value = raw_null }

-- a cell of a statistic: a value of a type, or what stands for none
abbrev pub stat_cell : Ty → Data → Typed
stat_cell t d = unwrap_or (typed_in t d) no_value

-- the cells of a statistic
abbrev pub cells_from : Ty → Items → List Typed
cells_from t no_items = []
cells_from t (item d ds) = stat_cell t d ∷ cells_from t ds

-- the cells of a statistic of a type: values of the type, made nullable
abbrev pub stat_cells : Ty → Items → List Typed
stat_cells t cells = cells_from (with_nullability t Nullable) cells

-- the column of a type and raw values; none where one of them isn't of the type, or where a name stands twice in a struct of the type
abbrev pub column_where : Ty → List Raw → Option Column
column_where t xs = result_ok (column_of_raws t xs)

-- the column of a type that cells are
abbrev pub column_in : Ty → Items → Option Column
column_in t cells = each_item (raw_in t) cells >>= column_where t

-- the columns of these types, as far as there are lists of cells
abbrev pub columns_of : List Ty → List Items → Option (List Column)
columns_of (t ∷ ts) (cells ∷ rest) = column_in t cells >>= λ c. columns_of ts rest >>= λ cs. Some (c ∷ cs)
columns_of _ _ = Some []

-- the columns of each block
abbrev pub blocks_of : List Ty → List (List Items) → Option (List (List Column))
blocks_of ts [] = Some []
blocks_of ts (b ∷ bs) = columns_of ts b >>= λ cs. blocks_of ts bs >>= λ rest. Some (cs ∷ rest)
