-- The cells of a block file: the value of a column at a row, as it is written.
use Rattle.std.specs.Prelude.{◌≡◌, true, List}
use Rattle.std.specs.List.{flat_map}
use Rattle.vx_dtype.specs.Types.{Bytes, Ty}
use Rattle.vx_dtype.specs.Values.{Raw, raw_null, raw_bool, raw_int, raw_text, raw_list, raw_struct, Raws, no_raws, raw, Val, null_val, bool_val}
use Rattle.vx_dtype.specs.Values.{int_val, text_val, list_val, struct_val, fault, Vals, no_vals, val, Members, no_members, member}
use Rattle.vx_dtype.specs.Fits.{val_fits}
use Rattle.vx_wire_bytes.specs.Fields.{IsText}
use Rattle.vx_wire_bytes.specs.ValueForms.{value_bytes, TextsAre}

abbrev mutual
  -- the raw value of a value: without its names and integer types. No column holds a fault; it has that of null
  pub raw_value : Val → Raw
  raw_value null_val = raw_null
  raw_value (bool_val b) = raw_bool b
  raw_value (int_val p i) = raw_int i
  raw_value (text_val s) = raw_text s
  raw_value (list_val xs) = raw_list (raw_values xs)
  raw_value (struct_val ms) = raw_struct (raw_members ms)
  raw_value fault = raw_null

  -- the raw values of the elements of a list
  pub raw_values : Vals → Raws
  raw_values no_vals = no_raws
  raw_values (val x xs) = raw (raw_value x) (raw_values xs)

  -- the raw values of the members of a struct
  pub raw_members : Members → Raws
  raw_members no_members = no_raws
  raw_members (member f x ms) = raw (raw_value x) (raw_members ms)

-- a value that has a spelling in a column of the type: one of the type, whose texts and numbers of elements have spellings
pub record IsCell (t : Ty) (v : Val) : Type 0 where
  pub fit : val_fits v t ≡ true
  pub texts : TextsAre IsText (raw_value v)

-- the bytes of the value of a column at a row: those of a value of the column's type
abbrev pub cell_bytes : Ty → Val → Bytes
cell_bytes t v = value_bytes t (raw_value v)

-- the range of a column of a block: the bytes of its value at each row, in order
abbrev pub range_bytes : Ty → List Val → Bytes
range_bytes t vs = flat_map (cell_bytes t) vs
