-- When values and columns are equal: tests by their structure. And what a hash takes in of them.
use Rattle.std.specs.Prelude.{Bool, true, false, ◌&&◌, ◌++◌}
use Rattle.std.specs.Ordering.{int_eq}
use Rattle.std.specs.Str.{bytes_eq}
use Rattle.std.specs.Cmp.Lexicographic.{pointwise}
use Rattle.std.specs.Hash as fed
use Rattle.std.specs.Hash.{HashWrites}
use Rattle.vx_dtype.specs.TypeRules.{same_ptype}
use Rattle.vx_dtype.specs.Values.{Val, null_val, bool_val, int_val, text_val, list_val, struct_val, fault, Vals, no_vals, val, Members, no_members, member}
use Rattle.vx_dtype.specs.Equal.{same_bool, ty_eq}
use Rattle.vx_dtype.specs.Feeds.{bytes_feed, ty_feed}
use Rattle.vx_column.specs.Columns.{Column}

unfoldable mutual
  -- whether two values are the same
  pub val_eq : Val → Val → Bool
  val_eq null_val null_val = true
  val_eq (bool_val b) (bool_val c) = same_bool b c
  val_eq (int_val p i) (int_val q j) = same_ptype p q && int_eq i j
  val_eq (text_val s) (text_val t) = bytes_eq s t
  val_eq (list_val xs) (list_val ys) = vals_eq xs ys
  val_eq (struct_val ms) (struct_val ns) = members_eq ms ns
  val_eq fault fault = true
  val_eq _ _ = false

  -- whether two rows of values are the same
  pub vals_eq : Vals → Vals → Bool
  vals_eq no_vals no_vals = true
  vals_eq (val x xs) (val y ys) = val_eq x y && vals_eq xs ys
  vals_eq _ _ = false

  -- whether two lists of members have the same names and values in the same places
  pub members_eq : Members → Members → Bool
  members_eq no_members no_members = true
  members_eq (member f x ms) (member g y ns) = bytes_eq f g && (val_eq x y && members_eq ms ns)
  members_eq _ _ = false

-- whether two columns have the same type and the same value at each row
abbrev pub column_eq : Column → Column → Bool
column_eq c d = ty_eq c.ty d.ty && pointwise val_eq c.rows d.rows

unfoldable mutual
  -- the number of the kind, and what the value is made of; names and integer types stand in the type
  pub val_feed : Val → HashWrites
  val_feed null_val = fed.u8 0
  val_feed (bool_val b) = fed.u8 1 ++ fed.bool b
  val_feed (int_val p i) = fed.u8 2 ++ fed.i128 i
  val_feed (text_val s) = fed.u8 3 ++ bytes_feed s
  val_feed (list_val xs) = fed.u8 4 ++ vals_feed xs
  val_feed (struct_val ms) = fed.u8 5 ++ members_feed ms
  val_feed fault = fed.u8 6

  -- each value
  pub vals_feed : Vals → HashWrites
  vals_feed no_vals = fed.u8 0
  vals_feed (val x xs) = fed.u8 1 ++ val_feed x ++ vals_feed xs

  -- each member's value
  pub members_feed : Members → HashWrites
  members_feed no_members = fed.u8 0
  members_feed (member f x ms) = fed.u8 1 ++ val_feed x ++ members_feed ms

-- the type, how many rows, and the value at each
abbrev pub column_feed : Column → HashWrites
column_feed c = ty_feed c.ty ++ fed.slice val_feed c.rows
