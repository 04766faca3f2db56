-- Which values a type has.
use Rattle.std.specs.Prelude.{ℤ, pos, negsuc, int_le, Bool, true, false, ◌&&◌, ◌||◌}
use Rattle.std.specs.Str.{bytes_eq}
use Rattle.vx_dtype.specs.Types.{Ty, int_ty, list_ty, struct_ty, Fields, no_fields, field, PType, U8, U16, U32, U64, I8, I16, I32, I64}
use Rattle.vx_dtype.specs.TypeRules.{is_nullable, nullability_of, is_plain, same_ptype, is_bool_ty, is_text_ty}
use Rattle.vx_dtype.specs.Values.{Raw, raw_null, raw_bool, raw_int, raw_text, raw_list, raw_struct, Raws, no_raws, raw, Val, null_val, bool_val}
use Rattle.vx_dtype.specs.Values.{int_val, text_val, list_val, struct_val, fault, Vals, no_vals, val, Members, no_members, member}

-- the least and the greatest number of an integer type
abbrev pub least : PType → ℤ
least U8 = pos 0
least U16 = pos 0
least U32 = pos 0
least U64 = pos 0
least I8 = negsuc 127
least I16 = negsuc 32767
least I32 = negsuc 2147483647
least I64 = negsuc 9223372036854775807

abbrev pub greatest : PType → ℤ
greatest U8 = pos 255
greatest U16 = pos 65535
greatest U32 = pos 4294967295
greatest U64 = pos 18446744073709551615
greatest I8 = pos 127
greatest I16 = pos 32767
greatest I32 = pos 2147483647
greatest I64 = pos 9223372036854775807

-- whether a number is one of an integer type
abbrev pub in_range : PType → ℤ → Bool
in_range p i = int_le (least p) i && int_le i (greatest p)

-- whether a number is one of a type
abbrev pub int_fits : ℤ → Ty → Bool
int_fits i (int_ty p n) = in_range p i
int_fits i _ = false

unfoldable mutual
  -- whether a raw value is one of the type: null where it is nullable, a number in range, each element, one value per field
  pub fits : Raw → Ty → Bool
  fits raw_null t = is_nullable (nullability_of t)
  fits (raw_bool b) t = is_bool_ty t
  fits (raw_int i) t = int_fits i t
  fits (raw_text s) t = is_text_ty t
  fits (raw_list xs) (list_ty e n) = all_fit xs e
  fits (raw_list xs) _ = false
  fits (raw_struct xs) (struct_ty fs n) = fields_fit xs fs
  fits (raw_struct xs) _ = false

  -- whether each raw value is one of the type
  pub all_fit : Raws → Ty → Bool
  all_fit no_raws t = true
  all_fit (raw x xs) t = fits x t && all_fit xs t

  -- whether there is one raw value per field, each one of the field's type
  pub fields_fit : Raws → Fields → Bool
  fields_fit no_raws no_fields = true
  fields_fit (raw x xs) (field f t fs) = fits x t && fields_fit xs fs
  fields_fit _ _ = false

-- whether a number of one integer type is one of a type
abbrev pub int_val_fits : PType → ℤ → Ty → Bool
int_val_fits p i (int_ty q n) = same_ptype p q && in_range q i
int_val_fits p i _ = false

unfoldable mutual
  -- whether a value is one of the type: its names are the type's in order, and no part is a fault
  pub val_fits : Val → Ty → Bool
  val_fits null_val t = is_nullable (nullability_of t)
  val_fits (bool_val b) t = is_bool_ty t
  val_fits (int_val p i) t = int_val_fits p i t
  val_fits (text_val s) t = is_text_ty t
  val_fits (list_val xs) (list_ty e n) = vals_fit xs e
  val_fits (list_val xs) _ = false
  val_fits (struct_val ms) (struct_ty fs n) = members_fit ms fs
  val_fits (struct_val ms) _ = false
  val_fits fault t = false

  -- whether each value is one of the type
  pub vals_fit : Vals → Ty → Bool
  vals_fit no_vals t = true
  vals_fit (val x xs) t = val_fits x t && vals_fit xs t

  -- whether the members have the fields' names in order, each with a value of its type
  pub members_fit : Members → Fields → Bool
  members_fit no_members no_fields = true
  members_fit (member f x ms) (field g t fs) = bytes_eq f g && (val_fits x t && members_fit ms fs)
  members_fit _ _ = false

unfoldable mutual
  -- whether a value would be one of the type but for faults in place of plain values
  pub fits_but_for_faults : Val → Ty → Bool
  fits_but_for_faults null_val t = is_nullable (nullability_of t)
  fits_but_for_faults (bool_val b) t = is_bool_ty t
  fits_but_for_faults (int_val p i) t = int_val_fits p i t
  fits_but_for_faults (text_val s) t = is_text_ty t
  fits_but_for_faults (list_val xs) (list_ty e n) = vals_fit_but_for_faults xs e
  fits_but_for_faults (list_val xs) _ = false
  fits_but_for_faults (struct_val ms) (struct_ty fs n) = members_fit_but_for_faults ms fs
  fits_but_for_faults (struct_val ms) _ = false
  fits_but_for_faults fault t = is_plain t

  -- the same of each value of a list
  pub vals_fit_but_for_faults : Vals → Ty → Bool
  vals_fit_but_for_faults no_vals t = true
  vals_fit_but_for_faults (val x xs) t = fits_but_for_faults x t && vals_fit_but_for_faults xs t

  -- the same of the members of a struct
  pub members_fit_but_for_faults : Members → Fields → Bool
  members_fit_but_for_faults no_members no_fields = true
  members_fit_but_for_faults (member f x ms) (field g t fs) = bytes_eq f g && (fits_but_for_faults x t && members_fit_but_for_faults ms fs)
  members_fit_but_for_faults _ _ = false

unfoldable mutual
  -- whether a value is a fault or holds one, at any depth
  pub holds_fault : Val → Bool
  holds_fault fault = true
  holds_fault (list_val xs) = some_holds_fault xs
  holds_fault (struct_val ms) = member_holds_fault ms
  holds_fault _ = false

  -- whether one of the values is a fault or holds one
  pub some_holds_fault : Vals → Bool
  some_holds_fault no_vals = false
  some_holds_fault (val x xs) = holds_fault x || some_holds_fault xs

  -- whether one of the members is a fault or holds one
  pub member_holds_fault : Members → Bool
  member_holds_fault no_members = false
  member_holds_fault (member f x ms) = holds_fault x || member_holds_fault ms
