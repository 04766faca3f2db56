-- For the checker: no public clause cites this.
-- What a hash takes in of types and values: their whole structure, each kind by a number of its own, each list with a mark before
-- every part and another at its end.
use Rattle.std.specs.Prelude.{List, ◌++◌}
use Rattle.std.specs.Hash as fed
use Rattle.std.specs.Hash.{HashWrites}
use Rattle.vx_dtype.specs.Types.{Bytes, Ty, bool_ty, int_ty, text_ty, list_ty, struct_ty, Fields, no_fields, field}
use Rattle.vx_dtype.specs.TypeRules.{ptype_number, null_number}
use Rattle.vx_dtype.specs.Values.{Raw, raw_null, raw_bool, raw_int, raw_text, raw_list, raw_struct, Raws, no_raws, raw, Typed}

-- the bytes of a text or a name, and their end
abbrev pub bytes_feed : Bytes → HashWrites
bytes_feed s = fed.str s

-- how many names, and each
abbrev pub names_feed : List Bytes → HashWrites
names_feed fs = fed.slice fed.str fs

unfoldable mutual
  -- the number of the kind, the nullability, and the parts
  pub ty_feed : Ty → HashWrites
  ty_feed (bool_ty n) = fed.u8 0 ++ fed.u8 (null_number n)
  ty_feed (int_ty p n) = fed.u8 1 ++ fed.u8 (null_number n) ++ fed.u8 (ptype_number p)
  ty_feed (text_ty n) = fed.u8 2 ++ fed.u8 (null_number n)
  ty_feed (list_ty e n) = fed.u8 3 ++ fed.u8 (null_number n) ++ ty_feed e
  ty_feed (struct_ty fs n) = fed.u8 4 ++ fed.u8 (null_number n) ++ fields_feed fs

  -- each field's name and type
  pub fields_feed : Fields → HashWrites
  fields_feed no_fields = fed.u8 0
  fields_feed (field f t fs) = fed.u8 1 ++ bytes_feed f ++ ty_feed t ++ fields_feed fs

unfoldable mutual
  -- the number of the kind, and what the value is made of
  pub raw_feed : Raw → HashWrites
  raw_feed raw_null = fed.u8 0
  raw_feed (raw_bool b) = fed.u8 1 ++ fed.bool b
  raw_feed (raw_int i) = fed.u8 2 ++ fed.i128 i
  raw_feed (raw_text s) = fed.u8 3 ++ bytes_feed s
  raw_feed (raw_list xs) = fed.u8 4 ++ raws_feed xs
  raw_feed (raw_struct xs) = fed.u8 5 ++ raws_feed xs

  -- each value
  pub raws_feed : Raws → HashWrites
  raws_feed no_raws = fed.u8 0
  raws_feed (raw x xs) = fed.u8 1 ++ raw_feed x ++ raws_feed xs

-- the type and the value
abbrev pub typed_feed : Typed → HashWrites
typed_feed s = ty_feed s.ty ++ raw_feed s.value
