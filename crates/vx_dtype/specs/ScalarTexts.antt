-- How scalars print: a number with its type's name, a text quoted, a list in brackets, a struct in braces with the names of its fields.
use Rattle.std.specs.Prelude.{cond, [], ◌++◌}
use Rattle.std.specs.Fmt.{signed_decimal}
use lib.Chars.{codes}
use Rattle.vx_dtype.specs.Types.{Bytes, Ty, int_ty, list_ty, struct_ty, Fields, no_fields, field}
use Rattle.vx_dtype.specs.Values.{Raw, raw_null, raw_bool, raw_int, raw_text, raw_list, raw_struct, Raws, no_raws, raw}
use Rattle.vx_dtype.specs.Texts.{ptype_text, quoted_text}

-- the name behind a number of this type
abbrev pub number_suffix : Ty → Bytes
number_suffix (int_ty p n) = ptype_text p
number_suffix _ = []

-- a text in brackets, and one in braces
abbrev pub in_brackets : Bytes → Bytes
in_brackets s = codes "[" ++ (s ++ codes "]")

abbrev pub in_braces : Bytes → Bytes
in_braces s = codes "{" ++ (s ++ codes "}")

unfoldable mutual
  -- the text of a value of a type
  pub scalar_text : Raw → Ty → Bytes
  scalar_text raw_null t = codes "null"
  scalar_text (raw_bool b) t = cond b (codes "true") (codes "false")
  scalar_text (raw_int i) t = signed_decimal i ++ number_suffix t
  scalar_text (raw_text s) t = quoted_text s
  scalar_text (raw_list xs) (list_ty e n) = in_brackets (items_text [] xs e)
  scalar_text (raw_list xs) _ = []
  scalar_text (raw_struct xs) (struct_ty fs n) = in_braces (members_text [] xs fs)
  scalar_text (raw_struct xs) _ = []

  -- the texts of values of one type, the first behind a given text, each other one behind `, `
  pub items_text : Bytes → Raws → Ty → Bytes
  items_text before no_raws t = []
  items_text before (raw x xs) t = before ++ (scalar_text x t ++ items_text (codes ", ") xs t)

  -- the texts of the values of fields, each with its name, in the same way
  pub members_text : Bytes → Raws → Fields → Bytes
  members_text before no_raws fs = []
  members_text before (raw x xs) no_fields = []
  members_text before (raw x xs) (field f t fs) = before ++ (f ++ (codes ": " ++ (scalar_text x t ++ members_text (codes ", ") xs fs)))
