-- For the checker: no public clause cites this.
-- The texts of raw values beside their types.
use Rattle.std.specs.Prelude.{cond, [], ◌++◌, codes}
use Rattle.std.specs.Fmt.{signed_decimal}
use Rattle.vx_dtype.specs.Types.{Bytes, Ty, list_ty, struct_ty, Fields, no_fields, field}
use Rattle.vx_dtype.specs.Values.{Raw, raw_null, raw_bool, raw_int, raw_text, raw_list, raw_struct, Raws, no_raws, raw}
use Rattle.vx_dtype.specs.Texts.{quoted_text}

unfoldable mutual
  -- the text of a value of a type: `null`, `true`, `false`, a decimal number, a quoted text, `[v,v]`, `{"name":v,"name":v}`
  pub row_text_of : Raw → Ty → Bytes
  row_text_of raw_null t = codes "null"
  row_text_of (raw_bool b) t = cond b (codes "true") (codes "false")
  row_text_of (raw_int i) t = signed_decimal i
  row_text_of (raw_text s) t = quoted_text s
  row_text_of (raw_list xs) (list_ty e n) = codes "[" ++ (elements_text [] xs e ++ codes "]")
  row_text_of (raw_list xs) _ = []
  row_text_of (raw_struct xs) (struct_ty fs n) = codes "{" ++ (members_text [] xs fs ++ codes "}")
  row_text_of (raw_struct xs) _ = []

  -- the texts of values of one type, the first behind a given text, each other one behind a comma
  pub elements_text : Bytes → Raws → Ty → Bytes
  elements_text before no_raws t = []
  elements_text before (raw x xs) t = before ++ (row_text_of x t ++ elements_text (codes ",") xs t)

  -- the texts of the values of fields, each behind its quoted name, in the same way
  pub members_text : Bytes → Raws → Fields → Bytes
  members_text before no_raws fs = []
  members_text before (raw x xs) no_fields = []
  members_text before (raw x xs) (field f t fs) = before ++ (quoted_text f ++ (codes ":" ++ (row_text_of x t ++ members_text (codes ",") xs fs)))

-- the text of a list of values of one type
abbrev pub list_text : Raws → Ty → Bytes
list_text xs t = codes "[" ++ (elements_text [] xs t ++ codes "]")

-- the text of a struct with these fields
abbrev pub struct_text : Raws → Fields → Bytes
struct_text xs fs = codes "{" ++ (members_text [] xs fs ++ codes "}")
