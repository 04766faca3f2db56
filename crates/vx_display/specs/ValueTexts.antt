-- Rows as texts: values in the form of JSON, without spaces.
use Rattle.std.specs.Prelude.{cond, [], ◌++◌, codes}
use Rattle.std.specs.Fmt.{signed_decimal}
use Rattle.vx_dtype.specs.Types.{Bytes}
use Rattle.vx_dtype.specs.Values.{Val, null_val, bool_val, int_val, text_val, list_val, struct_val, fault, Vals, no_vals, val, Members, no_members, member}
use Rattle.vx_dtype.specs.Texts.{quoted_text}

unfoldable mutual
  -- the text of a value: `null`, `true`, `false`, a decimal number, a quoted text, `[v,v]`, `{"name":v,"name":v}`; a fault has none
  pub value_text : Val → Bytes
  value_text null_val = codes "null"
  value_text (bool_val b) = cond b (codes "true") (codes "false")
  value_text (int_val p i) = signed_decimal i
  value_text (text_val s) = quoted_text s
  value_text (list_val xs) = codes "[" ++ (values_text [] xs ++ codes "]")
  value_text (struct_val ms) = codes "{" ++ (named_values_text [] ms ++ codes "}")
  value_text fault = []

  -- the texts of values, the first behind a given text, each other one behind a comma
  pub values_text : Bytes → Vals → Bytes
  values_text before no_vals = []
  values_text before (val x xs) = before ++ (value_text x ++ values_text (codes ",") xs)

  -- the texts of the members of a struct, each behind its quoted name, in the same way
  pub named_values_text : Bytes → Members → Bytes
  named_values_text before no_members = []
  named_values_text before (member f x ms) = before ++ (quoted_text f ++ (codes ":" ++ (value_text x ++ named_values_text (codes ",") ms)))
