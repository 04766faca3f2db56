-- Lists as texts of JSON, without spaces.
use Rattle.std.specs.Prelude.{List, ◌++◌, codes, map}
use Rattle.std.specs.List.{join_by}
use Rattle.vx_dtype.specs.Texts.{quoted_text}
use Rattle.vx_dtype.specs.Types.{Bytes}

-- a list of what these texts are: within brackets, with a comma between any two
unfoldable pub list_json : List Bytes → Bytes
list_json texts = codes "[" ++ (join_by (λ text. text) (codes ",") texts ++ codes "]")

-- a list of names, each within quotes
abbrev pub names_json : List Bytes → Bytes
names_json names = list_json (map quoted_text names)
