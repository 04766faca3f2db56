-- How the values of scalars are seen: each as its raw value.
use Rattle.std.specs.Prelude.{List, [], ◌∷◌}
use Rattle.vx_dtype.specs.Values.{Raw, raw_null, raw_bool, raw_int, raw_text, raw_list, raw_struct, Raws, no_raws, raw}
use Rattle.vx_dtype.specs.declared.values.ScalarValue.{ScalarValue, fold-ScalarValue}
use Rattle.vx_dtype.specs.declared.values.ScalarValue.TheOpen.{ScalarValue-F, Null, Bool, Int, Utf8, List as ListLayer, Struct}

-- raw values, as a list of their own
abbrev pub raws_of : List Raw → Raws
raws_of [] = no_raws
raws_of (x ∷ xs) = raw x (raws_of xs)

-- the raw value of one layer, where each part has given its own
abbrev pub raw_step : ScalarValue-F Raw → Raw
raw_step Null = raw_null
raw_step (Bool b) = raw_bool b
raw_step (Int i) = raw_int i
raw_step (Utf8 s) = raw_text s
raw_step (ListLayer xs) = raw_list (raws_of xs.value.items)
raw_step (Struct xs) = raw_struct (raws_of xs.value.items)

-- the raw value that a value of the code stands for
abbrev pub raw_view : ScalarValue → Raw
raw_view = fold-ScalarValue Raw raw_step
