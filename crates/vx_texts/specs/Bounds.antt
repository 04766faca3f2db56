-- The least and the greatest of texts by their bytes, null at some places.
use Rattle.std.specs.Prelude.{Option, Some, None, List, [], ◌∷◌, cond}
use Rattle.vx_dtype.specs.Types.{Bytes}
use Rattle.vx_dtype.specs.declared.CompareOperator.{CompareOperator}
use Rattle.vx_texts.specs.Texts.{texts_meet}

-- the one of two texts that stands so to the other; where one is null, the other
abbrev pub first_text : CompareOperator → Option Bytes → Option Bytes → Option Bytes
first_text op None b = b
first_text op a None = a
first_text op (Some a) (Some b) = cond (texts_meet op a b) (Some a) (Some b)

-- the text that stands so to all others; none where all are null
abbrev pub first_among : CompareOperator → List (Option Bytes) → Option Bytes
first_among op [] = None
first_among op (t ∷ ts) = first_text op t (first_among op ts)

-- the least and the greatest text, none where all are null
abbrev pub least_text : List (Option Bytes) → Option Bytes
least_text ts = first_among CompareOperator.Lte ts

abbrev pub greatest_text : List (Option Bytes) → Option Bytes
greatest_text ts = first_among CompareOperator.Gte ts
