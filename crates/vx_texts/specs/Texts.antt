-- Lists of texts, null at some places.
use Rattle.std.specs.Prelude.{ℕ, ◌^◌, ◌<◌, Bool, true, false, Option, Some, None, List, length, sum_by}
use Rattle.std.specs.Ordering.{nat_cmp}
use Rattle.std.specs.Cmp.Lexicographic.{slice_cmp}
use Rattle.vx_dtype.specs.Types.{Bytes}
use Rattle.vx_dtype.specs.declared.CompareOperator.{CompareOperator}
use Rattle.vx_dtype.specs.Order.{meets}

-- how many bytes a text has; null has none
abbrev pub byte_count : Option Bytes → ℕ
byte_count None = 0
byte_count (Some s) = length s

-- how many bytes texts have together
abbrev pub byte_total : List (Option Bytes) → ℕ
byte_total ts = sum_by byte_count ts

-- texts of fewer than 2^32 bytes together, as many as one buffer takes
abbrev pub FitOneBuffer : List (Option Bytes) → Type 0
FitOneBuffer ts = byte_total ts < 2 ^ 32

-- whether there is no text
abbrev pub null_test : Option Bytes → Option Bool
null_test None = Some true
null_test (Some s) = Some false

-- what a rule of two texts gives; null beside anything is null
abbrev pub on_both : {X : Type 0} → (Bytes → Bytes → X) → Option Bytes → Option Bytes → Option X
on_both rule (Some a) (Some b) = Some (rule a b)
on_both rule _ _ = None

-- whether a comparison is true of two texts, by their bytes
abbrev pub texts_meet : CompareOperator → Bytes → Bytes → Bool
texts_meet op a b = meets op (slice_cmp nat_cmp a b)

-- the comparison of two texts
abbrev pub compared : CompareOperator → Option Bytes → Option Bytes → Option Bool
compared op = on_both (texts_meet op)
