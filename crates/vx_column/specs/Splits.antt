-- For the checker: no public clause cites this. Structs that stand in rows, as columns of their fields; and rows some of which are null, as rows none of
-- which is, and the places of those that are.
use Rattle.std.specs.Prelude.{ℕ, zero, suc, ◌<◌, cond, List, [], ◌∷◌, map}
use Rattle.vx_dtype.specs.Types.{Fields, no_fields, field}
use Rattle.vx_dtype.specs.Values.{Raw, raw_null, raw_struct, Raws, no_raws, raw, valued}
use Rattle.vx_dtype.specs.RawViews.{raw_view}
use Rattle.vx_dtype.specs.declared.values.ScalarValue.{ScalarValue}
use Rattle.vx_column.specs.RawParts.{is_raw_null}
use Rattle.vx_column.specs.Columns.{Column, column}

-- the values of a struct's fields, and none of another value
abbrev pub parts_in : Raw → Raws
parts_in (raw_struct xs) = xs
parts_in _ = no_raws

-- how many raw values there are, the one at a place, and those behind the first
abbrev pub raws_length : Raws → ℕ
raws_length no_raws = 0
raws_length (raw x xs) = suc (raws_length xs)

abbrev pub raws_at : Raws → ℕ → Raw
raws_at no_raws i = raw_null
raws_at (raw x xs) zero = x
raws_at (raw x xs) (suc i) = raws_at xs i

abbrev pub rest_of : Raws → Raws
rest_of no_raws = no_raws
rest_of (raw x xs) = xs

-- the values at a place of the parts of structs, one for each struct
abbrev pub parts_at : ℕ → List Raws → List Raw
parts_at i rs = map (λ r. raws_at r i) rs

-- the columns of fields, of structs that have these parts
abbrev pub field_columns : Fields → List Raws → List Column
field_columns no_fields rs = []
field_columns (field f t fs) rs = column t (map (λ x. valued x t) (parts_at 0 rs)) ∷ field_columns fs (map rest_of rs)

-- the parts of structs, row by row
abbrev pub row_parts : List ScalarValue → List Raws
row_parts xs = map (λ x. parts_in (raw_view x)) xs

-- the value has a part at a place
abbrev pub HasPart : ℕ → ScalarValue → Type 0
HasPart i x = i < raws_length (parts_in (raw_view x))

-- the first value in the place of null, and any other as it is
abbrev pub unless_null : Raw → Raw → Raw
unless_null f x = cond (is_raw_null x) f x
