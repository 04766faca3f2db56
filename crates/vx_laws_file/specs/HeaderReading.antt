-- For the checker: no public clause cites this.
-- Reading a header from left to right.
use Rattle.std.specs.Prelude.{ℕ, zero, suc, nat_le, nat_eq, cond, List, [], ◌∷◌, length, sum, Option, Some, None}
use Rattle.std.specs.Option.{option_and_then}
use Rattle.vx_dtype.specs.declared.Nullability.TheVariants.{Nullable}
use Rattle.vx_dtype.specs.declared.Stat.{Stat}
use Rattle.vx_dtype.specs.declared.Stat.TheVariants.{Min, Max, NaNCount, NullCount}
use Rattle.vx_dtype.specs.Types.{Bytes, Ty, Fields}
use Rattle.vx_dtype.specs.TypeRules.{field_names, most_deep, with_nullability}
use Rattle.vx_dtype.specs.Values.{Typed}
use Rattle.vx_dtype.specs.ScalarAnswers.{typed}
use Rattle.vx_semantics.specs.Tables.{ZoneStat}
use Rattle.vx_wire_bytes.specs.Reading.{◌>>=◌, number_at, piece_at, text_at}
use Rattle.vx_wire_bytes.specs.TypeReading.{fields_with, type_at}
use Rattle.vx_wire_bytes.specs.ValueReading.{value_at}
use Rattle.vx_zones.specs.Zoning.{leaf_type, statistic_type}
use Rattle.vx_laws_file.specs.FileForms.{most_rows, Header}

-- so many items, each read by a given function
unfoldable pub items_with : {A : Type 0} → (Bytes → Option (A × Bytes)) → ℕ → Bytes → Option (List A × Bytes)
items_with read zero bytes = Some ([], bytes)
items_with read (suc k) bytes = read bytes >>= λ x. items_with read k x.1 >>= λ xs. Some (x.0 ∷ xs.0, xs.1)

-- as many items as a number before them says
unfoldable pub counted_with : {A : Type 0} → (Bytes → Option (A × Bytes)) → Bytes → Option (List A × Bytes)
counted_with read bytes = number_at bytes >>= λ k. items_with read k.0 k.1

-- the columns of a table, behind the two bytes of a struct that isn't nullable
unfoldable pub columns_at : Bytes → Option (Fields × Bytes)
columns_at [] = None
columns_at (a ∷ []) = None
columns_at (a ∷ b ∷ rest) = cond (nat_eq a 4) (cond (nat_eq b 0) (number_at rest >>= λ k. fields_with (type_at most_deep) k.0 k.1) None) None

-- the kind of statistic of a byte
abbrev pub stat_numbered : ℕ → Option Stat
stat_numbered zero = Some Min
stat_numbered (suc zero) = Some Max
stat_numbered (suc (suc zero)) = Some NullCount
stat_numbered (suc (suc (suc zero))) = Some NaNCount
stat_numbered (suc (suc (suc (suc n)))) = None

unfoldable pub stat_at : Bytes → Option (Stat × Bytes)
stat_at [] = None
stat_at (b ∷ rest) = stat_numbered b >>= λ s. Some (s, rest)

-- a value of a statistic of a known type
unfoldable pub scalar_at : Ty → Bytes → Option (Typed × Bytes)
scalar_at t bytes = value_at t bytes >>= λ x. Some (typed t x.0, x.1)

-- a statistic of this path and kind
abbrev pub statistic_of : List Bytes → Stat → List Typed → ZoneStat
statistic_of path stat values = record { path = path; stat = stat; values = values }

-- so many values of a statistic of this path and kind, whose type is known
unfoldable pub scalars_with : List Bytes → Stat → Option Ty → ℕ → Bytes → Option (ZoneStat × Bytes)
scalars_with path stat None k bytes = None
scalars_with path stat (Some t) k bytes =
    items_with (scalar_at (with_nullability t Nullable)) k bytes >>= λ vs. Some (statistic_of path stat vs.0, vs.1)

-- a statistic of a table in which paths lead to these plain types, with these lengths of blocks
unfoldable pub statistic_by : (List Bytes → Option Ty) → List ℕ → Bytes → Option (ZoneStat × Bytes)
statistic_by types lengths bytes =
    counted_with text_at bytes >>= λ path. stat_at path.1
    >>= λ stat. scalars_with path.0 stat.0 (option_and_then (statistic_type stat.0) (types path.0)) (length lengths) stat.1

-- the same of a table with these columns
abbrev pub statistic_at : Fields → List ℕ → Bytes → Option (ZoneStat × Bytes)
statistic_at columns lengths = statistic_by (leaf_type columns) lengths

-- the lengths of blocks that have no more rows together than a file may have
unfoldable pub lengths_at : Bytes → Option (List ℕ × Bytes)
lengths_at bytes = counted_with number_at bytes >>= λ ns. cond (nat_le (sum ns.0) most_rows) (Some ns) None

-- how long the ranges of blocks with so many columns are
unfoldable pub range_lengths_at : ℕ → ℕ → Bytes → Option (List (List ℕ) × Bytes)
range_lengths_at blocks width bytes = items_with (items_with number_at width) blocks bytes

-- a header with these columns, lengths, statistics and lengths of ranges
abbrev pub header_with : Fields → List ℕ → List ZoneStat → List (List ℕ) → Header
header_with columns lengths stats range_lengths =
    record { zones = record { columns = columns; lengths = lengths; stats = stats }; range_lengths = range_lengths }

-- a header, and what is left behind it
unfoldable pub header_at : Bytes → Option (Header × Bytes)
header_at bytes =
    columns_at bytes >>= λ c. lengths_at c.1 >>= λ ns. counted_with (statistic_at c.0 ns.0) ns.1
    >>= λ zs. range_lengths_at (length ns.0) (length (field_names c.0)) zs.1
    >>= λ rs. Some (header_with c.0 ns.0 zs.0 rs.0, rs.1)

-- a header that was read whole, with what is left behind it in the file
abbrev pub with_nothing_left : Header → Bytes → Bytes → Option (Header × Bytes)
with_nothing_left h rest [] = Some (h, rest)
with_nothing_left h rest (b ∷ left) = None

-- a header behind its length, and what is left behind it
unfoldable pub front_at : Bytes → Option (Header × Bytes)
front_at bytes = piece_at bytes >>= λ piece. header_at piece.0 >>= λ h. with_nothing_left h.0 piece.1 h.1
