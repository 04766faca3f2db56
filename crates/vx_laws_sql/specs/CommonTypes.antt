-- The integer type in which numbers of two integer types are compared, added and subtracted.
use Rattle.std.specs.Prelude.{Bool, ◌&&◌, cond, int_le, List, [], ◌∷◌, Option, Some, None}
use Rattle.vx_dtype.specs.declared.PType.{PType}
use Rattle.vx_dtype.specs.declared.PType.TheVariants.{U8, U16, U32, U64, I8, I16, I32, I64}
use Rattle.vx_dtype.specs.Fits.{least, greatest}

-- whether each number of the second type is one of the first
abbrev pub holds_type : PType → PType → Bool
holds_type p q = int_le (least p) (least q) && int_le (greatest q) (greatest p)

-- the integer types from the narrowest on
abbrev pub by_width : List PType
by_width = U8 ∷ I8 ∷ U16 ∷ I16 ∷ U32 ∷ I32 ∷ U64 ∷ I64 ∷ []

-- the first of a list that passes a test
abbrev pub first_where : (PType → Bool) → List PType → Option PType
first_where test [] = None
first_where test (p ∷ ps) = cond (test p) (Some p) (first_where test ps)

-- the narrowest type that has each number of both; none has those of u64 and of a signed type
abbrev pub common_type : PType → PType → Option PType
common_type p q = first_where (λ c. holds_type c p && holds_type c q) by_width

-- the same of three
abbrev pub common_of_three : PType → PType → PType → Option PType
common_of_three p q r = first_where (λ c. holds_type c p && (holds_type c q && holds_type c r)) by_width

abbrev pub apart_by : Option PType → Option PType → PType → PType → PType → PType × PType
apart_by None with_third p q r = (p, q)
apart_by (Some c) None p q r = (p, r)
apart_by (Some c) (Some d) p q r = (q, r)

-- of three types without a common type the first two that have none: the first and the second, the first and the third, else the second and the third
abbrev pub first_apart : PType → PType → PType → PType × PType
first_apart p q r = apart_by (common_type p q) (common_type p r) p q r
