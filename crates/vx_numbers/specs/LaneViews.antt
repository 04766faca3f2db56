-- The list that numbers of one width are.
use Rattle.vx_dtype.specs.declared.PType.TheVariants.{U8, U16, U32, U64, I8, I16, I32, I64}
use Rattle.vx_numbers.specs.Numbers.{NumberList, number_list}
use Rattle.vx_numbers.specs.declared.numbers.Lanes.{Lanes}
use Rattle.vx_numbers.specs.declared.numbers.Lanes.TheVariants.{U8 as LaneU8, U16 as LaneU16, U32 as LaneU32, U64 as LaneU64, I8 as LaneI8, I16 as LaneI16, I32 as LaneI32, I64 as LaneI64}

-- the type and the numbers of a lane
abbrev pub list_of : Lanes → NumberList
list_of (LaneU8 ns) = number_list U8 ns
list_of (LaneU16 ns) = number_list U16 ns
list_of (LaneU32 ns) = number_list U32 ns
list_of (LaneU64 ns) = number_list U64 ns
list_of (LaneI8 ns) = number_list I8 ns
list_of (LaneI16 ns) = number_list I16 ns
list_of (LaneI32 ns) = number_list I32 ns
list_of (LaneI64 ns) = number_list I64 ns
