-- What is seen of an expression's asked nodes and columns along a path.
use Rattle.std.specs.Prelude.{Bool, List}
use Rattle.std.specs.List.{list_any, flat_map}
use Rattle.vx_dtype.specs.Types.{Bytes, Ty}
use Rattle.vx_dtype.specs.TypeRules.{has_name}
use Rattle.vx_dtype.specs.Values.{Val}
use Rattle.vx_expr.specs.Trees.{Tree}
use Rattle.vx_semantics.specs.Meaning.{Slots}
use Rattle.vx_semantics.specs.Breaks.{Cause, breaks_by}
use Rattle.vx_semantics.specs.Asked.{asked, node_in, column_in}

-- whether a node that an expression asks along a path breaks by this cause at a row
abbrev pub breaks_along : Cause → Ty → Slots → Val → Tree → List Bytes → Bool
breaks_along cause t slots row e path = list_any (breaks_by cause t slots row) (flat_map node_in (asked t e path))

-- whether an expression asks this column along a path
abbrev pub asks_along : Ty → Tree → List Bytes → Bytes → Bool
asks_along t e path c = has_name c (flat_map column_in (asked t e path))
