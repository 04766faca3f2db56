-- The names of those of the columns so far that are read.
use Rattle.std.proofs.Common.{◌≡◌, map, take}
use Rattle.std.specs.String.{string_bytes}
use Rattle.vx_dtype.specs.Texts.{quoted_text}
use Rattle.vx_laws_explaining.specs.Explained.{read_names}
use Rattle.vx_explaining.specs.ExplainedViews.{column_view}
use Rattle.vx_explaining.proofs.json.quoted_names.Given as goal

abbrev pub invariant-loop-column : goal.invariant-loop-column
invariant-loop-column l = map string_bytes l.names.items ≡ map quoted_text (read_names (map column_view (take l.column-index l.fn.columns)))
