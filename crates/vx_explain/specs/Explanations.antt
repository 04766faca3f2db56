-- What an explanation tells: a filter and a projection as they are, the filter's pruning expression with the statistics that it needs, and the parts
-- of both.
use Rattle.std.specs.Prelude.{List, [], ◌++◌, codes, map, Option, Some, None, Result, Ok, Err}
use Rattle.std.specs.List.{filter, list_any}
use Rattle.vx_dtype.specs.Types.{Bytes, Fields}
use Rattle.vx_dtype.specs.Texts.{quoted_text}
use Rattle.vx_expr.specs.Trees.{Tree}
use Rattle.vx_expr.specs.CompactTexts.{compact_text}
use Rattle.vx_semantics.specs.Tables.{Zones, ZoneStat, row_type, joined_name, same_statistic}
use Rattle.vx_semantics.specs.Typing.{Refusal, and_then}
use Rattle.vx_zones.specs.ZoneViews.{statistic_paths}
use Rattle.vx_display.specs.Spaced.{spaced}
use Rattle.vx_passes.specs.PruningTables.{Pruning, pruning_over}
use Rattle.vx_passes.specs.Replacing.{root_replaced}
use Rattle.vx_passes.specs.Splitting.{Split}
use Rattle.vx_passes.specs.TypedSimplifying.{simplified_typed}
use Rattle.vx_laws_columns.specs.Columns.{split_by_columns}
use Rattle.vx_partition.specs.Splits.{in_columns}
use Rattle.vx_partition.specs.SplitTexts.{split_text}

-- the parts of an expression over rows with these fields: it is simplified by types with a pack of the fields for the row, and split by the columns
abbrev pub parts_of : Fields → Tree → Result (Split Bytes) Refusal
parts_of fs e = and_then (simplified_typed (row_type fs) (root_replaced fs e)) (split_by_columns (row_type fs))

-- the text of parts; an expression that is typed over the rows always has parts
abbrev pub parts_text : Result (Split Bytes) Refusal → Bytes
parts_text (Ok made) = split_text (in_columns (λ c. c) made)
parts_text (Err r) = codes "-"

-- the pruning expression of a filter over the statistics of zones, if there is one, with the statistics that it needs
abbrev pub pruning_of : Zones → Tree → Option Pruning
pruning_of zones f = pruning_over (statistic_paths zones.stats) f

-- its text, or `-` where there is none
abbrev pub pruning_text : Option Pruning → Bytes
pruning_text None = codes "-"
pruning_text (Some p) = compact_text p.tree

-- the quoted joined names of those of these statistics that it needs, in their order
abbrev pub required_names : List ZoneStat → Option Pruning → List Bytes
required_names stats None = []
required_names stats (Some p) =
    map (λ z. quoted_text (joined_name z.path z.stat)) (filter (λ z. list_any (same_statistic (z.path, z.stat)) p.required) stats)

-- a line of a word and a text, before those that follow
abbrev pub labelled : Bytes → Bytes → Bytes → Bytes
labelled word text rest = word ++ (text ++ (codes "\n" ++ rest))

-- the lines of an explanation: of the filter, its pruning expression, the statistics that this needs, and its parts; of the projection and its parts
abbrev pub explanation_lines : Bytes → Bytes → Bytes → Bytes → Bytes → Bytes → Bytes
explanation_lines filter_text pruning required filter_parts projection_text projection_parts =
    labelled (codes "filter ") filter_text
    (labelled (codes "pruning ") pruning
    (labelled (codes "required ") required
    (labelled (codes "parts ") filter_parts
    (labelled (codes "projection ") projection_text
    (labelled (codes "parts ") projection_parts [])))))

-- the explanation of a filter and a projection over a table with these zones
abbrev pub explain_text : Zones → Tree → Tree → Bytes
explain_text zones f p =
    explanation_lines (compact_text f) (pruning_text (pruning_of zones f)) (spaced (required_names zones.stats (pruning_of zones f)))
    (parts_text (parts_of zones.columns f)) (compact_text p) (parts_text (parts_of zones.columns p))
