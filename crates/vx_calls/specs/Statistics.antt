-- The statistics that the pruning of a filter needs.
use Rattle.std.specs.Prelude.{◌≡◌, List, [], ◌++◌, codes, fold, map, Option, Some, None, Result, Ok, Err}
use Rattle.std.specs.List.{filter, flat_map, list_any}
use Rattle.vx_dtype.specs.Paths.{with_path}
use Rattle.vx_dtype.specs.StatNames.{stat_name}
use Rattle.vx_dtype.specs.Types.{Bytes, Fields}
use Rattle.vx_expr.specs.Trees.{Tree}
use Rattle.vx_semantics.specs.Tables.{same_statistic, statistic_path}
use Rattle.vx_passes.specs.Falsifying.{Question}
use Rattle.vx_passes.specs.PruningTables.{Pruning, pruning_over}
use Rattle.vx_laws_stats.specs.BuiltLaws.{three_of}
use Rattle.vx_laws_stats.specs.BuiltStatistics.{stat_paths}
use Rattle.vx_calls.specs.Filters.{OverFilter, IsFilterRefused}
use Rattle.vx_calls.specs.Lists.{list_json, names_json}
use Rattle.vx_calls.specs.declared.errors.CallError.{CallError}

-- the statistics that a table of these columns can have: minimum, maximum and count of nulls of each plain field, in order
abbrev pub possible_statistics : Fields → List Question
possible_statistics columns = flat_map three_of (stat_paths columns)

-- the paths that stand for statistics, in order, none twice
abbrev pub paths_of : List Question → List (List Bytes)
paths_of statistics = fold (λ paths q. with_path (statistic_path q.0 q.1) paths) [] statistics

-- those of statistics that a pruning expression and its making need; none where there is no such expression
abbrev pub needed_among : List Question → Option Pruning → List Question
needed_among statistics None = []
needed_among statistics (Some pruning) = filter (λ q. list_any (same_statistic q) pruning.required) statistics

-- the statistics that the pruning of a filter needs, of all that a table of these columns can have, in their order
abbrev pub needed_statistics : Fields → Tree → List Question
needed_statistics columns tree =
    needed_among (possible_statistics columns) (pruning_over (paths_of (possible_statistics columns)) tree)

-- a statistic as a text: an object of the names of its path and of its own name
unfoldable pub statistic_json : Question → Bytes
statistic_json q = codes "{\"path\":" ++ (names_json q.0 ++ (codes ",\"stat\":\"" ++ (stat_name q.1 ++ codes "\"}")))

-- the text of the statistics that the pruning of a filter needs
abbrev pub statistics_json : Fields → Tree → Bytes
statistics_json columns tree = list_json (map statistic_json (needed_statistics columns tree))

-- what is answered: the text of the statistics that the filter's pruning needs, or why the bytes are no filter
abbrev pub TellsFilterStatistics : Bytes → Bytes → Result Bytes CallError → Type 0
TellsFilterStatistics schema filter_bytes (Ok bytes) = OverFilter schema filter_bytes (λ columns tree. bytes ≡ statistics_json columns tree)
TellsFilterStatistics schema filter_bytes (Err error) = IsFilterRefused schema filter_bytes error
