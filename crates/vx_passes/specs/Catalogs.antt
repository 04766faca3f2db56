-- Catalogs: what stands for a statistic of a path, where there is something.
use Rattle.std.specs.Prelude.{Bool, cond, ◌&&◌, nat_eq, List, length, map, Option, Some, None}
use Rattle.std.specs.List.{filter, list_any}
use Rattle.std.specs.Str.{bytes_eq}
use Rattle.vx_dtype.specs.declared.Stat.{Stat}
use Rattle.vx_dtype.specs.Types.{Bytes}
use Rattle.vx_dtype.specs.Equal.{names_eq}
use Rattle.vx_expr.specs.Trees.{Tree, root, get_item}
use Rattle.vx_semantics.specs.Tables.{Zones, statistic_path, joined_path, joined_name}

-- a catalog: the expression that stands for a statistic of a path, if there is one
abbrev pub Catalog : Type 0
Catalog = List Bytes → Stat → Option Tree

-- a statistic of a path as a field of the row of statistics, under its joined name
abbrev pub statistic_column : List Bytes → Stat → Tree
statistic_column path stat = get_item (joined_name path stat) root

-- the catalog that answers every statistic
abbrev pub every_statistic : Catalog
every_statistic path stat = Some (statistic_column path stat)

-- whether a statistic is a member of a set of paths, and no other member has its joined name
abbrev pub is_alone_among : List (List Bytes) → List Bytes → Bool
is_alone_among members path =
    list_any (names_eq path) members && nat_eq (length (filter (λ p. bytes_eq (joined_path path) (joined_path p)) members)) 1

-- the catalog that answers the statistics of a set of paths whose joined names stand once
abbrev pub statistics_among : List (List Bytes) → Catalog
statistics_among members path stat = cond (is_alone_among members (statistic_path path stat)) (Some (statistic_column path stat)) None

-- the statistics of zones as paths
abbrev pub available_paths : Zones → List (List Bytes)
available_paths zones = map (λ z. statistic_path z.path z.stat) zones.stats
