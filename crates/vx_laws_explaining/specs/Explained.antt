-- What is explained of a plan over the zones of a table, whichever form it takes: its expressions, the statistics that decide, what each column is read for,
-- and which blocks are skipped.
use Rattle.std.specs.Prelude.{ℕ, Bool, true, false, cond, ◌||◌, List, [], map, length, Option, Some, None, option_map}
use Rattle.std.specs.List.{filter, list_any}
use Rattle.std.specs.Str.{bytes_eq}
use Rattle.vx_dtype.specs.Texts.{quoted_text}
use Rattle.vx_dtype.specs.Types.{Bytes}
use Rattle.vx_dtype.specs.TypeRules.{field_names, has_name}
use Rattle.vx_expr.specs.Trees.{Tree}
use Rattle.vx_semantics.specs.Asked.{asked_columns}
use Rattle.vx_semantics.specs.Tables.{Zones, ZoneStat, row_type, joined_name, same_statistic}
use Rattle.vx_zones.specs.ZoneViews.{statistic_paths}
use Rattle.vx_passes.specs.PruningTables.{Pruning, pruning_over}
use Rattle.vx_block_pruning.specs.BlocksRuledOut.{blocks_ruled_out}
use Rattle.vx_laws_statements.specs.Clauses.{Key}
use Rattle.vx_laws_statements.specs.Statements.{Plan}
use Rattle.vx_laws_shell.specs.Wants.{condition_tree}

-- what a column is read for: the filter or the order, the rows alone, or nothing
pub data Usage : Type 0 where
  for_filter : Usage
  for_rows : Usage
  for_nothing : Usage

-- a column of the table
pub record UsedColumn : Type 0 where
  pub name : Bytes
  pub usage : Usage

-- a statistic that decides which blocks are skipped: its joined name within quotes, and the statistic
pub record Decider : Type 0 where
  pub name : Bytes
  pub statistic : ZoneStat

-- what is explained: the filter and the projection, the pruning expression where there is one, the statistics that decide, the columns, and of each block
-- its rows and whether it is skipped
pub record Explained : Type 0 where
  pub filter : Tree
  pub projection : Tree
  pub pruning : Option Tree
  pub deciders : List Decider
  pub columns : List UsedColumn
  pub lengths : List ℕ
  pub skipped : List Bool

-- ---- columns

-- whether rows are ordered by a column
abbrev pub is_key : Option Key → Bytes → Bool
is_key None c = false
is_key (Some key) c = bytes_eq c key.column

-- what a column is read for, by whether the filter asks it, the order, and whether the projection asks it
abbrev pub usage_of : (Bytes → Bool) → Option Key → (Bytes → Bool) → Bytes → Usage
usage_of filtering order projecting c = cond (filtering c || is_key order c) for_filter (cond (projecting c) for_rows for_nothing)

abbrev pub used_column : (Bytes → Bool) → Option Key → (Bytes → Bool) → Bytes → UsedColumn
used_column filtering order projecting c = record { name = c; usage = usage_of filtering order projecting c }

-- the columns of these names, by the names of those that the filter asks, the order, and the names of those that the projection asks
abbrev pub used_columns : List Bytes → List Bytes → Option Key → List Bytes → List UsedColumn
used_columns names filtering order projecting = map (used_column (λ c. has_name c filtering) order (λ c. has_name c projecting)) names

-- whether a column is read
abbrev pub is_used : Usage → Bool
is_used for_filter = true
is_used for_rows = true
is_used for_nothing = false

-- the names of the columns that are read
abbrev pub read_names : List UsedColumn → List Bytes
read_names columns = map (λ c. c.name) (filter (λ c. is_used c.usage) columns)

-- ---- blocks

-- how many blocks are skipped
abbrev pub number_skipped : List Bool → ℕ
number_skipped skipped = length (filter (λ out. out) skipped)

-- ---- statistics

-- the pruning expression of a filter over the statistics of zones, where there is one, with the statistics that it needs
abbrev pub pruning_of : Zones → Tree → Option Pruning
pruning_of zones f = pruning_over (statistic_paths zones.stats) f

-- those of these statistics that it needs
abbrev pub decider : ZoneStat → Decider
decider z = record { name = quoted_text (joined_name z.path z.stat); statistic = z }

abbrev pub deciders_of : List ZoneStat → Option Pruning → List Decider
deciders_of stats None = []
deciders_of stats (Some p) = map decider (filter (λ z. list_any (same_statistic (z.path, z.stat)) p.required) stats)

-- ---- all

-- what is explained of a filter, a projection and an order over zones
abbrev pub explained_by : Zones → Tree → Tree → Option Key → Explained
explained_by zones f p order =
    let t = row_type zones.columns in
    record {
      filter = f;
      projection = p;
      pruning = option_map (λ q. q.tree) (pruning_of zones f);
      deciders = deciders_of zones.stats (pruning_of zones f);
      columns = used_columns (field_names zones.columns) (asked_columns t f) order (asked_columns t p);
      lengths = zones.lengths;
      skipped = blocks_ruled_out zones [] f;
    }

-- what is explained of a plan over zones
abbrev pub explained_of : Zones → Plan → Explained
explained_of zones plan = explained_by zones (condition_tree plan.filter) plan.rows.tree plan.order
