-- A table whose rows are cut anew into blocks: the same rows, in blocks of one length.
use Rattle.std.specs.Prelude.{◌≡◌, ℕ, zero, suc, ◌<◌, ◌≤◌, List, [], ◌∷◌, length, take, drop, Some, None}
use Rattle.std.specs.List.{flat_map}
use Rattle.vx_dtype.specs.Values.{Val}
use Rattle.vx_expr.specs.Trees.{Tree}
use Rattle.vx_semantics.specs.Honest.{IsHonest}
use Rattle.vx_semantics.specs.Meaning.{Slots}
use Rattle.vx_semantics.specs.Tables.{Table, Zones}
use Rattle.vx_semantics.specs.Scans.{rows_of, kept_rows_of}
use Rattle.vx_laws_stats.specs.BuiltLaws.{IsTable}
use Rattle.vx_laws_stats.specs.BuiltStatistics.{built_zones}
use Rattle.vx_laws_topk.specs.TopLaws.{IsAskedOf}
use Rattle.vx_laws_topk.specs.TopRows.{TopAsk, top_rows_of}
use Rattle.vx_laws_shell.specs.Answers.{found_in_order}
use Rattle.vx_laws_shell.specs.AnswerLaws.{stop_of}
use Rattle.vx_laws_shell.specs.Damage.{is_never_damaged}

-- the rows of blocks, in their order
abbrev pub rows_in_blocks : List (List Val) → List Val
rows_in_blocks blocks = flat_map (λ (rows : List Val). rows) blocks

-- rows in blocks of so many, at most so many blocks: the last one has what is left
abbrev pub blocks_within : ℕ → ℕ → List Val → List (List Val)
blocks_within zero n rows = []
blocks_within (suc most) n [] = []
blocks_within (suc most) n (row ∷ rows) = take n (row ∷ rows) ∷ blocks_within most n (drop n (row ∷ rows))

-- the table with its rows in blocks of so many
abbrev pub cut_anew : ℕ → Table → Table
cut_anew n table =
    let rows = rows_in_blocks table.blocks in
    record { columns = table.columns; blocks = blocks_within (length rows) n rows }

-- blocks of so many rows, of which the last may have fewer; none is without rows
abbrev pub AreBlocksOf : ℕ → List (List Val) → Type 0
AreBlocksOf n [] = Unit {0}
AreBlocksOf n (rows ∷ []) = (0 < length rows) × (length rows ≤ n)
AreBlocksOf n (rows ∷ next ∷ blocks) = (length rows ≡ n) × AreBlocksOf n (next ∷ blocks)

-- a table is cut anew into such blocks, which have its rows in their order; and no others have
pub record IsCutAnew (n : ℕ) (table : Table) : Type 0 where
  pub rows : rows_in_blocks (cut_anew n table).blocks ≡ rows_in_blocks table.blocks
  pub blocks : AreBlocksOf n (cut_anew n table).blocks
  pub no_others : (others : List (List Val)) → rows_in_blocks others ≡ rows_in_blocks table.blocks → AreBlocksOf n others
      → others ≡ (cut_anew n table).blocks

abbrev pub TablesAreCutAnew : Type 0
TablesAreCutAnew = (n : ℕ) (table : Table) → 0 < n → IsCutAnew n table

-- so a scan without statistics answers the same rows
abbrev pub CutTablesKeepRows : Type 0
CutTablesKeepRows =
    (n : ℕ) (table : Table) (slots : Slots) (f p : Tree) → 0 < n → rows_of (cut_anew n table) slots f p ≡ rows_of table slots f p

-- rows that are values of a table's type stay such, and the statistics that the table has so are honest
abbrev pub CutTablesStayTables : Type 0
CutTablesStayTables = (n : ℕ) (table : Table) → 0 < n → IsTable table → IsTable (cut_anew n table)

abbrev pub StatisticsBuiltAnewAreHonest : Type 0
StatisticsBuiltAnewAreHonest = (n : ℕ) (table : Table) → 0 < n → IsTable table → IsHonest (built_zones (cut_anew n table)) (cut_anew n table)

-- by them a scan answers the rows that it answers of the table by any honest ones
abbrev pub CutTablesLoseNoRow : Type 0
CutTablesLoseNoRow =
    (n : ℕ) (table : Table) (zones : Zones) (slots : Slots) (f p : Tree) → 0 < n → IsTable table → IsHonest zones table
    → kept_rows_of (cut_anew n table) (built_zones (cut_anew n table)) slots f p ≡ kept_rows_of table zones slots f p

-- a run with a limit, where nothing stops it, finds the same rows
abbrev pub CutTablesKeepLimits : Type 0
CutTablesKeepLimits =
    (n : ℕ) (table : Table) (zones : Zones) (f p : Tree) (limit : ℕ) → 0 < n → IsTable table → IsHonest zones table
    → let cut = cut_anew n table in
    let anew = found_in_order is_never_damaged cut (built_zones cut) f p (Some limit) in
    let found = found_in_order is_never_damaged table zones f p (Some limit) in
    stop_of cut anew ≡ None → stop_of table found ≡ None → anew.rows ≡ found.rows

-- and the first rows by a key are the same
abbrev pub CutTablesKeepFirstRows : Type 0
CutTablesKeepFirstRows =
    (n : ℕ) (table : Table) (zones : Zones) (ask : TopAsk) → 0 < n → IsTable table → IsHonest zones table → IsAskedOf table ask
    → top_rows_of ask (cut_anew n table) (built_zones (cut_anew n table)) ≡ top_rows_of ask table zones
