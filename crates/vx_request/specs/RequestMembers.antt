-- The places of a request, as they are read before the table is known: cells are JSON values until then.
use Rattle.std.specs.Prelude.{ℕ, ◌+◌, ◌^◌, ◌&&◌, nat_le, nat_lt, cond, List, [], ◌∷◌, length, codes, Option, Some, None}
use Rattle.std.specs.Str.{bytes_eq}
use Rattle.serde_json.specs.Data.{Data, Items}
use Rattle.serde_json.specs.Find.{as_str, as_array}
use Rattle.vx_dtype.specs.declared.statistics.Stat.{Stat}
use Rattle.vx_dtype.specs.declared.statistics.Stat.TheVariants.{Min, Max, NullCount}
use Rattle.vx_dtype.specs.Types.{Bytes, Fields}
use Rattle.vx_request.specs.Objects.{◌>>=◌, object_of, list_read, count_in, whole_read}
use Rattle.vx_request.specs.WrittenTypes.{named_type_in, named_fields, type_in}

-- a block: how many rows it has, and of each column its cells
pub record BlockText : Type 0 where
  pub rows : ℕ
  pub values : List Items

-- a statistic: the path's names, the statistic's kind, and its cells
pub record StatText : Type 0 where
  pub path : List Bytes
  pub stat : Stat
  pub values : Items

-- the most columns, and the most rows of all blocks together
abbrev pub most_columns : ℕ
most_columns = 1024

abbrev pub most_rows : ℕ
most_rows = 1048576

-- the columns: a list of names beside types, no more than the most
abbrev pub columns_in : Data → Option Fields
columns_in d = list_read (named_type_in type_in) d >>= λ cs. cond (nat_le (length cs) most_columns) (Some (named_fields cs)) None

-- a number of rows, no greater than the most
abbrev pub rows_in : Data → Option ℕ
rows_in d = count_in d >>= λ n. cond (nat_le n most_rows) (Some n) None

-- a block: an object of its number of rows and the lists of its columns' cells
abbrev pub block_of : List Data → Option BlockText
block_of (rows ∷ values ∷ []) = rows_in rows >>= λ n. list_read as_array values >>= λ vs. Some (record { rows = n; values = vs })
block_of _ = None

abbrev pub block_in : Data → Option BlockText
block_in d = object_of (codes "rows" ∷ codes "values" ∷ []) d >>= block_of

-- how many rows all blocks have together
abbrev pub rows_number : List BlockText → ℕ
rows_number [] = 0
rows_number (b ∷ bs) = b.rows + rows_number bs

-- blocks of no more rows together than the most, and fewer blocks than 2^32
abbrev pub few_blocks : List BlockText → Option (List BlockText)
few_blocks bs = cond (nat_le (rows_number bs) most_rows && nat_lt (length bs) (2 ^ 32)) (Some bs) None

-- the blocks: a list of few enough of them, whose numbers are whole numbers, also those in cells
abbrev pub blocks_in : Data → Option (List BlockText)
blocks_in d = whole_read (list_read block_in) d >>= few_blocks

-- the statistic of a name
abbrev pub stat_named : Bytes → Option Stat
stat_named s =
    cond (bytes_eq s (codes "min")) (Some Min)
    (cond (bytes_eq s (codes "max")) (Some Max)
    (cond (bytes_eq s (codes "null_count")) (Some NullCount) None))

-- a statistic: an object of its path's names, its own name and its cells
abbrev pub stat_of : List Data → Option StatText
stat_of (path ∷ stat ∷ values ∷ []) =
    list_read as_str path >>= λ p. as_str stat >>= stat_named >>= λ s. as_array values >>= λ vs. Some (record { path = p; stat = s; values = vs })
stat_of _ = None

abbrev pub stat_in : Data → Option StatText
stat_in d = object_of (codes "path" ∷ codes "stat" ∷ codes "values" ∷ []) d >>= stat_of

-- the statistics: a list of them, whose numbers are whole numbers, also those in cells
abbrev pub stats_in : Data → Option (List StatText)
stats_in d = whole_read (list_read stat_in) d
