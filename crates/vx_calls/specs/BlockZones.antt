-- The blocks that a filter rules out by statistics that arrays tell.
use Rattle.std.specs.Prelude.{◌≡◌, ◌⊎◌, ℕ, ◌<◌, ◌≤◌, ◌^◌, List, [], length, map, Option, option_map, unwrap_or, Result, Ok, Err}
use Rattle.std.specs.Option.{option_and_then}
use Rattle.vx_dtype.specs.declared.Nullability.TheVariants.{Nullable}
use Rattle.vx_dtype.specs.declared.PType.TheVariants.{U64}
use Rattle.vx_dtype.specs.Types.{Bytes, Ty, int_ty, Fields}
use Rattle.vx_dtype.specs.Values.{Val, Typed}
use Rattle.vx_expr.specs.Trees.{Tree}
use Rattle.vx_semantics.specs.Tables.{Zones, ZoneStat}
use Rattle.vx_passes.specs.Falsifying.{Question}
use Rattle.vx_column.specs.Columns.{Column, zip_rows}
use Rattle.vx_zones.specs.LeafTypes.{nullable}
use Rattle.vx_zones.specs.Zoning.{leaf_type, statistic_type}
use Rattle.vx_laws_stats.specs.BuiltStatistics.{raw_of}
use Rattle.vx_block_pruning.specs.BlocksRuledOut.{blocks_ruled_out}
use Rattle.vx_arrays.specs.Arrays.{arrays_told}
use Rattle.vx_arrays.specs.Bitmaps.{bitmap_of}
use Rattle.vx_arrays.specs.declared.errors.ArrayError.{ArrayError}
use Rattle.vx_calls.specs.Filters.{OverFilter, IsFilterRefused}
use Rattle.vx_calls.specs.Statistics.{needed_statistics}
use Rattle.vx_calls.specs.declared.errors.CallError.{CallError}
use Rattle.vx_calls.specs.declared.errors.CallError.TheVariants as errors

-- the type of the cells of a statistic, by the plain types that paths lead to: that of zones, the field's for a bound and u64 for the count of nulls, made
-- nullable
abbrev pub cell_type_by : (List Bytes → Option Ty) → Question → Ty
cell_type_by types q = unwrap_or (option_map nullable (option_and_then (statistic_type q.1) (types q.0))) (int_ty U64 Nullable)

abbrev pub cell_type : Fields → Question → Ty
cell_type columns q = cell_type_by (leaf_type columns) q

-- the types of the cells of the statistics that a filter needs
abbrev pub cell_types : Fields → Tree → List Ty
cell_types columns tree = map (cell_type columns) (needed_statistics columns tree)

-- a statistic whose values are the cells of a column, a block each; null where nothing is known
abbrev pub cell_scalar : Ty → Val → Typed
cell_scalar t v = record { ty = t; value = raw_of v }

abbrev pub told_statistic : Question → Column → ZoneStat
told_statistic q c = record { path = q.0; stat = q.1; values = map (cell_scalar c.ty) c.rows }

-- the zones of blocks of these lengths with the statistics that a filter needs, whose cells are those of these columns in their order
abbrev pub zones_told : Fields → List ℕ → Tree → List Column → Zones
zones_told columns lengths tree cells =
    record { columns = columns; lengths = lengths; stats = zip_rows told_statistic (needed_statistics columns tree) cells }

-- what arrays tell as the cells of the statistics that a filter needs, in blocks of these lengths
abbrev pub cells_told : Fields → Tree → List ℕ → Bytes → List ℕ → Result (List Column) ArrayError
cells_told columns tree lengths body buffers = arrays_told (cell_types columns tree) (length lengths) body buffers

-- a bitmap of the blocks that a filter rules out by the zones that arrays tell, a bit a block
pub record IsRuledOut (columns : Fields) (tree : Tree) (lengths : List ℕ) (body : Bytes) (buffers : List ℕ) (bytes : Bytes) : Type 0 where
  pub few : length lengths < 2 ^ 32
  pub cells : List Column
  pub told : cells_told columns tree lengths body buffers ≡ Ok cells
  pub bits : bytes ≡ bitmap_of (blocks_ruled_out (zones_told columns lengths tree cells) [] tree)

-- why no blocks are told: there are too many, or the arrays aren't of these statistics
abbrev pub AreBlocksRefused : List ℕ → Bytes → List ℕ → CallError → Fields → Tree → Type 0
AreBlocksRefused lengths body buffers errors.ManyBlocks columns tree = 2 ^ 32 ≤ length lengths
AreBlocksRefused lengths body buffers (errors.Arrays refusal) columns tree =
    (length lengths < 2 ^ 32) × (cells_told columns tree lengths body buffers ≡ Err refusal)
AreBlocksRefused lengths body buffers _ columns tree = ⊥

-- what is answered: the blocks that the filter rules out, or why the bytes are no filter, or why no blocks are told
abbrev pub TellsRuledOut : Bytes → Bytes → List ℕ → Bytes → List ℕ → Result Bytes CallError → Type 0
TellsRuledOut schema filter lengths body buffers (Ok bytes) =
    OverFilter schema filter (λ columns tree. IsRuledOut columns tree lengths body buffers bytes)
TellsRuledOut schema filter lengths body buffers (Err error) =
    IsFilterRefused schema filter error ⊎ OverFilter schema filter (AreBlocksRefused lengths body buffers error)
