-- For the checker: no public clause cites this.
-- The statistics of columns as a walk over their types makes them: field by field, with the path from the table on.
use Rattle.std.specs.Prelude.{◌≡◌, List, [], ◌∷◌, ◌++◌, map}
use Rattle.vx_dtype.specs.Types.{Bytes, Ty, bool_ty, int_ty, text_ty, list_ty, struct_ty, Fields, no_fields, field}
use Rattle.vx_dtype.specs.Values.{Val}
use Rattle.vx_dtype.specs.Structs.{field_of}
use Rattle.vx_semantics.specs.Tables as tables
use Rattle.vx_zones.specs.ZoneViews.{stat_view}
use Rattle.vx_zones.specs.declared.zones.ZoneStat.{ZoneStat}
use Rattle.vx_laws_stats.specs.BuiltStatistics.{Leaf, statistics_of}

-- the plain field of a path and a type
abbrev pub leaf : List Bytes → Ty → Leaf
leaf path t = record { path = path; ty = t }

abbrev mutual
  -- the statistics of the field of a path and a type, whose values in each block are these, and of those below it
  pub walked_at : List Bytes → Ty → List (List Val) → List tables.ZoneStat
  walked_at path (bool_ty n) columns = statistics_of (leaf path (bool_ty n)) columns
  walked_at path (int_ty p n) columns = statistics_of (leaf path (int_ty p n)) columns
  walked_at path (text_ty n) columns = statistics_of (leaf path (text_ty n)) columns
  walked_at path (list_ty e n) columns = []
  walked_at path (struct_ty fs n) columns = walked_below path fs columns

  -- the same of these fields of structs
  pub walked_below : List Bytes → Fields → List (List Val) → List tables.ZoneStat
  walked_below path no_fields columns = []
  walked_below path (field f t fs) columns = walked_at (path ++ f ∷ []) t (map (map (field_of f)) columns) ++ walked_below path fs columns

-- these statistics stand behind those that were there
abbrev pub AddsStatistics : List tables.ZoneStat → List ZoneStat → List ZoneStat → Type 0
AddsStatistics more old new = map stat_view new ≡ map stat_view old ++ more
