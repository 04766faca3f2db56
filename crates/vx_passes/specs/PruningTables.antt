-- Pruning expressions over the statistics of a table, the statistics that they need, and the rows over which they are evaluated, one for each block.
use Rattle.std.specs.Prelude.{ℕ, Bool, cond, not, ◌&&◌, List, [], ◌∷◌, Option, Some, None, is_some, slice_get}
use Rattle.std.specs.List.{filter, list_any}
use Rattle.vx_dtype.specs.declared.Nullability.TheVariants.{Nullable}
use Rattle.vx_dtype.specs.declared.PType.TheVariants.{U64}
use Rattle.vx_dtype.specs.Types.{Bytes, Ty, int_ty, Fields, no_fields, field}
use Rattle.vx_dtype.specs.Values.{Val, null_val, struct_val, Members, no_members, member, Typed, value_of}
use Rattle.vx_expr.specs.Trees.{Tree}
use Rattle.vx_semantics.specs.Tables.{Zones, ZoneStat, same_statistic, joined_name}
use Rattle.vx_semantics.specs.Pruning.{available}
use Rattle.vx_passes.specs.Catalogs.{Catalog, statistics_among}
use Rattle.vx_passes.specs.Falsifying.{Question, falsified}

-- the questions that a catalog answers, each once, in the order in which they were asked first
abbrev pub answered_once : Catalog → List Question → List Question → List Question
answered_once catalog seen [] = []
answered_once catalog seen (q ∷ qs) =
    cond (is_some (catalog q.0 q.1) && not (list_any (same_statistic q) seen)) (q ∷ answered_once catalog (q ∷ seen) qs) (answered_once catalog seen qs)

-- a pruning expression and the statistics that it needs
pub record Pruning : Type 0 where
  pub tree : Tree
  pub required : List Question

-- the pruning expression of a filter over a set of statistics, if there is one, and all statistics that the catalog answered
abbrev pub pruning_where : Catalog → Option Tree → List Question → Option Pruning
pruning_where catalog None asked = None
pruning_where catalog (Some e) asked = Some (record { tree = e; required = answered_once catalog [] asked })

abbrev pub pruning_over : List (List Bytes) → Tree → Option Pruning
pruning_over members e =
    pruning_where (statistics_among members) (falsified (statistics_among members) e).tree (falsified (statistics_among members) e).asked

-- the statistics of zones that are available: no other has their joined name
abbrev pub available_statistics : Zones → List ZoneStat
available_statistics zones = filter (λ z. is_some (available zones z.path z.stat)) zones.stats

-- the type of the first value of a list, if there is one
abbrev pub first_type : List Typed → Ty → Ty
first_type [] t = t
first_type (s ∷ ss) t = s.ty

-- the columns of statistics under their joined names; a statistic without blocks has the type of a count
abbrev pub statistics_fields : List ZoneStat → Fields
statistics_fields [] = no_fields
statistics_fields (z ∷ zs) = field (joined_name z.path z.stat) (first_type z.values (int_ty U64 Nullable)) (statistics_fields zs)

-- the value of a statistic in a block, null past its end
abbrev pub value_or_null : Option Typed → Val
value_or_null None = null_val
value_or_null (Some s) = value_of s

-- the row of a block: each statistic under its joined name
abbrev pub statistics_members : List ZoneStat → ℕ → Members
statistics_members [] block = no_members
statistics_members (z ∷ zs) block = member (joined_name z.path z.stat) (value_or_null (slice_get z.values block)) (statistics_members zs block)

-- the columns, and the row of a block, of the available statistics of zones
abbrev pub pruning_fields : Zones → Fields
pruning_fields zones = statistics_fields (available_statistics zones)

abbrev pub pruning_row : Zones → ℕ → Val
pruning_row zones block = struct_val (statistics_members (available_statistics zones) block)
