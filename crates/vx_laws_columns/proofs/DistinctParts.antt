-- No column has two partitions, so the struct of what the partitions give has no name twice.
use Rattle.std.proofs.Common.{◌≡◌, true, sym, subst, List, []}
use Rattle.std.specs.List.{flat_map}
use Rattle.vx_dtype.specs.Types.{Bytes, Ty}
use Rattle.vx_dtype.specs.TypeRules.{distinct_names, no_name_twice}
use Rattle.vx_semantics.specs.Asked.{column_in, asked}
use Rattle.vx_semantics.specs.Tables.{row_type}
use Rattle.vx_laws.proofs.Distinct.{distinct-first_names, typed-distinct}
use Rattle.vx_laws_parts.specs.Taking.{packed_shares}
use Rattle.vx_laws_columns.specs.Evaluable.{PartitionsAreDistinct}
use Rattle.vx_laws_columns.proofs.Partitions.{own_name, taken_by_columns}
use Rattle.vx_laws_columns.proofs.ByColumn.{one_partition_per_column}
use Rattle.vx_laws_columns.proofs.RootScope.{root-scope}

pub partitions_are_distinct : PartitionsAreDistinct
partitions_are_distinct fs e u d s h =
    let t = row_type fs in
    let o = root-scope fs e u d s h in
    let columns = flat_map column_in (asked t d []) in (
      subst (λ (cs : List Bytes). distinct_names cs ≡ true) (sym (one_partition_per_column fs e u d s h)) (distinct-first_names columns),
      subst (λ (v : Ty). no_name_twice v ≡ true) (sym o.is) (typed-distinct t (packed_shares own_name (taken_by_columns t d).shares) o.ty o.takes.typed),
    )
