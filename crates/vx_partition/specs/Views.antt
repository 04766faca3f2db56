-- How annotations, parts and partitions are seen.
use Rattle.std.specs.Prelude.{Bool, List, map}
use Rattle.std.specs.List.{list_any}
use Rattle.vx_dtype.specs.TypeViews.{type_view}
use Rattle.vx_expr.specs.Equal.{tree_eq}
use Rattle.vx_expr.specs.Trees.{Tree}
use Rattle.vx_passes.specs.Annotating.{Entry}
use Rattle.vx_passes.specs.Splitting.{Partition, Share}
use Rattle.vx_partition.specs.declared.annotations.Annotations.{Annotations}
use Rattle.vx_partition.specs.declared.partitions.Partition.{Partition as CodePartition}
use Rattle.vx_partition.specs.declared.shares.Shares.{Shares}

-- an expression and its annotations
abbrev pub entry_view : {A : Type 0} → Tree → List A → Entry A
entry_view e annotations = record { expression = e; annotations = annotations }

-- the entries of a map of annotations, in order
abbrev pub entries_view : {A : Type 0} → Annotations A → List (Entry A)
entries_view m = map (λ e. entry_view e.0 e.1.items) m.entries.entries

-- whether an expression has an entry
abbrev pub has_entry : {A : Type 0} → Tree → List (Entry A) → Bool
has_entry e es = list_any (λ x. tree_eq e x.expression) es

-- an annotation and its parts
abbrev pub share_view : {A : Type 0} → A × List Tree → Share A
share_view x = record { annotation = x.0; parts = x.1 }

-- the annotations that have parts, and these
abbrev pub shares_view : {A : Type 0} → Shares A → List (Share A)
shares_view s = map (λ e. share_view (e.0, e.1.items)) s.parts.entries

-- a partition
abbrev pub partition_view : {A : Type 0} → CodePartition A → Partition A
partition_view p = record { annotation = p.annotation; expression = p.expr; ty = type_view p.dtype }
