-- How an expression in parts is seen.
use Rattle.std.specs.Prelude.{Bool, List, map, Option, position}
use Rattle.std.specs.Option.{option_and_then}
use Rattle.std.specs.List.{slice_get}
use Rattle.vx_dtype.specs.TypeViews.{type_view}
use Rattle.vx_dtype.specs.Types.{Bytes, Ty}
use Rattle.vx_expr.specs.Trees.{Tree}
use Rattle.vx_passes.specs.Splitting.{Split}
use Rattle.vx_partition.specs.declared.splitting.PartitionedExpr.{PartitionedExpr}

-- an expression in parts, column by column: the root, and of the partitions in order the expressions, names, types and annotations
pub record SplitColumns (A : Type 0) : Type 0 where
  pub root_expression : Tree
  pub expressions : List Tree
  pub names : List Bytes
  pub types : List Ty
  pub annotations : List A

-- a split as its columns; a partition's name is the text of its annotation
abbrev pub in_columns : {A : Type 0} → (A → Bytes) → Split A → SplitColumns A
in_columns text made =
    record {
      root_expression = made.root_expression;
      expressions = map (λ p. p.expression) made.partitions;
      names = map (λ p. text p.annotation) made.partitions;
      types = map (λ p. p.ty) made.partitions;
      annotations = map (λ p. p.annotation) made.partitions;
    }

-- the columns of an expression in parts
abbrev pub split_view : {A : Type 0} → PartitionedExpr A → SplitColumns A
split_view p =
    record {
      root_expression = p.root;
      expressions = p.partitions.items;
      names = p.partition_names;
      types = map type_view p.partition_dtypes.items;
      annotations = p.partition_annotations.items;
    }

-- the value at the place of the first element that passes the test
abbrev pub first_of : {A X : Type 0} → (A → Bool) → List A → List X → Option X
first_of test keys values = option_and_then (λ i. slice_get values i) (position test keys)
