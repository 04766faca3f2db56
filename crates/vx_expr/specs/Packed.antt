-- What a struct of named values is seen as.
use Rattle.std.specs.Prelude.{List}
use Rattle.vx_dtype.specs.declared.Nullability.{Nullability}
use Rattle.vx_dtype.specs.Types.{Bytes}
use Rattle.vx_expr.specs.Trees.{Tree, pack, trees_of}

-- names, as many values in their order, and whether the struct's type has null
pub record Packed : Type 0 where
  pub names : List Bytes
  pub values : List Tree
  pub nullability : Nullability

-- the expression that makes the struct
abbrev pub pack_tree : Packed → Tree
pack_tree p = pack p.names (trees_of p.values) p.nullability
