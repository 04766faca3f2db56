-- The text of an expression in parts.
use Rattle.std.specs.Prelude.{[], ◌++◌, codes}
use Rattle.vx_dtype.specs.Types.{Bytes}
use Rattle.vx_expr.specs.Trees.{trees_of}
use Rattle.vx_expr.specs.CompactTexts.{compact_text, named_texts}
use Rattle.vx_partition.specs.Splits.{SplitColumns}

-- the compact text of the root and, in braces, that of each partition behind its name
abbrev pub split_text : {A : Type 0} → SplitColumns A → Bytes
split_text s =
    codes "root: " ++ (compact_text s.root_expression ++ (codes " {" ++ (named_texts [] s.names (trees_of s.expressions) ++ codes "}")))
