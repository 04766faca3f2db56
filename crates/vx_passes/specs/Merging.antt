-- Merge removal: a merge becomes a pack of the fields that it gives, each a field access on the last child that has the field.
use Rattle.std.specs.Prelude.{List, [], ◌∷◌, map, option_map, unwrap_or, Result, Ok, Err}
use Rattle.vx_dtype.specs.declared.Nullability.{Nullability}
use Rattle.vx_dtype.specs.Types.{Bytes, Ty, struct_ty}
use Rattle.vx_dtype.specs.TypeRules.{field_names}
use Rattle.vx_expr.specs.Trees.{Tree, root, get_item, pack, merge, Trees, no_trees, tree, trees_of}
use Rattle.vx_semantics.specs.Typing.{Refusal, not_struct, and_then}
use Rattle.vx_semantics.specs.LooseTyping.{loosely_typed}
use Rattle.vx_semantics.specs.Merging.{merged_names, last_giver}
use Rattle.vx_passes.specs.Rebuilding.{rebuilt}

-- a struct that goes into a merge: the names of its type, and its expression
pub record Giving : Type 0 where
  pub names : List Bytes
  pub expression : Tree

abbrev pub giving_names : Giving → List Bytes
giving_names g = g.names

-- an expression of a struct type as one that goes into a merge; another type is refused
abbrev pub giving_of : Tree → Ty → Result Giving Refusal
giving_of e (struct_ty fs n) = Ok (record { names = field_names fs; expression = e })
giving_of e _ = Err not_struct

-- the structs that go into a merge by the looser typing, child by child: first what it refuses, then that a child is no struct
abbrev pub givings : Ty → Trees → Result (List Giving) Refusal
givings t no_trees = Ok []
givings t (tree e es) = and_then (and_then (loosely_typed t e) (giving_of e)) (λ g. and_then (givings t es) (λ gs. Ok (g ∷ gs)))

-- a field of the last of them that has it; where none has, of the row, which no merge asks for
abbrev pub given_field : List Giving → Bytes → Tree
given_field gs f = get_item f (unwrap_or (option_map (λ g. g.expression) (last_giver giving_names f gs)) root)

-- the fields that they give together, in order of first appearance, as a pack
abbrev pub givings_pack : Nullability → List Giving → Tree
givings_pack n gs = pack (merged_names giving_names gs) (trees_of (map (given_field gs) (merged_names giving_names gs))) n

-- a merge as a pack; any other node stays
abbrev pub merge_removed : Ty → Tree → Result Tree Refusal
merge_removed t (merge es n) = and_then (givings t es) (λ gs. Ok (givings_pack n gs))
merge_removed t e = Ok e

-- the expression over the scope's type with each merge as a pack
abbrev pub without_merge : Ty → Tree → Result Tree Refusal
without_merge t e = rebuilt (merge_removed t) e
