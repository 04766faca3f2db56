-- Select removal: a select becomes a pack of the fields that it takes, each a field access on its child.
use Rattle.std.specs.Prelude.{List, map, Option, Some, None, not, Result, Ok, Err}
use Rattle.vx_dtype.specs.declared.Nullability.TheVariants.{NonNullable}
use Rattle.vx_dtype.specs.Types.{Bytes, Ty, struct_ty}
use Rattle.vx_dtype.specs.TypeRules.{is_nullable, field_names}
use Rattle.vx_expr.specs.declared.FieldSelection.{FieldSelection}
use Rattle.vx_expr.specs.Selections.{names_where_known}
use Rattle.vx_expr.specs.Trees.{Tree, get_item, pack, select, trees_of}
use Rattle.vx_semantics.specs.Typing.{Refusal, not_struct, nullable_select, unknown_field, and_then, unless}
use Rattle.vx_semantics.specs.LooseTyping.{loosely_typed}
use Rattle.vx_passes.specs.Rebuilding.{rebuilt}

-- the pack of these fields of an expression, not nullable
abbrev pub fields_pack : Tree → Option (List Bytes) → Result Tree Refusal
fields_pack e (Some names) = Ok (pack names (trees_of (map (λ f. get_item f e) names)) NonNullable)
fields_pack e None = Err unknown_field

-- a select of a struct of this type as a pack: no struct, a nullable one and an unknown field are refused, in this order
abbrev pub select_as_pack : FieldSelection → Tree → Ty → Result Tree Refusal
select_as_pack s e (struct_ty fs n) = unless (not (is_nullable n)) nullable_select (fields_pack e (names_where_known s (field_names fs)))
select_as_pack s e _ = Err not_struct

-- a select as a pack, by the looser type of its child; any other node stays
abbrev pub select_removed : Ty → Tree → Result Tree Refusal
select_removed t (select s e) = and_then (loosely_typed t e) (select_as_pack s e)
select_removed t e = Ok e

-- the expression over the scope's type with each select as a pack
abbrev pub without_select : Ty → Tree → Result Tree Refusal
without_select t e = rebuilt (select_removed t) e
