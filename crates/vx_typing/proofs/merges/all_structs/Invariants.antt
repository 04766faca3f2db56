use Rattle.std.proofs.Common.{◌≡◌, map, drop}
use Rattle.std.specs.List.{list_all}
use Rattle.vx_dtype.specs.StructTypes.{is_struct_ty}
use Rattle.vx_dtype.specs.TypeViews.{type_view}
use Rattle.vx_typing.proofs.merges.all_structs.Given as goal

-- what is left to test
abbrev pub invariant-loop-dtype : goal.invariant-loop-dtype
invariant-loop-dtype l = list_all is_struct_ty (map type_view l.types) ≡ list_all is_struct_ty (map type_view (drop l.dtype-index l.types))
