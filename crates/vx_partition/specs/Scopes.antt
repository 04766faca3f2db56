-- The columns of a scope.
use Rattle.std.specs.Prelude.{◌≡◌, List}
use Rattle.std.specs.HashSet.{HashSet, contains}
use Rattle.std.specs.List.{list_any}
use Rattle.std.specs.Str.{bytes_eq}
use Rattle.vx_dtype.specs.declared.Nullability.TheVariants.{NonNullable}
use Rattle.vx_dtype.specs.Types.{Bytes, Fields, struct_ty}
use Rattle.vx_expr.specs.Trees.{Tree}
use Rattle.vx_passes.specs.Annotating.{column_annotation}
use Rattle.vx_partition.specs.declared.scope_access.ScopeAccess.{ScopeAccess}

-- the fields of the scope that a rule annotates by
abbrev pub access_scope : ScopeAccess → Fields
access_scope rule = rule.scope.now

-- the columns of a scope with these fields that a node touches itself
abbrev pub columns_of : Fields → Tree → List Bytes
columns_of fields = column_annotation (struct_ty fields NonNullable)

-- the set has just these names
abbrev pub HasJust : {S : Type 0} → List Bytes → HashSet Bytes S → Type 0
HasJust names set = (name : Bytes) → contains bytes_eq set name ≡ list_any (bytes_eq name) names
