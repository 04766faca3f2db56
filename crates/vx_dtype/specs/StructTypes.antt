-- Struct types: which types are one, and their fields by place and by name.
use Rattle.std.specs.Prelude.{Bool, true, false, cond, List, [], ◌∷◌, Option, Some, None}
use Rattle.std.specs.List.{list_all}
use Rattle.vx_dtype.specs.Types.{Bytes, Ty, struct_ty, Fields, no_fields, field}
use Rattle.vx_dtype.specs.TypeRules.{field_type, field_names, has_name}

-- whether a type is a struct
abbrev pub is_struct_ty : Ty → Bool
is_struct_ty (struct_ty fs n) = true
is_struct_ty _ = false

-- the fields of a struct; another type has none at all
abbrev pub struct_fields : Ty → Option Fields
struct_fields (struct_ty fs n) = Some fs
struct_fields _ = None

-- the types of the fields, in order
abbrev pub field_types : Fields → List Ty
field_types no_fields = []
field_types (field f t fs) = t ∷ field_types fs

-- a field before others, where it has a type
abbrev pub with_field : Bytes → Option Ty → Fields → Fields
with_field f None fs = fs
with_field f (Some t) fs = field f t fs

-- the fields with these names in the order of the names, each at its first type; a name that no field has is left out
abbrev pub fields_at : List Bytes → Fields → Fields
fields_at [] fs = no_fields
fields_at (f ∷ names) fs = with_field f (field_type f fs) (fields_at names fs)

-- whether each of the first names is among the second ones
abbrev pub all_named : List Bytes → List Bytes → Bool
all_named names fs = list_all (λ f. has_name f fs) names

-- whether each name is one of the fields'
abbrev pub all_known : List Bytes → Fields → Bool
all_known names fs = all_named names (field_names fs)

-- the fields with these names, where each is one of the fields'
abbrev pub projected : List Bytes → Fields → Option Fields
projected names fs = cond (all_known names fs) (Some (fields_at names fs)) None
