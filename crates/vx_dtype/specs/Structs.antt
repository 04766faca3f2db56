-- The fields of struct values: one of them, some of them, and those of several structs together.
use Rattle.std.specs.Prelude.{cond, not, List, [], ◌∷◌, Option, Some, None, unwrap_or}
use Rattle.std.specs.List.{filter}
use Rattle.std.specs.Str.{bytes_eq}
use Rattle.vx_dtype.specs.Types.{Bytes}
use Rattle.vx_dtype.specs.TypeRules.{has_name}
use Rattle.vx_dtype.specs.Values.{Val, null_val, struct_val, fault, Members, no_members, member}

-- the value of the first member of this name
abbrev pub member_named : Bytes → Members → Option Val
member_named f no_members = None
member_named f (member g v ms) = cond (bytes_eq f g) (Some v) (member_named f ms)

-- the field of a struct; null of null; a fault of a fault, of what is no struct, and where the struct has no such field
abbrev pub field_of : Bytes → Val → Val
field_of f null_val = null_val
field_of f (struct_val ms) = unwrap_or (member_named f ms) fault
field_of f _ = fault

-- the members with these names, in the order of the names, each the field of the value
abbrev pub members_at : List Bytes → Val → Members
members_at [] v = no_members
members_at (f ∷ fs) v = member f (field_of f v) (members_at fs v)

-- the struct of the fields with these names; null of null, a fault of anything else
abbrev pub selected : List Bytes → Val → Val
selected fs null_val = null_val
selected fs (struct_val ms) = struct_val (members_at fs (struct_val ms))
selected fs _ = fault

-- the members whose names are not among these
abbrev pub members_without : List Bytes → Members → Members
members_without fs no_members = no_members
members_without fs (member g v ms) = cond (has_name g fs) (members_without fs ms) (member g v (members_without fs ms))

-- the struct without the fields with these names; null of null, a fault of anything else
abbrev pub deselected : List Bytes → Val → Val
deselected fs null_val = null_val
deselected fs (struct_val ms) = struct_val (members_without fs ms)
deselected fs _ = fault

-- the names in order of first appearance
abbrev pub first_names : List Bytes → List Bytes
first_names [] = []
first_names (f ∷ fs) = f ∷ filter (λ g. not (bytes_eq f g)) (first_names fs)
