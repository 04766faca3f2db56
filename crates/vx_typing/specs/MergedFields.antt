-- The fields that structs give together, and where each stands. A struct is given by the names of its fields.
use Rattle.std.specs.Prelude.{◌≡◌, ℕ, ◌+◌, Bool, true, ◌&&◌, List, [], ◌∷◌, Option, None, Some, option_map, position}
use Rattle.std.specs.List.{list_all}
use Rattle.std.specs.Option.{option_or}
use Rattle.std.specs.Str.{bytes_eq}
use Rattle.vx_dtype.specs.Equal.{names_eq}
use Rattle.vx_dtype.specs.Types.{Bytes}
use Rattle.vx_dtype.specs.TypeRules.{distinct_names}
use Rattle.vx_typing.specs.declared.field_places.FieldPlace.{FieldPlace}
use Rattle.vx_typing.specs.declared.field_places.MergedField.{MergedField}

-- the place with this index in the struct with this number
abbrev pub place_of : ℕ → ℕ → FieldPlace
place_of i j = record { giver = i; index = j }

-- the place of the first field of this name in the struct with this number
abbrev pub first_place : ℕ → Bytes → List Bytes → Option FieldPlace
first_place i f names = option_map (place_of i) (position (bytes_eq f) names)

-- of a name, the place of the first field in the last of the structs that has one; the structs are numbered from `i` on
abbrev pub last_place : ℕ → Bytes → List (List Bytes) → Option FieldPlace
last_place i f [] = None
last_place i f (names ∷ structs) = option_or (last_place (i + 1) f structs) (first_place i f names)

-- the name of a merged field
abbrev pub name_of : MergedField → Bytes
name_of m = m.name

-- the merged field stands where the last of the structs that has its name has it first
abbrev pub IsGivenBy : List (List Bytes) → MergedField → Type 0
IsGivenBy structs m = last_place 0 m.name structs ≡ Some m.place

-- whether structs all have the same names, of which none stands twice
abbrev pub are_alike : List (List Bytes) → Bool
are_alike [] = true
are_alike (names ∷ structs) = distinct_names names && list_all (names_eq names) structs
