-- Choices of a struct's fields.
use Rattle.std.specs.Prelude.{Bool, true, false, not, List, Option, option_map}
use Rattle.std.specs.List.{filter}
use Rattle.vx_dtype.specs.Types.{Bytes}
use Rattle.vx_dtype.specs.TypeRules.{has_name}
use Rattle.vx_dtype.specs.StructTypes.{all_named}
use Rattle.vx_expr.specs.declared.selections.FieldSelection.{FieldSelection}
use Rattle.vx_expr.specs.Trees.{Tree, select}
use Rattle.vx_expr.specs.Children.{where_so}

-- whether a choice lists the fields that it takes
abbrev pub is_included : FieldSelection → Bool
is_included (FieldSelection.Include fs) = true
is_included (FieldSelection.Exclude fs) = false

-- the names that a choice lists
abbrev pub listed_names : FieldSelection → List Bytes
listed_names (FieldSelection.Include fs) = fs
listed_names (FieldSelection.Exclude fs) = fs

-- the names that a choice takes of these: the included ones in their order, or these in their own without the excluded ones
abbrev pub taken_names : FieldSelection → List Bytes → List Bytes
taken_names (FieldSelection.Include fs) names = fs
taken_names (FieldSelection.Exclude fs) names = filter (λ g. not (has_name g fs)) names

-- the same, where each name that the choice lists is one of these
abbrev pub names_where_known : FieldSelection → List Bytes → Option (List Bytes)
names_where_known s names = where_so (all_named (listed_names s) names) (taken_names s names)

-- the choice of a struct's fields with those that are taken of these names listed, where each name of the choice is one of these
abbrev pub select_as_include : FieldSelection → Tree → List Bytes → Option Tree
select_as_include s e names = option_map (λ taken. select (FieldSelection.Include taken) e) (names_where_known s names)
