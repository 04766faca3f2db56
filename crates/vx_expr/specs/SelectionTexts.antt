-- How choices of fields are printed: the included names as `{a, b}`, the excluded ones as `~{a, b}`.
use Rattle.std.specs.Prelude.{List, [], ◌∷◌, ◌++◌, codes}
use Rattle.vx_dtype.specs.Types.{Bytes}
use Rattle.vx_expr.specs.declared.selections.FieldSelection.{FieldSelection}

-- the names, this separator before the first and `, ` before the others
abbrev pub joined_names : Bytes → List Bytes → Bytes
joined_names separator [] = []
joined_names separator (f ∷ fs) = separator ++ f ++ joined_names (codes ", ") fs

-- the text of a choice of fields
abbrev pub selection_text : FieldSelection → Bytes
selection_text (FieldSelection.Include fs) = codes "{" ++ joined_names [] fs ++ codes "}"
selection_text (FieldSelection.Exclude fs) = codes "~{" ++ joined_names [] fs ++ codes "}"
