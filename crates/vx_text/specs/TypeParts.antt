-- For the checker: no public clause cites this.
-- How the fields of a type are seen while they are read.
use Rattle.std.specs.Prelude.{List, map}
use Rattle.vx_dtype.specs.Types.{Bytes, Ty}
use Rattle.vx_dtype.specs.TypeViews.{type_view}
use Rattle.vx_text.specs.declared.types.FieldList.{FieldList}

-- the names, and the types
abbrev pub field_list : FieldList → List Bytes × List Ty
field_list fs = (fs.names.items, map type_view fs.dtypes.items)
