use Rattle.std.proofs.Common.{◌≡◌, refl, ap, sym, ◌∙◌, Some, None}
use Rattle.std.specs.Str.{bytes_eq}
use Rattle.std.specs.List.{position}
use Rattle.vx_dtype.specs.TypeRules.{field_type, field_names, fields_of}
use Rattle.vx_dtype.specs.TypeViews.{type_view}
use Rattle.vx_column.proofs.FieldLemmas.{field_missing}
use Rattle.vx_column.proofs.columns.ColumnRef.field.Goals as goal

pub returns-in_default-position : goal.returns-in_default-position
returns-in_default-position c =
    let here : fields_of c.args.self.now.ty ≡ c.in-Struct.fields = ap fields_of (sym c.dtype.ensures.shown ∙ ap type_view c.in-Struct.is) in
    let place : position (bytes_eq c.args.name.now) (field_names c.in-Struct.fields) ≡ None = rw c.names.ensures at (sym c.position.ensures ∙ c.in_default-position.is) in
    let missing : field_type c.args.name.now (fields_of c.args.self.now.ty) ≡ None = ap (field_type c.args.name.now) here ∙ field_missing c.args.name.now c.in-Struct.fields place in
    rw missing refl

pub field_at-requires : goal.field_at-requires
field_at-requires c =
    let here : fields_of c.args.self.now.ty ≡ c.in-Struct.fields = ap fields_of (sym c.dtype.ensures.shown ∙ ap type_view c.in-Struct.is) in
    let place : position (bytes_eq c.args.name.now) (field_names c.in-Struct.fields) ≡ Some c.in-Some.place = rw c.names.ensures at (sym c.position.ensures ∙ c.in-Some.is) in
    ap (λ fs. position (bytes_eq c.args.name.now) (field_names fs)) here ∙ place
