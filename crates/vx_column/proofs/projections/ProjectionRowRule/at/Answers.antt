use Rattle.std.proofs.Common.{◌≡◌, sym, map}
use Rattle.vx_dtype.specs.Values.{raw_struct}
use Rattle.vx_dtype.specs.RawViews.{raw_view, raws_of}
use Rattle.vx_dtype.specs.declared.values.ScalarValue.{ScalarValue}
use Rattle.vx_column.proofs.FieldLemmas.{fields_fit_length}
use Rattle.vx_column.proofs.StructLemmas.{if_ok_map}
use Rattle.vx_column.proofs.ProjectionLemmas.{placed_all, places_within, projected_members, taken_fits, taken_stands}
use Rattle.vx_column.proofs.projections.ProjectionRowRule.at.Goals as goal

pub values_at-requires : goal.values_at-requires
values_at-requires c =
    let parts = c.in-Some.ensures c.args.self.now.fields.now c.args.self.now.nullability c.requires in
    let lengths = fields_fit_length c.in-Some.values.now c.args.self.now.fields.now parts.0 in
    places_within c.args.self.now.fields.now c.args.self.now.names.now c.args.self.now.places.now _ (sym lengths) (placed_all _ _ _ c.args.self.now.placed)

pub returns-in_ok-values_at-in-Some-clause-fit : goal.returns-in_ok-values_at-in-Some-clause-fit
returns-in_ok-values_at-in-Some-clause-fit c =
    let parts = c.in-Some.ensures c.args.self.now.fields.now c.args.self.now.nullability c.requires in
    let ys = c.in_ok-values_at-in-Some.field-0.items in
    let members = projected_members c.args.self.now.names.now c.args.self.now.fields.now c.args.self.now.places.now c.in-Some.values.now ys c.args.self.now.made.now c.args.self.now.typed parts.0 (placed_all _ _ _ c.args.self.now.placed) c.in_ok-values_at-in-Some.ensures in
    if_ok_map _ _ c.struct_of.result (λ (x : ScalarValue) (h : raw_view x ≡ raw_struct (raws_of (map raw_view c.in_ok-values_at-in-Some.field-0.items))). taken_fits c.args.self.now.names.now c.args.self.now.fields.now c.args.self.now.made.now c.args.self.now.nullability c.in-Some.values.now ys x members h) c.struct_of.ensures

pub returns-in_ok-values_at-in-Some-clause-value : goal.returns-in_ok-values_at-in-Some-clause-value
returns-in_ok-values_at-in-Some-clause-value c =
    let parts = c.in-Some.ensures c.args.self.now.fields.now c.args.self.now.nullability c.requires in
    let ys = c.in_ok-values_at-in-Some.field-0.items in
    let members = projected_members c.args.self.now.names.now c.args.self.now.fields.now c.args.self.now.places.now c.in-Some.values.now ys c.args.self.now.made.now c.args.self.now.typed parts.0 (placed_all _ _ _ c.args.self.now.placed) c.in_ok-values_at-in-Some.ensures in
    if_ok_map _ _ c.struct_of.result (λ (x : ScalarValue) (h : raw_view x ≡ raw_struct (raws_of (map raw_view c.in_ok-values_at-in-Some.field-0.items))). taken_stands c.args.self.now.names.now c.args.self.now.fields.now c.args.self.now.made.now c.args.self.now.nullability c.in-Some.values.now ys x _ members h parts.1) c.struct_of.ensures
