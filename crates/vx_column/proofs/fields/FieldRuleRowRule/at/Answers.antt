use Rattle.std.proofs.Common.{◌<◌, arith, rules, ap, sym, ◌∙◌, length}
use Rattle.vx_dtype.specs.Structs.{field_of}
use Rattle.vx_column.proofs.FieldLemmas.{field_made, fields_fit_length, position_within}
use Rattle.vx_column.proofs.fields.FieldRuleRowRule.at.Goals as goal

pub bounds-values-self : goal.bounds-values-self
bounds-values-self c =
    let parts = c.in-Some.ensures c.args.self.now.fields.now c.args.self.now.nullability c.requires in
    let place = position_within c.args.self.now.name.now c.args.self.now.fields.now c.args.self.now.place c.args.self.now.first in
    let lengths = fields_fit_length c.in-Some.values.now c.args.self.now.fields.now parts.0 in
    omega (arith, place, lengths)

pub offset_bounds-values-self : goal.offset_bounds-values-self
offset_bounds-values-self c =
    let parts = c.in-Some.ensures c.args.self.now.fields.now c.args.self.now.nullability c.requires in
    let place = position_within c.args.self.now.name.now c.args.self.now.fields.now c.args.self.now.place c.args.self.now.first in
    let lengths = fields_fit_length c.in-Some.values.now c.args.self.now.fields.now parts.0 in
    let within : c.args.self.now.place < length c.in-Some.values.now = omega (arith, place, lengths) in
    search rules

pub returns-in_ok-clone-in-Some-clause-fit : goal.returns-in_ok-clone-in-Some-clause-fit
returns-in_ok-clone-in-Some-clause-fit c =
    let parts = c.in-Some.ensures c.args.self.now.fields.now c.args.self.now.nullability c.requires in
    (field_made c.args.self.now.name.now c.args.self.now.fields.now c.args.self.now.nullability c.args.self.now.place c.in-Some.values.now c.index-values-self.result c.in_ok-clone-in-Some.field-0 c.args.self.now.first parts.0 c.index-values-self.is c.in_ok-clone-in-Some.ensures.cases).0

pub returns-in_ok-clone-in-Some-clause-value : goal.returns-in_ok-clone-in-Some-clause-value
returns-in_ok-clone-in-Some-clause-value c =
    let parts = c.in-Some.ensures c.args.self.now.fields.now c.args.self.now.nullability c.requires in
    let made = field_made c.args.self.now.name.now c.args.self.now.fields.now c.args.self.now.nullability c.args.self.now.place c.in-Some.values.now c.index-values-self.result c.in_ok-clone-in-Some.field-0 c.args.self.now.first parts.0 c.index-values-self.is c.in_ok-clone-in-Some.ensures.cases in
    made.1 ∙ ap (field_of c.args.self.now.name.now) (sym parts.1)
