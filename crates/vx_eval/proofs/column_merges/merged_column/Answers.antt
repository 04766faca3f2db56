use Rattle.std.proofs.Common.{rules, ◌<◌, length}
use Rattle.vx_eval.specs.MergedColumns.{column_names}
use Rattle.vx_typing.proofs.FieldPlaces.{giver_within, giver_at}
use Rattle.vx_eval.proofs.MergedLemmas.{field_found}
use Rattle.vx_eval.proofs.column_merges.merged_column.Goals as goal

pub bounds-structs-field : goal.bounds-structs-field
bounds-structs-field c = giver_within column_names c.args.structs.now c.args.field.now c.requires

pub offset_bounds-structs-field : goal.offset_bounds-structs-field
offset_bounds-structs-field c = let within = giver_within column_names c.args.structs.now c.args.field.now c.requires in search (rules, within)

pub field_at-requires : goal.field_at-requires
field_at-requires c = (giver_at column_names c.args.structs.now c.args.field.now c.requires c.index-structs-field.result c.index-structs-field.is).first

pub returns : goal.returns
returns c =
    field_found c.args.structs.now c.args.field.now c.index-structs-field.result c.in_ok-field_at.field-0
    (giver_at column_names c.args.structs.now c.args.field.now c.requires c.index-structs-field.result c.index-structs-field.is) c.in_ok-field_at.ensures
