use Rattle.std.proofs.Common.{◌≡◌, ap, sym, ◌∙◌, Some, None}
use Rattle.vx_expr.specs.Children.{packed_field}
use Rattle.vx_expr.specs.Nodes.{node_tree}
use Rattle.vx_expr.specs.Packed.{pack_tree}
use Rattle.vx_expr.specs.Trees.{get_item}
use Rattle.vx_transform.proofs.ChangeLemmas.{field_taken, no_field}
use Rattle.vx_transform.proofs.pack_fields.FieldOfPackStep.at.Goals as goal

pub returns-in-Ok : goal.returns-in-Ok
returns-in-Ok c =
    let item = c.in-GetItem.item in
    let pack = c.in-Pack.pack in
    let is_item : get_item item.field item.child ≡ c.args.node.now = ap node_tree (sym c.in-GetItem.is) ∙ c.expr.ensures in
    let is_pack : pack_tree pack ≡ item.child = ap node_tree (sym c.in-Pack.is) ∙ c.expr-2.ensures ∙ c.child.ensures in
    field_taken c.args.node.now item.child item.field pack (Some c.in-Ok.value) is_item is_pack (ap (λ g. packed_field g pack) (sym c.field.ensures) ∙ c.in-Ok.ensures)

pub returns-in-Err-UnknownField : goal.returns-in-Err-UnknownField
returns-in-Err-UnknownField c =
    let item = c.in-GetItem.item in
    let pack = c.in-Pack.pack in
    let is_item : get_item item.field item.child ≡ c.args.node.now = ap node_tree (sym c.in-GetItem.is) ∙ c.expr.ensures in
    let is_pack : pack_tree pack ≡ item.child = ap node_tree (sym c.in-Pack.is) ∙ c.expr-2.ensures ∙ c.child.ensures in
    let none = no_field (packed_field c.field.result.now pack) c.in-Err-UnknownField.field-0 c.in-Err-UnknownField.field-0-is c.in-Err-UnknownField.ensures in
    field_taken c.args.node.now item.child item.field pack None is_item is_pack (ap (λ g. packed_field g pack) (sym c.field.ensures) ∙ none)
