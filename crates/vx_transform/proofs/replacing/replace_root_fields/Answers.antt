use Rattle.std.proofs.Common.{◌≡◌, ◌∙◌, cond, map, subst, IfOk}
use Rattle.vx_dtype.specs.declared.Nullability.TheVariants.{NonNullable}
use Rattle.vx_dtype.specs.TypeRules.{field_names}
use Rattle.vx_dtype.specs.Types.{Bytes}
use Rattle.vx_expr.specs.Children.{is_root_tree}
use Rattle.vx_expr.specs.Trees.{Tree, root, get_item, pack, trees_of}
use Rattle.vx_passes.specs.Rebuilding.{rebuilt}
use Rattle.vx_passes.specs.Replacing.{changed_by, packed_row}
use Rattle.vx_transform.proofs.ChangeLemmas.{always, changed, changed_made, never_refused}
use Rattle.vx_transform.proofs.replacing.replace_root_fields.Goals as goal

pub unrefused-requires : goal.unrefused-requires
unrefused-requires c =
    let change : Tree → Tree = λ e. cond (is_root_tree e) c.in_ok-pack.pack e in
    never_refused (rebuilt (always change) c.args.expr) (changed_by change c.args.expr) c.rebuild.result (changed change c.args.expr) c.rebuild.ensures

pub returns : goal.returns
returns c =
    let change : Tree → Tree = λ e. cond (is_root_tree e) c.in_ok-pack.pack e in
    let made = changed_made (rebuilt (always change) c.args.expr) (changed_by change c.args.expr) c.rebuild.result c.unrefused.result (changed change c.args.expr) c.rebuild.ensures c.unrefused.ensures in
    let names : c.in_ok-names.names ≡ field_names c.args.fields.now = c.in_ok-names.ensures.cases ∙ c.names.ensures in
    let row : c.in_ok-row.row ≡ root = c.in_ok-row.ensures in
    let packed : c.in_ok-pack.pack ≡ packed_row c.args.fields.now =
    c.in_ok-pack.ensures ∙ (λ i. pack (names i) (trees_of (map (λ (f : Bytes). get_item f (row i)) (names i))) NonNullable) in
    subst (λ (r : Tree). IfOk c.unrefused.result (λ d. d ≡ changed_by (λ e. cond (is_root_tree e) r e) c.args.expr)) packed made
