use Rattle.vx_passes.specs.Rebuilding.{rebuilt}
use Rattle.vx_passes.specs.Replacing.{changed_by, replaced_where_equal}
use Rattle.vx_transform.proofs.ChangeLemmas.{always, changed, changed_made, never_refused}
use Rattle.vx_transform.proofs.replacing.replace.Goals as goal

pub unrefused-requires : goal.unrefused-requires
unrefused-requires c =
    let change = (replaced_where_equal c.args.needle.now c.args.replacement) in
    never_refused (rebuilt (always change) c.args.expr) (changed_by change c.args.expr) c.rebuild.result (changed change c.args.expr) c.rebuild.ensures

pub returns : goal.returns
returns c =
    let change = (replaced_where_equal c.args.needle.now c.args.replacement) in
    changed_made (rebuilt (always change) c.args.expr) (changed_by change c.args.expr) c.rebuild.result c.unrefused.result (changed change c.args.expr) c.rebuild.ensures c.unrefused.ensures
