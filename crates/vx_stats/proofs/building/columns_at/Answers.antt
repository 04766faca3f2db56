use Rattle.std.proofs.Common.{◌<◌, length, get_or, subst, sym, ap, ◌∙◌}
use Rattle.std.specs.declared.vec.Vec.{Vec}
use Rattle.std.specs.declared.alloc.Global.{Global}
use Rattle.vx_column.specs.Columns.{Column}
use Rattle.vx_stats.proofs.TableLemmas.{kept-at}
use Rattle.vx_stats.proofs.building.columns_at.Goals as goal

pub column_in-requires : goal.column_in-requires
column_in-requires c =
    let wide = kept-at c.args.blocks.now c.loop-block.block-index c.args.place c.block-item.result c.requires c.loop-block-test.true in
    subst (λ (n : _). c.args.place < n) (sym (ap length c.as_slice.ensures.value ∙ ap (λ (v : Vec Column Global). length v.items) c.block-item.is)) wide
