use Rattle.std.proofs.Common.{◌≡◌, ◌<◌, ◌∙◌, sym, ap, subst, length, map, take, get_or, List}
use Rattle.std.specs.declared.vec.Vec.{Vec}
use Rattle.std.specs.declared.alloc.Global.{Global}
use Rattle.std.proofs.lemmas.List.{map_more}
use Rattle.vx_dtype.specs.TypeViews.{type_view}
use Rattle.vx_column.specs.Columns.{Column, AppendsRows}
use Rattle.vx_tables.specs.Blocks.{block_view}
use Rattle.vx_cutting.specs.Cutting.{column_there}
use Rattle.vx_cutting.proofs.BlockLemmas.{has_at}
use Rattle.vx_cutting.proofs.JoinLemmas.{AreJoined, joined_more}
use Rattle.vx_cutting.proofs.columns.joined_column.Goals as goal

pub append_there-requires : goal.append_there-requires
append_there-requires c =
    let block = c.index-blocks-i.result in
    let has = has_at c.args.blocks.now c.loop-i.i c.args.place (type_view c.args.dtype.now) block c.requires.columns c.loop-i-test.true in
    subst (λ (cs : List Column). c.args.place < length cs) (ap (λ (v : Vec Column Global). v.items) (sym c.index-blocks-i.is) ∙ sym c.as_slice.ensures.value) has.0

pub loop-i-preserved : goal.loop-i-preserved
loop-i-preserved c =
    let t = type_view c.args.dtype.now in
    let place = c.args.place in
    let block = c.index-blocks-i.result in
    let blocks = c.args.blocks.now in
    let i = c.loop-i.i in
    let cs = (get_or blocks i block).items in
    let has = has_at blocks i place t block c.requires.columns c.loop-i-test.true in
    let same : c.as_slice.result.now ≡ cs = c.as_slice.ensures.value ∙ ap (λ (v : Vec Column Global). v.items) c.index-blocks-i.is in
    let added = subst (λ (ds : List Column). AppendsRows (column_there place ds) c.loop-i.values.items c.append_there.new.values.items) same c.in_ok-append_there.ensures in
    subst (λ bs. AreJoined place t bs c.append_there.new.values.items) (sym (map_more block_view blocks i block c.loop-i-test.true))
    (joined_more place t (map block_view (take i blocks)) cs c.loop-i.values.items c.append_there.new.values.items has.1 added c.loop-i.invariant)
