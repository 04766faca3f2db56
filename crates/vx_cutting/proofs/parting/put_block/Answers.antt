use Rattle.std.proofs.Common.{◌≡◌, ◌+◌, ◌<◌, ◌≤◌, ◌∙◌, sym, ap, subst, map, List, [], ◌∷◌, ◌++◌, arith}
use Rattle.std.specs.List.{sum}
use Rattle.std.proofs.lemmas.List.{map_push}
use Rattle.vx_tables.specs.Blocks.{block_view}
use Rattle.vx_cutting.specs.Parting.{Part, Parted, and_block, parted_view, table_of_part, Puts}
use Rattle.vx_cutting.specs.PartViews.{part_view, HasBlocks}
use Rattle.vx_cutting.proofs.PartLemmas.{if_made, puts_behind, puts_in}
use Rattle.vx_cutting.proofs.parting.put_block.Goals as goal

pub returns-then-part-rows-clause-puts : goal.returns-then-part-rows-clause-puts
returns-then-part-rows-clause-puts c =
    let part = part_view c.args.part in
    let n = c.args.rows in
    let block = block_view c.args.block in
    let whole = map parted_view c.args.whole.now.items in
    let fits : sum part.lengths + n ≤ c.args.most = omega (arith, c.requires.open.counted, c.if-part-rows.true) in
    if_made (HasBlocks (c.args.part.rows + n) (and_block part n block)) (λ now. Puts c.args.most c.args.zones.now whole part n block whole (part_view now)) c.and_block.result
    (λ now is. subst (λ (p : Part). Puts c.args.most c.args.zones.now whole part n block whole p) (sym is.blocks_are) (puts_in c.args.most c.args.zones.now whole part n block fits))
    c.and_block.ensures

pub returns-clause-puts : goal.returns-clause-puts
returns-clause-puts c =
    let part = part_view c.args.part in
    let n = c.args.rows in
    let block = block_view c.args.block in
    let zones = c.args.zones.now in
    let most = c.args.most in
    let old = map parted_view c.args.whole.now.items in
    let new = map parted_view c.push.new.self.items in
    let made = c.in_ok-table_of_part.field-0 in
    let past : most < sum part.lengths + n = omega (arith, c.requires.open.counted, c.if-part-rows.false) in
    let whole : new ≡ old ++ table_of_part zones part ∷ [] =
    ap (map parted_view) c.in_ok-push.ensures.items ∙ map_push parted_view c.args.whole.now.items made
    ∙ ap (λ (t : Parted). old ++ t ∷ []) c.in_ok-table_of_part.ensures in
    let behind = puts_behind most zones old part n block past in
    if_made (HasBlocks (c.no_block.result.rows + n) (and_block (part_view c.no_block.result) n block)) (λ now. Puts most zones old part n block new (part_view now)) c.and_block-2.result
    (λ now is.
    let begun = is.blocks_are ∙ ap (λ (p : Part). and_block p n block) c.no_block.ensures.blocks_are in
    subst (λ (w : List Parted). Puts most zones old part n block w (part_view now)) (sym whole)
    (subst (λ (p : Part). Puts most zones old part n block (old ++ table_of_part zones part ∷ []) p) (sym begun) behind))
    c.and_block-2.ensures
