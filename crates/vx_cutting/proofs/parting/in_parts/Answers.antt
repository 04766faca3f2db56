use Rattle.std.proofs.Common.{rules, ◌≡◌, ◌∙◌, sym, ap, map, take, length, [], ◌∷◌, ◌++◌, List, arith}
use Rattle.std.proofs.lemmas.List.{append-nil, map-id, map_push, take_all}
use Rattle.std.proofs.lemmas.Iterator.Adapters.{YieldsList-from_vec}
use Rattle.std.proofs.lemmas.Iterator.Consumers.{YieldsList-end}
use Rattle.std.specs.Vec.Iter.{into_iter_len}
use Rattle.vx_tables.specs.Blocks.{block_view}
use Rattle.vx_cutting.specs.Parting.{Part, no_block, parted_view, parts_behind, table_of_part}
use Rattle.vx_cutting.specs.PartViews.{part_view}
use Rattle.vx_cutting.proofs.PartLemmas.{none_behind}
use Rattle.vx_cutting.proofs.parting.in_parts.Goals as goal

pub returns-clause-parts : goal.returns-clause-parts
returns-clause-parts c =
    let zones = c.args.zones.now in
    let most = c.args.most in
    let blocks = map block_view c.args.blocks.items in
    let part = part_view c.loop-block.part in
    let whole = map parted_view c.loop-block.whole.items in
    let gives = c.into_iter-block-iterator.ensures.into_iter_gives in
    let long : into_iter_len c.into_iter-block-iterator.result ≡ length c.args.blocks.items = search (rules, gives.1) in
    let seen = YieldsList-end (YieldsList-from_vec c.args.blocks.items gives.0 long) c.loop-block.yielded c.loop-block.block-iterator c.loop-block.yielded_by c.next.result c.next.new.self c.in-None.is
    c.next.ensures.steps in
    let all : c.loop-block.yielded ≡ c.args.blocks.items = sym (map-id c.loop-block.yielded) ∙ seen.0 in
    let count : length c.loop-block.yielded ≡ length c.args.blocks.items = ap length all in
    let place = c.loop-block.place in
    let lengths : take place zones.lengths ++ [] ≡ zones.lengths =
    append-nil (take place zones.lengths) ∙ take_all place zones.lengths (omega (arith, c.loop-block.invariant.3, count, c.requires)) in
    let taken : map block_view c.loop-block.yielded ++ [] ≡ blocks = append-nil (map block_view c.loop-block.yielded) ∙ ap (map block_view) all in
    let pushed : map parted_view c.push.new.self.items ≡ whole ++ map (table_of_part zones) (parts_behind most part [] []) =
    ap (map parted_view) c.in_ok-push.ensures.items ∙ map_push parted_view c.loop-block.whole.items c.in_ok-table_of_part.field-0
    ∙ (λ i. whole ++ c.in_ok-table_of_part.ensures i ∷ []) ∙ sym (ap (λ (parts : List Part). whole ++ map (table_of_part zones) parts) (none_behind most part)) in
    pushed ∙ sym (c.loop-block.invariant.0 [] []) ∙ (λ i. map (table_of_part zones) (parts_behind most no_block (lengths i) (taken i)))
