use Rattle.std.proofs.Common.{map, sym, ap, ◌∙◌}
use Rattle.std.specs.Prelude.{option_map}
use Rattle.std.proofs.lemmas.List.{map_push}
use Rattle.vx_wire_bytes.specs.Reading.{number_at}
use Rattle.vx_laws_file.specs.HeaderReading.{items_with, range_lengths_at}
use Rattle.vx_file_bytes.proofs.ItemLemmas.{items_start, items_go_on, no_item, items_end}
use Rattle.vx_file_bytes.proofs.columns_reading.range_lengths_front.Goals as goal

pub loop-init : goal.loop-init
loop-init c =
    items_start (items_with number_at c.args.width) c.args.blocks c.args.bytes.now (map (λ ns. ns.items) c.new-blocks_lengths.result.items) (ap (map (λ ns. ns.items)) c.new-blocks_lengths.ensures.items)

pub returns-in_default : goal.returns-in_default
unfolding range_lengths_at
returns-in_default c =
    no_item (items_with number_at c.args.width) c.args.blocks c.args.bytes.now c.loop.counter c.loop.rest.now (map (λ ns. ns.items) c.loop.blocks_lengths.items) c.loop-test.true
    (ap (option_map (λ x. (x.0.items, x.1.now))) (sym c.in_default.is) ∙ c.in_ok-lengths.ensures) c.loop.invariant

pub loop-preserved : goal.loop-preserved
loop-preserved c =
    items_go_on (items_with number_at c.args.width) c.args.blocks c.args.bytes.now c.loop.counter c.loop.rest.now (map (λ ns. ns.items) c.loop.blocks_lengths.items)
    (map (λ ns. ns.items) c.push.new.self.items) c.in-Some.lengths.items c.in-Some.after.now c.loop-test.true
    (ap (option_map (λ x. (x.0.items, x.1.now))) (sym c.in-Some.is) ∙ c.in_ok-lengths.ensures)
    (ap (map (λ ns. ns.items)) c.in_ok-push.ensures.items ∙ map_push (λ ns. ns.items) c.loop.blocks_lengths.items c.in-Some.lengths) c.loop.invariant

pub returns : goal.returns
unfolding range_lengths_at
returns c =
    items_end (items_with number_at c.args.width) c.args.blocks c.args.bytes.now c.loop.counter c.loop.rest.now (map (λ ns. ns.items) c.loop.blocks_lengths.items) c.loop-test.false c.loop.invariant
