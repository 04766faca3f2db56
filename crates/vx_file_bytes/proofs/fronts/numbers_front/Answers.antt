use Rattle.vx_wire_bytes.specs.Reading.{number_at}
use Rattle.vx_file_bytes.proofs.ItemLemmas.{items_start, items_go_on, no_item, items_end}
use Rattle.vx_file_bytes.proofs.fronts.numbers_front.Goals as goal

pub loop-init : goal.loop-init
loop-init c = items_start number_at c.args.number c.args.bytes.now c.new-numbers.result.items c.new-numbers.ensures.items

pub returns-in_default : goal.returns-in_default
returns-in_default c = no_item number_at c.args.number c.args.bytes.now c.loop.counter c.loop.rest.now c.loop.numbers.items c.loop-test.true c.in_default.ensures c.loop.invariant

pub loop-preserved : goal.loop-preserved
loop-preserved c =
    items_go_on number_at c.args.number c.args.bytes.now c.loop.counter c.loop.rest.now c.loop.numbers.items c.push.new.self.items c.in-Some.found c.in-Some.after.now c.loop-test.true
    c.in-Some.ensures c.in_ok-push.ensures.items c.loop.invariant

pub returns : goal.returns
returns c = items_end number_at c.args.number c.args.bytes.now c.loop.counter c.loop.rest.now c.loop.numbers.items c.loop-test.false c.loop.invariant
