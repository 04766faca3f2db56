use Rattle.std.proofs.Common.{sym, ap, ◌∙◌}
use Rattle.std.specs.Prelude.{option_map}
use Rattle.vx_wire_bytes.specs.Reading.{text_at}
use Rattle.vx_file_bytes.proofs.ItemLemmas.{items_start, items_go_on, no_item, items_end}
use Rattle.vx_file_bytes.proofs.fronts.names_front.Goals as goal

pub loop-init : goal.loop-init
loop-init c = items_start text_at c.args.number c.args.bytes.now c.new-names.result.items c.new-names.ensures.items

pub returns-in_default : goal.returns-in_default
returns-in_default c =
    no_item text_at c.args.number c.args.bytes.now c.loop.counter c.loop.rest.now c.loop.names.items c.loop-test.true
    (ap (option_map (λ x. (x.0, x.1.now))) (sym c.in_default.is) ∙ c.in_ok-name.ensures) c.loop.invariant

pub loop-preserved : goal.loop-preserved
loop-preserved c =
    items_go_on text_at c.args.number c.args.bytes.now c.loop.counter c.loop.rest.now c.loop.names.items c.push.new.self.items c.in-Some.name c.in-Some.after.now c.loop-test.true
    (ap (option_map (λ x. (x.0, x.1.now))) (sym c.in-Some.is) ∙ c.in_ok-name.ensures) c.in_ok-push.ensures.items c.loop.invariant

pub returns : goal.returns
returns c = items_end text_at c.args.number c.args.bytes.now c.loop.counter c.loop.rest.now c.loop.names.items c.loop-test.false c.loop.invariant
