use Rattle.std.proofs.Common.{Some, sym, ap, ◌∙◌}
use Rattle.std.specs.Prelude.{option_map}
use Rattle.vx_wire_bytes.specs.Reading.{text_at}
use Rattle.vx_file_bytes.proofs.HeaderSteps.{not_counted, counted_are}
use Rattle.vx_file_bytes.proofs.statistics_reading.path_front.Goals as goal

pub returns-in_default : goal.returns-in_default
returns-in_default c = not_counted text_at c.args.bytes.now c.in_default.ensures

pub returns-in_default-2 : goal.returns-in_default-2
returns-in_default-2 c =
    ap (option_map (λ x. (x.0.items, x.1.now))) (sym c.in_default-2.is) ∙ c.in_ok-names.ensures
    ∙ counted_are text_at c.args.bytes.now c.in-Some.number c.in-Some.rest.now c.in-Some.ensures

pub returns : goal.returns
returns c =
    ap (λ p. Some (p, c.in-Some-2.rest.now)) c.in_ok-from_names.ensures
    ∙ ap (option_map (λ x. (x.0.items, x.1.now))) (sym c.in-Some-2.is) ∙ c.in_ok-names.ensures
    ∙ counted_are text_at c.args.bytes.now c.in-Some.number c.in-Some.rest.now c.in-Some.ensures
