use Rattle.std.proofs.Common.{false, nat_le, sum, sym, ap, ◌∙◌}
use Rattle.std.specs.Prelude.{true, option_map}
use Rattle.vx_wire_bytes.specs.Reading.{number_at}
use Rattle.vx_laws_file.specs.FileForms.{most_rows}
use Rattle.vx_file_bytes.proofs.HeaderSteps.{not_counted, counted_are, no_lengths_there, lengths_there}
use Rattle.vx_file_bytes.proofs.columns_reading.lengths_front.Goals as goal

pub returns-in_default : goal.returns-in_default
returns-in_default c = no_lengths_there c.args.bytes.now (not_counted number_at c.args.bytes.now c.in_default.ensures)

pub returns-in_default-2 : goal.returns-in_default-2
returns-in_default-2 c =
    no_lengths_there c.args.bytes.now
    (ap (option_map (λ x. (x.0.items, x.1.now))) (sym c.in_default-2.is) ∙ c.in_ok-lengths.ensures ∙ counted_are number_at c.args.bytes.now c.in-Some.number c.in-Some.rest.now c.in-Some.ensures)

pub returns-then-not-are_few_rows : goal.returns-then-not-are_few_rows
returns-then-not-are_few_rows c =
    lengths_there c.args.bytes.now c.in-Some-2.lengths.items c.in-Some-2.rest.now false
    (ap (option_map (λ x. (x.0.items, x.1.now))) (sym c.in-Some-2.is) ∙ c.in_ok-lengths.ensures ∙ counted_are number_at c.args.bytes.now c.in-Some.number c.in-Some.rest.now c.in-Some.ensures)
    (ap (λ ns. nat_le (sum ns) most_rows) (sym c.as_slice.ensures.value) ∙ sym c.are_few_rows.ensures ∙ c.if-not-are_few_rows.true)

pub returns : goal.returns
returns c =
    lengths_there c.args.bytes.now c.in-Some-2.lengths.items c.in-Some-2.rest.now true
    (ap (option_map (λ x. (x.0.items, x.1.now))) (sym c.in-Some-2.is) ∙ c.in_ok-lengths.ensures ∙ counted_are number_at c.args.bytes.now c.in-Some.number c.in-Some.rest.now c.in-Some.ensures)
    (ap (λ ns. nat_le (sum ns) most_rows) (sym c.as_slice.ensures.value) ∙ sym c.are_few_rows.ensures ∙ c.if-not-are_few_rows.false)
