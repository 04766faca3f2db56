use Rattle.std.proofs.Common.{sym, ap, ◌∙◌, arith}
use Rattle.std.specs.Prelude.{option_map}
use Rattle.vx_file_bytes.specs.HeaderViews.{header_view}
use Rattle.vx_file_bytes.proofs.HeaderLemmas.{no_header, header_whole, header_with_more, empty_is, filled_is}
use Rattle.vx_file_bytes.proofs.header_reading.read_header.Goals as goal

pub returns-in_default : goal.returns-in_default
returns-in_default c = no_header c.args.bytes.now (ap (option_map (λ x. (header_view x.0, x.1.now))) (sym c.in_default.is) ∙ c.in_ok-header.ensures)

pub returns-then-not-is_empty : goal.returns-then-not-is_empty
returns-then-not-is_empty c =
    header_with_more c.args.bytes.now (header_view c.in-Some.header) c.in-Some.rest.now (ap (option_map (λ x. (header_view x.0, x.1.now))) (sym c.in-Some.is) ∙ c.in_ok-header.ensures)
    (filled_is c.in-Some.rest.now c.is_empty.result c.is_empty.ensures c.if-not-is_empty.true)

pub returns : goal.returns
returns c =
    header_whole c.args.bytes.now (header_view c.in-Some.header) c.in-Some.rest.now (λ i. omega (arith, c.type_inv.bytes i))
    (ap (option_map (λ x. (header_view x.0, x.1.now))) (sym c.in-Some.is) ∙ c.in_ok-header.ensures)
    (empty_is c.in-Some.rest.now c.is_empty.result c.is_empty.ensures c.if-not-is_empty.false)
