use Rattle.std.proofs.Common.{◌≡◌, true, ◌∙◌, sym, ap}
use Rattle.vx_numbers.specs.Numbers.{number_list}
use Rattle.vx_arrays.specs.Arrays.{may_have}
use Rattle.vx_arrays.proofs.CellLemmas.{number_list_may}
use Rattle.vx_arrays.proofs.numbers.column_of_numbers.Goals as goal

pub from_numbers-requires : goal.from_numbers-requires
from_numbers-requires c =
    let ns = c.args.numbers.items in
    let may : may_have c.args.n ns ≡ true = ap (may_have c.args.n) (sym c.as_slice.ensures.value) ∙ sym c.may_have.ensures ∙ c.if-not-may_have.false in
    number_list_may c.args.p c.args.n ns c.in_ok-numbers.numbers (c.in_ok-numbers.ensures ∙ ap (number_list c.args.p) c.as_slice-2.ensures.value)
    c.requires may
