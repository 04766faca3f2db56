use Rattle.std.proofs.Common.{◌≡◌, true, ◌∙◌, sym, ap}
use Rattle.vx_column.specs.ColumnParts.{truths_fit}
use Rattle.vx_arrays.specs.Arrays.{may_have}
use Rattle.vx_arrays.proofs.CellLemmas.{truths_may}
use Rattle.vx_arrays.proofs.truths.column_of_truths.Goals as goal

pub from_truths-requires : goal.from_truths-requires
from_truths-requires c =
    let ts = c.args.truths.items in
    let may : may_have c.args.n ts ≡ true = ap (may_have c.args.n) (sym c.as_slice.ensures.value) ∙ sym c.may_have.ensures ∙ c.if-not-may_have.false in
    ap (truths_fit c.args.n) (c.in_ok-truths.ensures ∙ c.as_slice-2.ensures.value) ∙ truths_may c.args.n ts may
