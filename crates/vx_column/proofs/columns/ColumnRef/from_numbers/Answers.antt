use Rattle.std.proofs.Common.{◌≡◌, ap, ◌∙◌}
use Rattle.vx_dtype.specs.Types.{int_ty}
use Rattle.vx_column.specs.Columns.{Column, column}
use Rattle.vx_column.specs.PlainValues.{numbers_vals}
use Rattle.vx_column.proofs.StructLemmas.{if_ok_map}
use Rattle.vx_column.proofs.columns.ColumnRef.from_numbers.Goals as goal

pub of_numbers-requires : goal.of_numbers-requires
of_numbers-requires c = record { kind = ap (λ p. int_ty p c.args.n) c.ptype.ensures.value; fit = c.requires }

pub returns : goal.returns
returns c =
    if_ok_map _ _ c.of_numbers.result (λ (x : Column) (h : x ≡ column (int_ty c.ptype.result c.args.n) (numbers_vals c.args.numbers)). h ∙ ap (λ p. column (int_ty p c.args.n) (numbers_vals c.args.numbers)) c.ptype.ensures.value) c.of_numbers.ensures
