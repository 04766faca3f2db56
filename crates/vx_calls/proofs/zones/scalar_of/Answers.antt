use Rattle.std.proofs.Common.{rules, ◌≡◌, true}
use Rattle.vx_dtype.specs.Fits.{fits}
use Rattle.vx_column.specs.Columns.{row_at}
use Rattle.vx_calls.proofs.CellLemmas.{scalar_is}
use Rattle.vx_calls.proofs.zones.scalar_of.Goals as goal

pub returns : goal.returns
returns c =
    let s = c.in_ok-scalar.scalar in
    let column = c.args.column.now in
    let fit : fits s.value s.ty ≡ true = search rules in
    scalar_is s column.ty (row_at column c.args.row) c.in_ok-scalar.ensures.dtype c.requires.plain fit c.in_ok-scalar.ensures.value
