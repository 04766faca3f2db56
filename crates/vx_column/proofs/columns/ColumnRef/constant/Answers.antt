use Rattle.std.proofs.Common.{◌≡◌, true, refl, rules}
use Rattle.vx_dtype.specs.TypeRules.{no_name_twice}
use Rattle.vx_column.proofs.columns.ColumnRef.constant.Goals as goal

pub of_constant-requires-clause-fit : goal.of_constant-requires-clause-fit
of_constant-requires-clause-fit c = rw (c.in_ok-clone.ensures.cases, c.value.ensures.held, c.in_ok-dtype.ensures.cases, c.dtype-2.ensures) c.value.ensures.within

pub returns : goal.returns
returns c =
    let distinct : no_name_twice c.args.value.now.ty ≡ true = search rules in
    rw (distinct, c.of_constant.ensures, c.in_ok-clone.ensures.cases, c.value.ensures.held, c.in_ok-dtype.ensures.cases, c.dtype-2.ensures) refl
