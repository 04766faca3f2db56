use Rattle.std.proofs.Common.{◌≡◌, true, false, sym, ◌∙◌, refl}
use Rattle.vx_kernels.specs.Totals.{stray_null}
use Rattle.vx_column.specs.declared.errors.ColumnError.TheVariants.{BadCast}
use Rattle.vx_kernels.proofs.CastNumbers.{stray_faults, leaves_target, cast_are_numbers, cast_answer}
use Rattle.vx_kernels.proofs.casts.cast_numbers.Goals as goal

pub returns-in_default : goal.returns-in_default
returns-in_default c =
    let fine : stray_null c.args.n c.args.numbers.now.numbers ≡ false = sym c.in_ok-stray.ensures ∙ c.if-stray.false in
    let faulty = leaves_target c.args.ptype c.args.n c.args.numbers.now fine (sym c.in_default.is ∙ c.in_ok-made.ensures) in
    rw faulty refl

pub returns-then-stray : goal.returns-then-stray
returns-then-stray c =
    let stray : stray_null c.args.n c.args.numbers.now.numbers ≡ true = sym c.in_ok-stray.ensures ∙ c.if-stray.true in
    rw (stray_faults c.args.ptype c.args.n c.args.numbers.now stray) refl

pub from_numbers-requires : goal.from_numbers-requires
from_numbers-requires c =
    let fine : stray_null c.args.n c.args.numbers.now.numbers ≡ false = sym c.in_ok-stray.ensures ∙ c.if-stray.false in
    (cast_are_numbers c.args.ptype c.args.n c.args.numbers.now fine c.in-Some.made (sym c.in-Some.is ∙ c.in_ok-made.ensures)).fit

pub returns : goal.returns
returns c =
    let fine : stray_null c.args.n c.args.numbers.now.numbers ≡ false = sym c.in_ok-stray.ensures ∙ c.if-stray.false in
    cast_answer c.args.ptype c.args.n c.args.numbers.now fine c.in-Some.made (sym c.in-Some.is ∙ c.in_ok-made.ensures) BadCast c.in_ok-from_numbers.field-0 c.in_ok-from_numbers.ensures
