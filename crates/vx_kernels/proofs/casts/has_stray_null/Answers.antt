use Rattle.std.proofs.Common.{ap, sym, ◌∙◌}
use Rattle.vx_kernels.specs.Totals.{stray_null}
use Rattle.vx_kernels.proofs.CastNumbers.{stray_found}
use Rattle.vx_kernels.proofs.casts.has_stray_null.Goals as goal

pub returns-in_ok-nulls-in-NonNullable : goal.returns-in_ok-nulls-in-NonNullable
returns-in_ok-nulls-in-NonNullable c =
    stray_found c.args.numbers.now.numbers c.in_ok-nulls-in-NonNullable.nulls c.true_count.result c.in_ok-nulls-in-NonNullable.ensures c.true_count.ensures
    ∙ ap (λ n. stray_null n c.args.numbers.now.numbers) (sym c.in-NonNullable.is)
