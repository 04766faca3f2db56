use Rattle.std.proofs.Common.{ap, sym, ◌∙◌, option_map}
use Rattle.std.proofs.Math.ListN.{replicate}
use Rattle.vx_dtype.specs.Fits.{fits}
use Rattle.vx_dtype.specs.RawViews.{raw_view}
use Rattle.vx_dtype.specs.TypeViews.{type_view}
use Rattle.vx_column.specs.declared.errors.ColumnError.TheVariants.{BadCast}
use Rattle.vx_column.specs.Columns.{column, seen}
use Rattle.vx_kernels.proofs.CastLemmas.{raw_casts, casts_some}
use Rattle.vx_kernels.proofs.CastNumbers.{constant_answer}
use Rattle.vx_kernels.proofs.casts.cast_constant.Goals as goal

pub of_constant-requires-clause-fit : goal.of_constant-requires-clause-fit
of_constant-requires-clause-fit c =
    let t = type_view c.args.target.now in
    let casts = raw_casts c.args.c.now.ty t (raw_view c.args.value.now) c.requires.takes c.requires.fit in
    let some = casts_some t (seen c.args.c.now.ty c.args.value.now) _ (raw_view c.in-Some.made) (sym c.in_ok-made.ensures ∙ ap (option_map raw_view) c.in-Some.is) casts in
    ap (fits (raw_view c.in-Some.made)) c.in_ok-clone-in-Some.ensures.cases ∙ some.0

pub returns-in_ok-clone-in-Some : goal.returns-in_ok-clone-in-Some
returns-in_ok-clone-in-Some c =
    let t = type_view c.args.target.now in
    let casts = raw_casts c.args.c.now.ty t (raw_view c.args.value.now) c.requires.takes c.requires.fit in
    let some = casts_some t (seen c.args.c.now.ty c.args.value.now) _ (raw_view c.in-Some.made) (sym c.in_ok-made.ensures ∙ ap (option_map raw_view) c.in-Some.is) casts in
    let type = c.in_ok-clone-in-Some.ensures.cases in
    let made = c.of_constant.ensures ∙ (λ j. column (type j) (replicate (c.len.ensures j) (seen (type j) c.in-Some.made))) in
    constant_answer BadCast t c.args.c.now c.of_constant.result c.in-Some.made (seen c.args.c.now.ty c.args.value.now) some.0 some.1 c.requires.rows made
