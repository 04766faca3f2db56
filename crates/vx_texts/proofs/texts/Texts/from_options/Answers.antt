use Rattle.std.proofs.Common.{List, Option, None, option_copied}
use Rattle.std.proofs.lemmas.Result.{err_from_is_err_and}
use Rattle.vx_dtype.specs.Types.{Bytes}
use Rattle.vx_texts.proofs.RefusedTexts.{refused_whole}
use Rattle.vx_texts.proofs.texts.Texts.from_options.Goals as goal

pub returns-in_err-push-clause-fitting : goal.returns-in_err-push-clause-fitting
returns-in_err-push-clause-fitting c =
    let p = err_from_is_err_and c.from_residual-in_err-push.result c.from_residual-in_err-push.ensures.1 in
    rw (p.1, p.2)
    (refused_whole (Unit {0}) (List (Option Bytes)) option_copied c.args.options.now None c.loop-i.i c.loop-i.builder c.in_err-push.field-0.0 c.loop-i.invariant.0 c.loop-i-test.true c.in_err-push.ensures.fitting)
