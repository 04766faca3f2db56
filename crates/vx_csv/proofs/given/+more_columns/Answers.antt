use Rattle.std.proofs.Common.{◌≡◌, ◌∙◌, sym, ap, suc, ◌-◌, arith}
use Rattle.std.specs.Prelude.{option_map}
use Rattle.vx_dtype.specs.TypeViews.{type_view}
use Rattle.vx_laws_csv.specs.GivenColumns.{more_columns}
use Rattle.vx_csv.specs.Views.{given_view}
use Rattle.vx_csv.proofs.GivenLemmas.{column-goes, ok-moved}
use Rattle.vx_csv.proofs.given.+more_columns.Goals as goal

pub returns-in-Some-after-clause-read : goal.returns-in-Some-after-clause-read
returns-in-Some-after-clause-read t c =
    let n = c.args.more - 1 in
    let k : c.args.more ≡ suc (c.args.more - 1) = omega arith in
    let so_far = given_view c.args.columns in
    let now = given_view c.in_ok-columns.columns in
    let tokens = c.args.tokens.now in
    let rest = c.in-Some-after.rest.now in
    let found = ap (option_map (λ x. ((x.0.now, type_view x.1), x.2.now))) (sym c.in-Some.is) ∙ c.in_ok-name.ensures in
    let goes = column-goes n so_far now tokens c.in-Some.rest.now rest (c.in-Some.name.now, type_view c.in-Some.dtype) found c.in_ok-columns.ensures.added c.in-Some-after.ensures in
    ok-moved (option_map given_view) (more_columns n now rest) (more_columns c.args.more so_far tokens) c.more_columns.result (goes ∙ ap (λ m. more_columns m so_far tokens) (sym k)) c.more_columns.ensures.read
