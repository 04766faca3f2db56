use Rattle.std.proofs.Common.{◌≡◌, [], Ok}
use Rattle.std.proofs.lemmas.Result.{IfOk-weaker}
use Rattle.vx_dtype.specs.TypeViews.{type_view}
use Rattle.vx_column.specs.Columns.{column}
use Rattle.vx_prepare.proofs.EmptyLemmas.{none_told, made_is}
use Rattle.vx_prepare.proofs.evaluating.without_rows.Goals as goal

pub made-requires : goal.made-requires
made-requires c =
    let t = type_view c.args.dtype.now in
    (column t [], none_told (type_view c.in_ok-copy.copy) t c.new-none.result.items c.of_values.result c.in_ok-copy.ensures.cases c.new-none.ensures.items c.requires c.of_values.ensures)

pub returns : goal.returns
returns c =
    let t = type_view c.args.dtype.now in
    let told = none_told (type_view c.in_ok-copy.copy) t c.new-none.result.items c.of_values.result c.in_ok-copy.ensures.cases c.new-none.ensures.items c.requires c.of_values.ensures in
    IfOk-weaker c.made.result (λ made. c.of_values.result ≡ Ok made) (λ made. made ≡ column t []) (λ made e. made_is c.of_values.result (column t []) made told e) c.made.ensures
