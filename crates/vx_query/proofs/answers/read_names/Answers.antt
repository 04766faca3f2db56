use Rattle.std.proofs.Common.{◌≡◌, ◌∙◌, map}
use Rattle.std.proofs.lemmas.Result.{IfOk-weaker}
use Rattle.std.specs.HashSet.{contains}
use Rattle.std.specs.List.{filter, list_any}
use Rattle.std.specs.Str.{bytes_eq}
use Rattle.vx_scan.specs.StoreViews.{entry_view}
use Rattle.vx_query.proofs.answers.read_names.Goals as goal

pub returns : goal.returns
returns c =
    let names = c.args.names.now in
    IfOk-weaker c.names_among.result (λ found. found.items ≡ filter (contains bytes_eq c.in_ok-read.read) names)
    (λ found. found.items ≡ filter (λ n. list_any (λ r. bytes_eq n r.1) (map entry_view c.args.reads.now)) names)
    (λ found is. is ∙ (λ i. filter (λ n. c.in_ok-read.ensures n i) names)) c.names_among.ensures
