use Rattle.std.proofs.Common.{ap, sym, ◌∙◌, map}
use Rattle.vx_zones.specs.ZoneViews.{head_view}
use Rattle.vx_request.specs.RequestViews.{stat_view}
use Rattle.vx_request.proofs.RefusalLemmas.{refused_so, refused_by_cells}
use Rattle.vx_request.proofs.stats.refusal_of.Goals as goal

pub heads_of-requires : goal.heads_of-requires
heads_of-requires c = c.as_slice.ensures.value ∙ c.in_ok-paths.ensures

pub returns-in-Some : goal.returns-in-Some
returns-in-Some c =
    let heads = ap (map head_view) c.as_slice-2.ensures.value ∙ c.in_ok-heads.ensures in
    refused_so c.args.columns.now c.args.lengths.now (map stat_view c.args.stats.now) (map head_view c.as_slice-2.result.now) c.in-Some.error heads (sym c.in-Some.is ∙ c.in_ok-error.ensures)

pub returns : goal.returns
returns c =
    let heads = ap (map head_view) c.as_slice-2.ensures.value ∙ c.in_ok-heads.ensures in
    refused_by_cells c.args.columns.now c.args.lengths.now (map stat_view c.args.stats.now) (map head_view c.as_slice-2.result.now) heads (sym c.in-None.is ∙ c.in_ok-error.ensures) c.requires
