use Rattle.std.proofs.Common.{◌≡◌, false, ap, sym, ◌∙◌, subst, map}
use Rattle.std.specs.List.{list_all}
use Rattle.vx_semantics.specs.Tables.{Zones, row_type}
use Rattle.vx_zones.specs.LeafTypes.{plain_from}
use Rattle.vx_zones.specs.ZoneAnswers.{MakesZones}
use Rattle.vx_zones.specs.Zoning.{has_its_type}
use Rattle.vx_request.specs.ReadStatistics.{AreRead}
use Rattle.vx_request.specs.Requests.{stat_of}
use Rattle.vx_request.specs.RequestViews.{stat_view}
use Rattle.vx_request.proofs.requests.sound_zones.Goals as goal

pub returns-in-Some : goal.returns-in-Some
returns-in-Some c =
    let ss = map stat_view c.args.stats.now in
    let told = subst (AreRead (plain_from (row_type c.in_ok-clone.field-0)) ss) c.in-Some.is c.in_ok-made.ensures in
    let made = told.1 ∙ ap (λ fs. map (stat_of fs) ss) c.in_ok-clone.ensures.cases in
    subst (λ (z : Zones). MakesZones z c.of_columns.result) (λ i. record { columns = c.args.columns; lengths = c.in_ok-lengths.ensures i; stats = made i }) c.of_columns.ensures

pub refusal_of-requires : goal.refusal_of-requires
refusal_of-requires c =
    let ss = map stat_view c.args.stats.now in
    let told = subst (AreRead (plain_from (row_type c.in_ok-clone.field-0)) ss) c.in-None.is c.in_ok-made.ensures in
    sym (ap (λ fs. list_all (has_its_type fs) (map (stat_of fs) ss)) c.in_ok-clone.ensures.cases) ∙ told
