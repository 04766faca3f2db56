use Rattle.std.proofs.Common.{◌≡◌, true, false, None, map, ap, sym, ◌∙◌, subst}
use Rattle.std.specs.List.{list_all}
use Rattle.vx_semantics.specs.Tables.{row_type}
use Rattle.vx_zones.specs.Heads.{head_of, head_rule}
use Rattle.vx_zones.specs.LeafTypes.{plain_from}
use Rattle.vx_zones.specs.TypedColumns.{AreTypedBy}
use Rattle.vx_zones.specs.ZoneViews.{stat_view}
use Rattle.vx_zones.specs.Zoning.{has_its_type, scalars_fit}
use Rattle.vx_zones.proofs.HeadLemmas.{refused_by_heads, refused_by_types}
use Rattle.vx_zones.proofs.ZoneLemmas.{are_zones, makes_zones}
use Rattle.vx_zones.proofs.zones.ZoneMap.try_new.Goals as goal

pub returns-in-Some : goal.returns-in-Some
returns-in-Some c =
    refused_by_heads (record { columns = c.args.fields; lengths = c.args.lengths.items; stats = map stat_view c.args.stats.items }) c.in-Some.error
    (sym c.in-Some.is ∙ c.in_ok-error.ensures ∙ (λ i. head_rule c.args.fields (c.as_slice.ensures.value i) (map head_of (map stat_view (c.as_slice-2.ensures.value i)))))

pub returns-in-None : goal.returns-in-None
returns-in-None c =
    let fs = c.args.fields in
    let stats = map stat_view c.args.stats.items in
    let heads : None ≡ head_rule fs c.args.lengths.items (map head_of stats) =
    sym c.in_default.is ∙ c.in_ok-error.ensures ∙ (λ i. head_rule fs (c.as_slice.ensures.value i) (map head_of (map stat_view (c.as_slice-2.ensures.value i)))) in
    let told = subst (AreTypedBy (plain_from (row_type fs)) (map stat_view c.as_slice-3.result.now)) c.in-None.is c.in_ok-stats.ensures in
    let have : list_all (has_its_type fs) stats ≡ false = sym (ap (λ ss. list_all (has_its_type fs) (map stat_view ss)) c.as_slice-3.ensures.value) ∙ told in
    refused_by_types (record { columns = fs; lengths = c.args.lengths.items; stats = stats }) heads have

pub invariant_of-result : goal.invariant_of-result
invariant_of-result c =
    let fs = c.args.fields in
    let stats = map stat_view c.args.stats.items in
    let same = ap (map stat_view) c.as_slice-3.ensures.value in
    let heads : None ≡ head_rule fs c.args.lengths.items (map head_of stats) =
    sym c.in_default.is ∙ c.in_ok-error.ensures ∙ (λ i. head_rule fs (c.as_slice.ensures.value i) (map head_of (map stat_view (c.as_slice-2.ensures.value i)))) in
    let told = subst (AreTypedBy (plain_from (row_type fs)) (map stat_view c.as_slice-3.result.now)) c.in-Some-2.is c.in_ok-stats.ensures in
    let have : list_all (has_its_type fs) stats ≡ true = sym (ap (list_all (has_its_type fs)) same) ∙ told.0 in
    let fit : list_all (λ z. scalars_fit z.values) stats ≡ true = sym (ap (list_all (λ z. scalars_fit z.values)) same) ∙ told.1 in
    are_zones fs c.args.lengths.items stats c.in-Some-2.stats.items heads have (told.2 ∙ same) c.requires fit

pub returns-in-Some-2 : goal.returns-in-Some-2
returns-in-Some-2 c =
    let fs = c.args.fields in
    let stats = map stat_view c.args.stats.items in
    let same = ap (map stat_view) c.as_slice-3.ensures.value in
    let heads : None ≡ head_rule fs c.args.lengths.items (map head_of stats) =
    sym c.in_default.is ∙ c.in_ok-error.ensures ∙ (λ i. head_rule fs (c.as_slice.ensures.value i) (map head_of (map stat_view (c.as_slice-2.ensures.value i)))) in
    let told = subst (AreTypedBy (plain_from (row_type fs)) (map stat_view c.as_slice-3.result.now)) c.in-Some-2.is c.in_ok-stats.ensures in
    let have : list_all (has_its_type fs) stats ≡ true = sym (ap (list_all (has_its_type fs)) same) ∙ told.0 in
    makes_zones fs c.args.lengths.items stats c.in-Some-2.stats.items heads have (told.2 ∙ same)
