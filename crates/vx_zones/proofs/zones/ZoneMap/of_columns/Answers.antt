use Rattle.std.proofs.Common.{◌≡◌, refl, true, false, None, map, ap, sym, ◌∙◌}
use Rattle.std.specs.List.{list_all}
use Rattle.vx_zones.specs.Heads.{head_of, head_rule}
use Rattle.vx_zones.specs.Zoning.{has_its_type, scalars_fit}
use Rattle.vx_zones.proofs.HeadLemmas.{refused_by_heads, refused_by_types}
use Rattle.vx_zones.proofs.ZoneLemmas.{are_zones, makes_zones}
use Rattle.vx_zones.proofs.zones.ZoneMap.of_columns.Goals as goal

pub returns-in-Some : goal.returns-in-Some
returns-in-Some c =
    refused_by_heads (record { columns = c.args.fields; lengths = c.args.lengths.items; stats = c.args.stats.items }) c.in-Some.error
    (sym c.in-Some.is ∙ c.in_ok-error.ensures ∙ (λ i. head_rule c.args.fields (c.as_slice.ensures.value i) (map head_of (c.as_slice-2.ensures.value i))))

pub returns-then-not-branch : goal.returns-then-not-branch
returns-then-not-branch c =
    let fs = c.args.fields in
    let heads : None ≡ head_rule fs c.args.lengths.items (map head_of c.args.stats.items) =
    sym c.in_default.is ∙ c.in_ok-error.ensures ∙ (λ i. head_rule fs (c.as_slice.ensures.value i) (map head_of (c.as_slice-2.ensures.value i))) in
    let have : list_all (has_its_type fs) c.args.stats.items ≡ false =
    sym (ap (list_all (has_its_type fs)) c.as_slice-3.ensures.value) ∙ sym c.in_ok-have_their_types.ensures.have ∙ c.if-not-branch.true in
    refused_by_types (record { columns = fs; lengths = c.args.lengths.items; stats = c.args.stats.items }) heads have

pub invariant_of-result : goal.invariant_of-result
invariant_of-result c =
    let fs = c.args.fields in
    let stats = c.args.stats.items in
    let heads : None ≡ head_rule fs c.args.lengths.items (map head_of stats) =
    sym c.in_default.is ∙ c.in_ok-error.ensures ∙ (λ i. head_rule fs (c.as_slice.ensures.value i) (map head_of (c.as_slice-2.ensures.value i))) in
    let have : list_all (has_its_type fs) stats ≡ true = sym (ap (list_all (has_its_type fs)) c.as_slice-3.ensures.value) ∙ sym c.in_ok-have_their_types.ensures.have ∙ c.if-not-branch.false in
    let fit : list_all (λ z. scalars_fit z.values) stats ≡ true =
    sym (ap (list_all (λ z. scalars_fit z.values)) c.as_slice-3.ensures.value) ∙ c.in_ok-have_their_types.ensures.fit c.if-not-branch.false in
    are_zones fs c.args.lengths.items stats stats heads have refl c.requires fit

pub returns : goal.returns
returns c =
    let fs = c.args.fields in
    let stats = c.args.stats.items in
    let heads : None ≡ head_rule fs c.args.lengths.items (map head_of stats) =
    sym c.in_default.is ∙ c.in_ok-error.ensures ∙ (λ i. head_rule fs (c.as_slice.ensures.value i) (map head_of (c.as_slice-2.ensures.value i))) in
    let have : list_all (has_its_type fs) stats ≡ true = sym (ap (list_all (has_its_type fs)) c.as_slice-3.ensures.value) ∙ sym c.in_ok-have_their_types.ensures.have ∙ c.if-not-branch.false in
    makes_zones fs c.args.lengths.items stats stats heads have refl
