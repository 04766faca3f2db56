use Rattle.std.proofs.Common.{ap, sym, ◌∙◌, option_map}
use Rattle.std.specs.Option.{option_and_then}
use Rattle.vx_dtype.specs.TypeViews.{type_view}
use Rattle.vx_zones.specs.LeafTypes.{nullable, plain_from, type_by}
use Rattle.vx_zones.specs.Zoning.{statistic_type}
use Rattle.vx_zones.proofs.PlainLemmas.{values_by}
use Rattle.vx_zones.proofs.value_types.has_its_type.Goals as goal

pub returns-in-Some-clause-have : goal.returns-in-Some-clause-have
returns-in-Some-clause-have c =
    let z = c.args.stat.now in
    let types = plain_from (type_view c.args.row.now) in
    c.all_have.ensures
    ∙ values_by (type_by types z) (type_view c.in-Some.dtype) z.values
    (sym (ap (option_map type_view) c.in-Some.is) ∙ c.in_ok-dtype.ensures
    ∙ (λ i. option_map nullable (option_and_then (statistic_type (c.stat.ensures i)) (types (c.path.ensures i)))))
