use Rattle.std.proofs.Common.{◌≡◌, sym, subst}
use Rattle.vx_semantics.specs.Tables.{Zones}
use Rattle.vx_semantics.specs.Honest.{IsHonest}
use Rattle.vx_laws_skipping.proofs.building.built_scans_are_whole.Goals as goal

pub returns-clause-exprs : goal.returns-clause-exprs
returns-clause-exprs c = λ slots f p before after report table is_report its.
    c.honest_scans_are_whole.ensures.exprs slots f p before after report table is_report its.held
    (subst (λ (z : Zones). IsHonest z table) (sym its.zones) (c.built_statistics_are_honest.ensures table its.is_table))

pub returns-clause-texts : goal.returns-clause-texts
returns-clause-texts c = λ holds ft pt f p before after report table spelled is_scan its.
    c.honest_scans_are_whole.ensures.texts holds ft pt f p before after report table spelled is_scan its.held
    (subst (λ (z : Zones). IsHonest z table) (sym its.zones) (c.built_statistics_are_honest.ensures table its.is_table))
