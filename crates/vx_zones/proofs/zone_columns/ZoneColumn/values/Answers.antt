use Rattle.std.proofs.Common.{◌≡◌, true, subst}
use Rattle.vx_semantics.specs.Tables.{ZoneStat}
use Rattle.vx_zones.specs.StatColumns.{HoldsValuesOf}
use Rattle.vx_zones.specs.Zoning.{scalars_fit}
use Rattle.vx_zones.proofs.PlainLemmas.{holds_own, typed_fit}
use Rattle.vx_zones.proofs.zone_columns.ZoneColumn.values.Goals as goal

pub returns-clause-held : goal.returns-clause-held
returns-clause-held c =
    let own = c.self.inside.values in
    subst (λ (z : ZoneStat). HoldsValuesOf z own) c.self.view_is (holds_own c.self.inside.path c.self.inside.stat own c.self.invariant.0 c.dtype-dtype.ensures.fit)

pub returns-clause-fit : goal.returns-clause-fit
returns-clause-fit c =
    let own = c.self.inside.values in
    subst (λ (z : ZoneStat). scalars_fit z.values ≡ true) c.self.view_is (typed_fit own.ty own.rows c.self.invariant.0 c.dtype-dtype.ensures.fit)
