use Rattle.std.proofs.Common.{subst}
use Rattle.vx_io.specs.Ends.{Added}
use Rattle.vx_query.specs.Running.{built}
use Rattle.vx_query.proofs.CauseLemmas.{reported_as_told}
use Rattle.vx_query.proofs.HonestLemmas.{built_honest, built_whole, table_stays}
use Rattle.vx_query.proofs.built_causes.built_reports_are_whole.Goals as goal

pub returns-clause-table : goal.returns-clause-table
returns-clause-table c = table_stays

pub returns-clause-honest : goal.returns-clause-honest
returns-clause-honest c = built_honest c.built_statistics_are_honest.ensures

pub returns-clause-reported : goal.returns-clause-reported
returns-clause-reported c = λ i i' o o' used report.
    subst (Added o.bytes o'.bytes)
    (built_whole c.kept_rows_are_all.ensures c.built_statistics_are_honest.ensures report.input report.asked report.filter report.projection report.asks.asked) report.written

pub returns-clause-told : goal.returns-clause-told
returns-clause-told c = λ i i' o o' used told run.
    subst (Added o.bytes o'.bytes)
    (built_whole c.kept_rows_are_all.ensures c.built_statistics_are_honest.ensures told.input told.asked told.filter told.projection told.asks.asked)
    (reported_as_told c.wire_laws.ensures built i i' o o' used told run).0
