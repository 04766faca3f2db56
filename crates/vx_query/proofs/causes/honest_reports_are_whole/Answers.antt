use Rattle.std.proofs.Common.{subst}
use Rattle.vx_io.specs.Ends.{Added}
use Rattle.vx_query.specs.Running.{given}
use Rattle.vx_query.proofs.CauseLemmas.{reported_as_told, whole_where_honest}
use Rattle.vx_query.proofs.causes.honest_reports_are_whole.Goals as goal

pub returns-clause-reported : goal.returns-clause-reported
returns-clause-reported c = λ i i' o o' used report honest.
    subst (Added o.bytes o'.bytes) (whole_where_honest c.kept_rows_are_all.ensures report.asked report.filter report.projection honest) report.written

pub returns-clause-told : goal.returns-clause-told
returns-clause-told c = λ i i' o o' used told run honest.
    subst (Added o.bytes o'.bytes) (whole_where_honest c.kept_rows_are_all.ensures told.asked told.filter told.projection honest)
    (reported_as_told c.wire_laws.ensures given i i' o o' used told run).0
