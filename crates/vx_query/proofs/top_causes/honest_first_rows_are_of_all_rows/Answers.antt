use Rattle.std.proofs.Common.{subst}
use Rattle.vx_io.specs.Ends.{Added}
use Rattle.vx_query.proofs.TopCauseLemmas.{found_as_told, whole_where_honest}
use Rattle.vx_query.proofs.top_causes.honest_first_rows_are_of_all_rows.Goals as goal

pub returns-clause-reported : goal.returns-clause-reported
returns-clause-reported c = λ top i i' o o' used report honest.
    let search = report.search in
    subst (Added o.bytes o'.bytes) (whole_where_honest c.top_is_of_all_rows.ensures.first search.input search.asked search.ask search.asks honest) report.written

pub returns-clause-told : goal.returns-clause-told
returns-clause-told c = λ i i' o o' used told run honest.
    subst (Added o.bytes o'.bytes) (whole_where_honest c.top_is_of_all_rows.ensures.first told.input told.asked told.ask told.asks honest)
    (found_as_told c.wire_laws.ensures i i' o o' used told run).0
