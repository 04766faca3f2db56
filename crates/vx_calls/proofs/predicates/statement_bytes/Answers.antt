use Rattle.std.proofs.Common.{◌≡◌, ◌∙◌, sym, Ok}
use Rattle.vx_laws_statements.specs.Statements.{plan_of}
use Rattle.vx_scan.proofs.PrepareLemmas.{names_once}
use Rattle.vx_semantics.specs.Tables.{row_type}
use Rattle.vx_sql.specs.StatementAnswers.{plan_view}
use Rattle.vx_calls.specs.Predicates.{statement_of}
use Rattle.vx_calls.proofs.predicates.statement_bytes.Goals as goal

pub returns-in-Ok : goal.returns-in-Ok
returns-in-Ok c = λ schema predicate s.
    let zones = c.args.zones.now in
    let planned : plan_of (row_type zones.columns) (statement_of predicate) ≡ Ok (plan_view c.in-Ok.plan) =
    (λ i. plan_of (sym c.dtype.ensures.dtype i) (sym s.made i)) ∙ c.in-Ok.ensures in
    c.plan_bytes.ensures schema predicate
    (record { columns = zones.columns; told = s.told; distinct = names_once zones c.dtype.ensures.rules; text = s.text; planned = planned })
