use Rattle.std.proofs.Common.{◌≡◌, ◌∙◌, ap, subst, None}
use Rattle.vx_dtype.specs.Types.{Ty}
use Rattle.vx_laws_statements.specs.Statements.{plan_of}
use Rattle.vx_semantics.specs.Tables.{Zones, row_type}
use Rattle.vx_sql.specs.StatementAnswers.{plan_view}
use Rattle.vx_sql_lines.specs.Told.{TellsStatement}
use Rattle.vx_zones.specs.Zoning.{broken_rule}
use Rattle.vx_shell.proofs.answers.write_named.Goals as goal

pub write_answered-requires : goal.write_answered-requires
write_answered-requires g c =
    let columns = c.dtype.ensures.dtype ∙ ap (λ (z : Zones). row_type z.columns) c.zones.ensures.zones in
    record {
      rules = subst (λ (z : Zones). broken_rule z ≡ None) c.zones.ensures.zones c.dtype.ensures.rules;
      agrees = c.zones.ensures.agrees;
      answer =
          subst (λ (t : Ty). TellsStatement plan_view c.args.statement.now t (plan_of t c.args.statement.now) c.told_plan-answer.result) columns
          c.told_plan-answer.ensures;
    }

pub returns-clause-rules : goal.returns-clause-rules
returns-clause-rules g c = subst (λ (z : Zones). broken_rule z ≡ None) c.zones.ensures.zones c.dtype.ensures.rules
