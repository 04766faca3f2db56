use Rattle.std.proofs.Common.{◌≡◌, List, ap, sym, ◌∙◌, arith}
use Rattle.vx_dtype.specs.Types.{Bytes}
use Rattle.vx_dtype.specs.TypeRules.{is_plain}
use Rattle.vx_semantics.specs.Tables.{joined_name}
use Rattle.vx_column.specs.Columns.{Column}
use Rattle.vx_zones.specs.StatColumns.{column_stat, stat_run}
use Rattle.vx_zones.proofs.PlainLemmas.{run_own}
use Rattle.vx_zones.proofs.zone_columns.ZoneColumn.run.Goals as goal

pub rows_between-requires-clause-plain : goal.rows_between-requires-clause-plain
rows_between-requires-clause-plain c = c.values.ensures.held.plain

pub rows_between-requires-clause-within : goal.rows_between-requires-clause-within
rows_between-requires-clause-within c = omega (arith, c.requires, c.values.ensures.many)

pub invariant_of-result : goal.invariant_of-result
invariant_of-result c =
    let stat = c.self.inside.stat in (
      ap (λ (d : Column). is_plain d.ty) c.in_ok-rows_between.ensures ∙ c.values.ensures.held.plain,
      c.in_ok-clone-2.ensures.cases ∙ c.self.invariant.1 ∙ ap (λ (path : List Bytes). joined_name path stat) (sym c.in_ok-clone.ensures.cases),
    )

pub returns : goal.returns
returns c =
    let inside = c.self.inside in
    let own = c.values.result.now in
    let whole : column_stat inside.path inside.stat own ≡ c.args.self.now =
    λ i. record { path = (c.self.view_is i).path; stat = (c.self.view_is i).stat; values = c.values.ensures.held.typed i } in
    (λ i. column_stat (c.in_ok-clone.ensures.cases i) inside.stat (c.in_ok-rows_between.ensures i))
    ∙ run_own inside.path inside.stat own c.args.first c.args.count ∙ ap (stat_run c.args.first c.args.count) whole
