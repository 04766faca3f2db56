use Rattle.std.proofs.Common.{None, Some, List, ap, sym, ◌∙◌, subst, option_map}
use Rattle.vx_dtype.specs.TypeViews.{type_view}
use Rattle.vx_dtype.specs.Types.{Bytes}
use Rattle.vx_dtype.specs.Values.{Typed}
use Rattle.vx_zones.specs.LeafTypes.{plain_from, type_by}
use Rattle.vx_zones.specs.StatColumns.{column_stat}
use Rattle.vx_zones.specs.TypedColumns.{IsColumnOf}
use Rattle.vx_zones.specs.ZoneViews.{stat_view}
use Rattle.vx_zones.proofs.PlainLemmas.{none_by, plain_statistic}
use Rattle.vx_zones.proofs.TypedLemmas.{stat_typed, stat_untyped}
use Rattle.vx_zones.proofs.value_types.typed_column.Goals as goal

pub column_with-requires : goal.column_with-requires
column_with-requires c =
    let z = stat_view c.args.stat.now in
    plain_statistic (type_view c.args.row.now) z.path z.stat (type_view c.in-Some.dtype) (ap (option_map type_view) (sym c.in-Some.is) ∙ c.in_ok-dtype.ensures)

pub returns-in_default : goal.returns-in_default
returns-in_default c =
    let z = stat_view c.args.stat.now in
    none_by (type_by (plain_from (type_view c.args.row.now)) z) z.values (ap (option_map type_view) (sym c.in_default.is) ∙ c.in_ok-dtype.ensures)

pub new-requires : goal.new-requires
new-requires c =
    let t = type_view c.in-Some.dtype in
    (subst (IsColumnOf t c.as_slice.result.now) c.in-Some-2.is c.in_ok-values.ensures).2

pub returns-in_ok-new-in-Some-2 : goal.returns-in_ok-new-in-Some-2
returns-in_ok-new-in-Some-2 c =
    let z = stat_view c.args.stat.now in
    let t = type_view c.in-Some.dtype in
    let own = ap (option_map type_view) (sym c.in-Some.is) ∙ c.in_ok-dtype.ensures in
    let held = subst (λ (ss : List Typed). IsColumnOf t ss (Some c.in-Some-2.values)) c.as_slice.ensures (subst (IsColumnOf t c.as_slice.result.now) c.in-Some-2.is c.in_ok-values.ensures) in
    stat_typed (type_by (plain_from (type_view c.args.row.now)) z) z c.in_ok-new-in-Some-2.field-0 t c.in-Some-2.values own held
    (c.in_ok-new-in-Some-2.ensures ∙ ap (λ (path : List Bytes). column_stat path z.stat c.in-Some-2.values) c.in_ok-path-in-Some-2.ensures.cases)

pub returns-in-None : goal.returns-in-None
returns-in-None c =
    let z = stat_view c.args.stat.now in
    let t = type_view c.in-Some.dtype in
    let own = ap (option_map type_view) (sym c.in-Some.is) ∙ c.in_ok-dtype.ensures in
    let held = subst (λ (ss : List Typed). IsColumnOf t ss None) c.as_slice.ensures (subst (IsColumnOf t c.as_slice.result.now) c.in-None.is c.in_ok-values.ensures) in
    stat_untyped (type_by (plain_from (type_view c.args.row.now)) z) z t own held
