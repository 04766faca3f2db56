use Rattle.std.proofs.Common.{◌≡◌, true, map, ap, sym, ◌∙◌}
use Rattle.std.specs.List.{list_all}
use Rattle.vx_dtype.specs.Equal.{ty_eq}
use Rattle.vx_dtype.specs.RawViews.{raw_view}
use Rattle.vx_dtype.specs.TypeViews.{type_view}
use Rattle.vx_column.specs.Columns.{raws_fit}
use Rattle.vx_zones.specs.Zoning.{scalars_fit}
use Rattle.vx_zones.proofs.PlainLemmas.{held_fit, plain_names, column_made}
use Rattle.vx_zones.proofs.value_types.column_with.Goals as goal

pub column_of-requires-clause-fit : goal.column_of-requires-clause-fit
column_of-requires-clause-fit c =
    let t = type_view c.args.dtype in
    let values = c.args.values.now in
    let types : list_all (λ s. ty_eq s.ty t) values ≡ true = sym c.all_have.ensures.have ∙ c.if-not-all_have.false in
    let fit : scalars_fit values ≡ true = c.all_have.ensures.fit c.if-not-all_have.false in
    ap (raws_fit t) c.in_ok-held.ensures ∙ held_fit t values types fit

pub column_of-requires-clause-names : goal.column_of-requires-clause-names
column_of-requires-clause-names c = plain_names (type_view c.args.dtype) c.requires

pub returns : goal.returns
returns c =
    let t = type_view c.args.dtype in
    let values = c.args.values.now in
    let types : list_all (λ s. ty_eq s.ty t) values ≡ true = sym c.all_have.ensures.have ∙ c.if-not-all_have.false in
    let fit : scalars_fit values ≡ true = c.all_have.ensures.fit c.if-not-all_have.false in
    column_made t values (map raw_view c.in_ok-held.held.items) c.in_ok-column_of.field-0 c.requires types fit c.in_ok-held.ensures c.in_ok-column_of.ensures
