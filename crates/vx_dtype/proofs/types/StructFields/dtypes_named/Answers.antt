use Rattle.std.proofs.Common.{rules, ◌≡◌, None, map, arith}
use Rattle.vx_dtype.specs.TypeRules.{field_type}
use Rattle.vx_dtype.specs.TypeViews.{type_view}
use Rattle.vx_dtype.proofs.ProjectionLemmas.{projected-missing, projected-found}
use Rattle.vx_dtype.proofs.types.StructFields.dtypes_named.Goals as goal

pub returns-in-None-clause-unknown : goal.returns-in-None-clause-unknown
returns-in-None-clause-unknown c =
    let l = c.loop-name in
    let none : field_type c.name-item.result c.args.self.now ≡ None = search rules in
    λ e. projected-missing c.args.names.now c.args.self.now l.name-index (map type_view l.dtypes.items) l.invariant.1 c.name-item.result c.loop-name-test.true c.name-item.is none

pub returns-clause-ok : goal.returns-clause-ok
returns-clause-ok c =
    let l = c.loop-name in
    projected-found c.args.names.now c.args.self.now l.name-index (map type_view l.dtypes.items) l.invariant.1 (omega (arith, c.loop-name-test.false))
