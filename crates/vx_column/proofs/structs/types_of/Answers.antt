use Rattle.std.proofs.Common.{◌≡◌, true, ◌∙◌, subst, arith}
use Rattle.std.proofs.lemmas.List.{take_all}
use Rattle.std.proofs.lemmas.List.Elements.{All-more}
use Rattle.vx_dtype.specs.TypeRules.{no_name_twice}
use Rattle.vx_column.specs.Columns.{Column}
use Rattle.vx_column.proofs.StructLemmas.{types_step}
use Rattle.vx_column.proofs.CellLemmas.{all_fit_more}
use Rattle.vx_column.proofs.structs.types_of.Goals as goal

pub loop-field-preserved : goal.loop-field-preserved
loop-field-preserved c =
    let i = c.loop-field.field-index in
    let here = subst (λ (f : Column). no_name_twice f.ty ≡ true) c.field-item.is c.dtype.ensures.names in (
      types_step c.args.fields.now c.loop-field.dtypes.items c.push.new.self.items i c.field-item.result c.in_ok-clone.field-0 c.loop-field-test.true c.field-item.is (c.in_ok-clone.ensures.cases ∙ c.dtype.ensures.shown) c.in_ok-push.ensures.items c.loop-field.invariant.0,
      All-more (λ (f : Column). no_name_twice f.ty ≡ true) c.args.fields.now i c.field-item.result c.loop-field-test.true c.loop-field.invariant.1 here,
      all_fit_more c.args.fields.now i c.field-item.result c.loop-field-test.true c.field-item.is c.loop-field.invariant.2 c.dtype.ensures.fit,
    )

pub returns-clause-fit : goal.returns-clause-fit
returns-clause-fit c = rw (← take_all c.loop-field.field-index c.args.fields.now (omega arith)) c.loop-field.invariant.2
