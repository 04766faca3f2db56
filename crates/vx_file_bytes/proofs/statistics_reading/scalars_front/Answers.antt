use Rattle.std.proofs.Common.{◌∷◌, ◌++◌, [], sym, ap, ◌∙◌}
use Rattle.std.specs.Prelude.{option_map}
use Rattle.vx_dtype.specs.ScalarAnswers.{typed}
use Rattle.vx_dtype.specs.RawViews.{raw_view}
use Rattle.vx_dtype.specs.TypeViews.{type_view}
use Rattle.vx_laws_file.specs.HeaderReading.{scalar_at}
use Rattle.vx_file_bytes.proofs.ItemLemmas.{items_start, items_go_on, no_item, items_end}
use Rattle.vx_file_bytes.proofs.ScalarLemmas.{scalar_some, scalar_none}
use Rattle.vx_file_bytes.proofs.statistics_reading.scalars_front.Goals as goal

pub loop-init : goal.loop-init
loop-init c = items_start (scalar_at (type_view c.args.dtype.now)) c.args.number c.args.bytes.now c.new-scalars.result.items c.new-scalars.ensures.items

pub returns-in_default : goal.returns-in_default
returns-in_default c =
    no_item (scalar_at (type_view c.args.dtype.now)) c.args.number c.args.bytes.now c.loop.counter c.loop.rest.now c.loop.scalars.items c.loop-test.true
    (scalar_none (type_view c.args.dtype.now) c.loop.rest.now (ap (option_map (λ x. (raw_view x.0, x.1.now))) (sym c.in_default.is) ∙ c.in_ok-value.ensures.read)) c.loop.invariant

pub loop-preserved : goal.loop-preserved
loop-preserved c =
    let t = type_view c.args.dtype.now in
    items_go_on (scalar_at t) c.args.number c.args.bytes.now c.loop.counter c.loop.rest.now c.loop.scalars.items c.push.new.self.items (typed t (raw_view c.in-Some.value)) c.in-Some.after.now c.loop-test.true
    (scalar_some t c.loop.rest.now (raw_view c.in-Some.value) c.in-Some.after.now (ap (option_map (λ x. (raw_view x.0, x.1.now))) (sym c.in-Some.is) ∙ c.in_ok-value.ensures.read))
    (c.in_ok-push.ensures.items ∙ ap (λ s. c.loop.scalars.items ++ s ∷ []) c.in_ok-scalar_of.ensures) c.loop.invariant

pub returns : goal.returns
returns c = items_end (scalar_at (type_view c.args.dtype.now)) c.args.number c.args.bytes.now c.loop.counter c.loop.rest.now c.loop.scalars.items c.loop-test.false c.loop.invariant
