use Rattle.std.proofs.Common.{sym, ap, ◌∙◌, subst}
use Rattle.std.specs.Prelude.{◌≡◌, true, IfSome, option_map}
use Rattle.vx_dtype.specs.Fits.{fits}
use Rattle.vx_dtype.specs.RawViews.{raw_view}
use Rattle.vx_dtype.specs.TypeViews.{type_view}
use Rattle.vx_file_bytes.proofs.RangeLemmas.{values_start, values_go_on, no_value, values_end}
use Rattle.vx_file_bytes.proofs.range_reading.values_front.Goals as goal

pub loop-init : goal.loop-init
loop-init c = values_start (type_view c.args.dtype.now) c.args.rows c.args.bytes.now c.new-values.result.items c.new-values.ensures.items

pub returns-in_default-clause-read : goal.returns-in_default-clause-read
returns-in_default-clause-read c =
    no_value (type_view c.args.dtype.now) c.args.rows c.args.bytes.now c.loop.counter c.loop.rest.now c.loop.values.items c.loop-test.true
    (ap (option_map (λ x. (raw_view x.0, x.1.now))) (sym c.in_default.is) ∙ c.in_ok-value.ensures.read) c.loop.invariant

pub loop-preserved : goal.loop-preserved
loop-preserved c =
    values_go_on (type_view c.args.dtype.now) c.args.rows c.args.bytes.now c.loop.counter c.loop.rest.now c.loop.values.items c.push.new.self.items c.in-Some.value c.in-Some.after.now c.loop-test.true
    (ap (option_map (λ x. (raw_view x.0, x.1.now))) (sym c.in-Some.is) ∙ c.in_ok-value.ensures.read)
    (subst (λ o. IfSome o (λ x. fits (raw_view x.0) (type_view c.args.dtype.now) ≡ true)) c.in-Some.is c.in_ok-value.ensures.fit) c.in_ok-push.ensures.items c.loop.invariant

pub returns-clause-read : goal.returns-clause-read
returns-clause-read c = values_end (type_view c.args.dtype.now) c.args.rows c.args.bytes.now c.loop.counter c.loop.rest.now c.loop.values.items c.loop-test.false c.loop.invariant
