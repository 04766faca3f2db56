use Rattle.vx_tokens.proofs.RunLemmas.{quoting_starts, quoting_plain, quoting_double, quoting_ends, quoting_fails, same_test, other_test}
use Rattle.vx_tokens.proofs.lexing.quoted_front.Goals as goal

pub loop-first-init : goal.loop-first-init
loop-first-init c = quoting_starts c.args.mark c.args.bytes.now c.new-inner.result.items c.new-inner.ensures.items

pub loop-first-preserved-then-first-mark : goal.loop-first-preserved-then-first-mark
loop-first-preserved-then-first-mark c =
    quoting_double c.args.mark c.in-Some.first c.args.bytes.now c.loop-first.inner.items c.push.new.self.items c.loop-first.rest.now c.in-Some.behind.now c.in-Some-behind_mark.after.now
    (same_test c.in-Some.first c.args.mark c.if-first-mark.true) c.in-Some.ensures c.in-Some-behind_mark.ensures c.in_ok-push.ensures.items c.loop-first.invariant

pub loop-first-preserved : goal.loop-first-preserved
loop-first-preserved c =
    quoting_plain c.args.mark c.in-Some.first c.args.bytes.now c.loop-first.inner.items c.push-in-Some.new.self.items c.loop-first.rest.now c.in-Some.behind.now
    (other_test c.in-Some.first c.args.mark c.if-first-mark.false) c.in-Some.ensures c.in_ok-push-2.ensures.items c.loop-first.invariant

pub returns-in_default-behind_mark : goal.returns-in_default-behind_mark
returns-in_default-behind_mark c =
    quoting_ends c.args.mark c.in-Some.first c.args.bytes.now c.loop-first.inner.items c.loop-first.rest.now c.in-Some.behind.now
    (same_test c.in-Some.first c.args.mark c.if-first-mark.true) c.in-Some.ensures c.in_default-behind_mark.ensures c.loop-first.invariant

pub returns : goal.returns
returns c = quoting_fails c.args.mark c.args.bytes.now c.loop-first.inner.items c.loop-first.rest.now c.in_default.ensures c.loop-first.invariant
