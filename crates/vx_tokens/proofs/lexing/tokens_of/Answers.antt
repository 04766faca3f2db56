use Rattle.std.proofs.Common.{sym, ap, ◌∙◌, length}
use Rattle.std.specs.Prelude.{option_map}
use Rattle.vx_tokens.proofs.RunLemmas.{cutting_starts, cutting_ends, cutting_blank, cutting_token, cutting_fails, cutting_over, empty_is, filled_is}
use Rattle.vx_tokens.proofs.lexing.tokens_of.Goals as goal

pub loop-init : goal.loop-init
loop-init c = cutting_starts c.args.bytes.now c.new-tokens.result.items c.new-tokens.ensures.items

pub returns-then-is_empty : goal.returns-then-is_empty
returns-then-is_empty c =
    cutting_ends c.args.bytes.now (length c.args.bytes.now) c.loop.counter c.loop.tokens.items c.loop.rest.now (empty_is c.loop.rest.now c.is_empty.result c.is_empty.ensures c.if-is_empty.true) c.loop.invariant

pub loop-preserved-in-Some : goal.loop-preserved-in-Some
loop-preserved-in-Some c =
    cutting_blank c.args.bytes.now (length c.args.bytes.now) c.loop.counter c.loop.tokens.items c.loop.rest.now c.in-Some.behind.now c.loop-test.true c.in-Some.ensures
    (filled_is c.loop.rest.now c.is_empty.result c.is_empty.ensures c.if-is_empty.false) c.loop.invariant

pub returns-in_default-2 : goal.returns-in_default-2
returns-in_default-2 c =
    cutting_fails c.args.bytes.now (length c.args.bytes.now) c.loop.counter c.loop.tokens.items c.loop.rest.now c.loop-test.true c.in_default.ensures
    (filled_is c.loop.rest.now c.is_empty.result c.is_empty.ensures c.if-is_empty.false) (ap (option_map (λ x. (x.0, x.1.now))) (sym c.in_default-2.is) ∙ c.in_ok-token.ensures) c.loop.invariant

pub loop-preserved : goal.loop-preserved
loop-preserved c =
    cutting_token c.args.bytes.now (length c.args.bytes.now) c.loop.counter c.loop.tokens.items c.push.new.self.items c.loop.rest.now c.in-Some-2.behind.now c.in-Some-2.token c.loop-test.true c.in_default.ensures
    (filled_is c.loop.rest.now c.is_empty.result c.is_empty.ensures c.if-is_empty.false) (ap (option_map (λ x. (x.0, x.1.now))) (sym c.in-Some-2.is) ∙ c.in_ok-token.ensures) c.in_ok-push.ensures.items c.loop.invariant

pub returns-then-is_empty-2 : goal.returns-then-is_empty-2
returns-then-is_empty-2 c =
    cutting_ends c.args.bytes.now (length c.args.bytes.now) c.loop.counter c.loop.tokens.items c.loop.rest.now (empty_is c.loop.rest.now c.is_empty-2.result c.is_empty-2.ensures c.if-is_empty-2.true) c.loop.invariant

pub returns-else-is_empty-2 : goal.returns-else-is_empty-2
returns-else-is_empty-2 c =
    cutting_over c.args.bytes.now (length c.args.bytes.now) c.loop.counter c.loop.tokens.items c.loop.rest.now c.loop-test.false (filled_is c.loop.rest.now c.is_empty-2.result c.is_empty-2.ensures c.if-is_empty-2.false) c.loop.invariant
