use Rattle.std.proofs.Common.{◌≡◌, arith, sym, subst, ◌∙◌, length}
use Rattle.std.specs.Str.{IsUtf8}
use Rattle.vx_tokens.specs.Tokens.{is_of, run_of}
use Rattle.vx_tokens.proofs.RunLemmas.{IsRun, run_more, run_stops, run_ends, run_text}
use Rattle.vx_tokens.proofs.lexing.run_front.Goals as goal

pub returns-then-not-is_of : goal.returns-then-not-is_of
returns-then-not-is_of c =
    let run = run_stops (is_of c.args.class) c.args.bytes.now c.loop-i.i c.loop-i-test.true (sym c.is_of.ensures ∙ c.if-not-is_of.true) c.loop-i.invariant in
    let is : (c.split_at.result.0.now, c.split_at.result.1.now) ≡ run_of (is_of c.args.class) c.args.bytes.now = (λ j. (c.split_at.ensures.front j, c.split_at.ensures.back j)) ∙ run in
    record { run = is; text = subst (λ x. IsUtf8 x.0) (sym is) (run_text c.args.class c.args.bytes.now) }

pub loop-i-preserved : goal.loop-i-preserved
loop-i-preserved c = run_more (is_of c.args.class) c.args.bytes.now c.loop-i.i c.loop-i-test.true (sym c.is_of.ensures ∙ c.if-not-is_of.false) c.loop-i.invariant

pub returns : goal.returns
returns c =
    let same : c.loop-i.i ≡ length c.args.bytes.now = omega arith in
    let run = run_ends (is_of c.args.class) c.args.bytes.now (length c.args.bytes.now) (omega arith) (subst (λ i. IsRun (is_of c.args.class) c.args.bytes.now i) same c.loop-i.invariant) in
    let is : (c.split_at-2.result.0.now, c.split_at-2.result.1.now) ≡ run_of (is_of c.args.class) c.args.bytes.now = (λ j. (c.split_at-2.ensures.front j, c.split_at-2.ensures.back j)) ∙ run in
    record { run = is; text = subst (λ x. IsUtf8 x.0) (sym is) (run_text c.args.class c.args.bytes.now) }
