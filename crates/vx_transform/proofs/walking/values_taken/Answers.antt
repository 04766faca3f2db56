use Rattle.std.proofs.Common.{◌≤◌, length, ap, sym, subst, ◌∙◌, Ok, arith}
use Rattle.std.proofs.lemmas.Result.{err_from_is_err_and}
use Rattle.vx_expr.specs.Trees.{children_of}
use Rattle.vx_semantics.specs.Typing.{and_then}
use Rattle.vx_passes.specs.Simplifying.{field_of_pack}
use Rattle.vx_transform.specs.Rebuilds.{each, with_these}
use Rattle.vx_transform.proofs.RebuildLemmas.{HasLength, each_length, handed_on, goes_on, stops_by, ends}
use Rattle.vx_transform.proofs.walking.values_taken.Goals as goal

pub returns-in_err-value : goal.returns-in_err-value
returns-in_err-value c =
    let e = c.args.pack.now in
    let cs = children_of e in
    let l = c.loop-i in
    let p = err_from_is_err_and c.from_residual-in_err-value.result c.from_residual-in_err-value.ensures.1 in
    rw (p.1, p.2)
    (handed_on (each field_of_pack cs) (λ ds. Ok (with_these e ds)) c.in_err-value.field-0.0
    (stops_by field_of_pack cs l.i l.values.items l.invariant c.child_at.result.now c.in_err-value.field-0.0 c.child_at.ensures c.in_err-value.ensures))

pub loop-i-preserved : goal.loop-i-preserved
loop-i-preserved c =
    let l = c.loop-i in
    goes_on field_of_pack (children_of c.args.pack.now) l.i l.values.items l.invariant
    c.child_at.result.now c.in_ok-value.value c.push.new.self.items c.child_at.ensures c.in_ok-value.ensures c.in_ok-push.ensures.items

pub with_these-requires : goal.with_these-requires
with_these-requires c =
    let cs = children_of c.args.pack.now in
    let l = c.loop-i in
    let past : length cs ≤ l.i = omega (arith, c.loop-i-test.false, c.children_count-i-end.ensures) in
    subst (λ r. HasLength r (length cs)) (ends field_of_pack cs l.i l.values.items l.invariant past) (each_length field_of_pack cs)

pub returns : goal.returns
returns c =
    let e = c.args.pack.now in
    let cs = children_of e in
    let l = c.loop-i in
    let past : length cs ≤ l.i = omega (arith, c.loop-i-test.false, c.children_count-i-end.ensures) in
    ap (λ r. and_then r (λ ds. Ok (with_these e ds))) (ends field_of_pack cs l.i l.values.items l.invariant past) ∙ ap Ok (sym c.in_ok-with_these.ensures)
