use Rattle.std.proofs.Common.{◌≡◌, ◌+◌, ◌-◌, ◌<◌, length, sym, arith}
use Rattle.vx_typing.proofs.FewStructs.{all_left, none_left, stands_before, stands_last}
use Rattle.vx_typing.proofs.few_structs.last_place.Goals as goal

pub loop-giver-init : goal.loop-giver-init
loop-giver-init c =
    let structs = c.args.structs.now in
    (omega arith, all_left structs c.args.name.now (length structs) (omega arith))

pub loop-giver-preserved : goal.loop-giver-preserved
loop-giver-preserved c =
    let l = c.loop-giver in
    let structs = c.args.structs.now in
    let next : l.giver - 1 + 1 ≡ l.giver = omega (arith, c.loop-giver-test.true) in
    let within : l.giver - 1 < length structs = omega (arith, c.loop-giver-test.true, l.invariant.0) in (
      omega (arith, l.invariant.0),
      stands_before structs l.giver (l.giver - 1) c.args.name.now c.index-structs-giver.result next within c.index-structs-giver.is l.invariant.1 (sym c.in_default.ensures),
    )

pub returns-in-Some : goal.returns-in-Some
returns-in-Some c =
    let l = c.loop-giver in
    let structs = c.args.structs.now in
    let next : l.giver - 1 + 1 ≡ l.giver = omega (arith, c.loop-giver-test.true) in
    let within : l.giver - 1 < length structs = omega (arith, c.loop-giver-test.true, l.invariant.0) in
    sym (stands_last structs l.giver (l.giver - 1) c.args.name.now c.index-structs-giver.result next within c.index-structs-giver.is l.invariant.1 c.in-Some.index (sym c.in-Some.ensures))

pub returns : goal.returns
returns c =
    let l = c.loop-giver in
    sym (none_left c.args.structs.now c.args.name.now l.giver (omega (arith, c.loop-giver-test.false)) l.invariant.1)
