use Rattle.std.proofs.Common.{◌/◌, sym, subst, arith}
use Rattle.vx_wire_bytes.proofs.WriteLemmas.{IsWriting, writing_starts, writing_goes_on}
use Rattle.vx_wire_bytes.proofs.writing.push_number.Goals as goal

pub loop-rest-init : goal.loop-rest-init
loop-rest-init c = writing_starts c.args.out.now.items c.args.n (omega (arith, c.ranges.n.fits))

pub loop-rest-preserved : goal.loop-rest-preserved
loop-rest-preserved c =
    subst (λ b. IsWriting c.args.out.now.items b c.args.n (c.loop-rest.rest / 128)) (sym c.in_ok-push.ensures.items)
    (writing_goes_on c.args.out.now.items c.loop-rest.out.items c.args.n c.loop-rest.rest c.loop-rest-test.true c.loop-rest.invariant)
