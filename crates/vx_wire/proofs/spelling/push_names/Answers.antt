use Rattle.vx_wire.proofs.SerialLemmas.{names_written_go_on}
use Rattle.vx_wire.proofs.spelling.push_names.Goals as goal

pub loop-i-preserved : goal.loop-i-preserved
loop-i-preserved c =
    names_written_go_on c.args.out.now.items c.loop-i.out.items c.push_name.new.out.items c.as_slice-names.result.now c.loop-i.i c.index-names-i.result c.loop-i-test.true c.index-names-i.is c.in_ok-push_name.ensures.ok.0 c.in_ok-push_name.ensures.ok.1 c.loop-i.invariant
