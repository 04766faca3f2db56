-- What one more write takes comes behind what was added before.
use Rattle.std.proofs.Common.{◌≡◌, ◌-◌, length, take, drop, arith, length-drop}
use Rattle.std.proofs.lemmas.List.{take_all}
use Rattle.std.proofs.lemmas.Grind.{common_steps}
use Rattle.vx_io.proofs.Adding.{added_more}
use Rattle.vx_io.proofs.writing.write_whole.Goals as goal

pub pieces-preserved : goal.pieces-preserved
pieces-preserved g c =
    let rest : take (length c.args.text.now - c.pieces.at) (drop c.pieces.at c.args.text.now) ≡ drop c.pieces.at c.args.text.now =
    take_all _ _ (omega (arith, length-drop c.pieces.at c.args.text.now)) in
    record {
      added = added_more _ c.pieces.at c.in_ok-at.field-0 _ (g.O.Sink.written c.pieces.output) _ c.args.text.now c.pieces.invariant.added (rw rest at c.in_ok-at.ensures.bytes);
      within = grind (arith, common_steps, c.in_ok-at.ensures.bound);
      later = grind (arith, common_steps, c.in_ok-at.ensures.cause);
    }
