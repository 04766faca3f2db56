-- What one more read takes comes behind what was taken before.
use Rattle.std.proofs.Common.{◌≡◌, ◌<◌, ◌≤◌, ◌∙◌, length, drop, arith}
use Rattle.std.proofs.lemmas.List.{take-append-le}
use Rattle.std.proofs.lemmas.Grind.{common_steps}
use Rattle.vx_file_ranges.proofs.Taking.{took_next}
use Rattle.vx_file_ranges.proofs.pieces.read_by.Goals as goal

pub chunks-preserved : goal.chunks-preserved
chunks-preserved g c =
    let at : c.len-in-chunks-2.result ≡ length c.chunks.bytes.items = omega (arith, c.len-in-chunks-2.ensures, c.chunks.bytes.ok) in
    let more = took_next _ c.in_ok-n.n c.len-in-chunks-2.result _ (g.R.Ranged.bytes c.chunks.source) c.args.place c.chunks.bytes.items c.read_at.new.into c.chunks.invariant.took c.chunks.invariant.same at c.in_ok-n.ensures.read in
    let items = c.in_ok-extend_from_slice.ensures.items in
    let within : c.in_ok-n.n ≤ length c.read_at.new.into = grind (arith, common_steps, c.in_ok-n.ensures.bound, c.read_at.auto.into) in
    record {
      took = rw (items, take-append-le c.in_ok-n.n c.read_at.new.into (drop c.min-want.result c.chunks.chunk) within) more;
      within = grind (arith, common_steps, items, c.in_ok-n.ensures.bound, c.read_at.auto.into);
      room = grind (arith, common_steps, c.chunks.invariant.room, c.read_at.auto.into);
      same = c.in_ok-n.ensures.same ∙ c.chunks.invariant.same;
      quiet = c.in_ok-n.ensures.quiet ∙ c.chunks.invariant.quiet;
    }
