-- What one more read takes comes behind what was taken before.
use Rattle.std.proofs.Common.{◌<◌, ◌≤◌, ◌∙◌, length, arith}
use Rattle.std.proofs.lemmas.List.{take-append-le}
use Rattle.std.proofs.Common.{drop}
use Rattle.std.proofs.lemmas.Grind.{common_steps}
use Rattle.vx_io.proofs.Taking.{took_to_the_end, took_more}
use Rattle.vx_io.proofs.reading.read_by.Goals as goal

pub returns-then-n-eq0-clause-taken : goal.returns-then-n-eq0-clause-taken
returns-then-n-eq0-clause-taken g c =
    let room : 0 < length c.read.new.into = grind (arith, common_steps, c.read.auto.into) in
    took_to_the_end _ c.args.most _ (g.I.Source.left c.chunks.input) _ c.chunks.bytes.items c.read.new.into c.chunks.invariant.took
    (rw c.if-n-eq0.true at c.in_ok-n.ensures.bytes) room c.chunks.invariant.within

pub chunks-preserved : goal.chunks-preserved
chunks-preserved g c =
    let more = took_more _ c.in_ok-n.n _ (g.I.Source.left c.chunks.input) _ c.chunks.bytes.items c.read.new.into c.chunks.invariant.took c.in_ok-n.ensures.bytes in
    let items = c.in_ok-extend_from_slice.ensures.items in
    let within : c.in_ok-n.n ≤ length c.read.new.into = grind (arith, common_steps, c.in_ok-n.ensures.bound, c.read.auto.into) in
    record { took = rw (items, take-append-le c.in_ok-n.n c.read.new.into (drop c.min-want.result c.chunks.chunk) within) more; within = grind (arith, common_steps, items, c.in_ok-n.ensures.bound, c.read.auto.into); room = grind (arith, common_steps, c.chunks.invariant.room, c.read.auto.into); same = c.in_ok-n.ensures.quiet ∙ c.chunks.invariant.same }
