use Rattle.std.proofs.Common.{◌+◌, ◌<◌, sym, subst, length, arith}
use Rattle.vx_scan.specs.Stores.{Reads}
use Rattle.vx_block_parts.specs.Parts.{Part, zones_between, seen_between}
use Rattle.vx_block_parts.proofs.SeenLemmas.{block_there, part_reads}
use Rattle.vx_block_parts.proofs.block_parts.BlockPartColumnStore.read.Goals as goal

pub read-requires-clause-block : goal.read-requires-clause-block
read-requires-clause-block g c =
    let seen = g.S.ColumnStore.seen in
    let whole = seen c.self.inside.store in
    let here =
    subst (λ (p : Part _). c.args.block < length (zones_between p.from p.up_to (seen p.store).zones).lengths) (sym c.self.view_is) c.requires.block in
    let there = block_there c.self.inside.from c.self.inside.up_to c.args.block whole.zones c.self.invariant.within here in
    omega (arith, there, c.self.invariant.within)

pub returns-clause-reads : goal.returns-clause-reads
returns-clause-reads g c =
    let seen = g.S.ColumnStore.seen in
    let from = c.self.inside.from in
    let up_to = c.self.inside.up_to in
    let whole = seen c.self.inside.store in
    let left = seen c.read.new.self in
    let here =
    subst (λ (p : Part _). c.args.block < length (zones_between p.from p.up_to (seen p.store).zones).lengths) (sym c.self.view_is) c.requires.block in
    let there = block_there from up_to c.args.block whole.zones c.self.invariant.within here in
    subst (λ (p : Part _). Reads (seen_between p.from p.up_to (seen p.store)) (seen_between from up_to left) c.args.block c.args.name.now c.read.result) c.self.view_is
    (part_reads from up_to c.args.block c.args.name.now whole left c.read.result there c.read.ensures.reads)
