use Rattle.std.proofs.Common.{string_bytes, arith}
use Rattle.vx_texts.proofs.BufferLemmas.{length_seen}
use Rattle.vx_texts.proofs.buffer.TextBuffer.len.Goals as goal

pub returns : goal.returns
returns c =
    let long = length_seen (string_bytes c.self.inside.bytes) c.self.inside.offsets.items c.args.self.now c.self.view_is in
    let size = c.self.inside.offsets.ok.0 in
    omega (arith, c.len.ensures, long, size)
