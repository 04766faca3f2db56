use Rattle.std.proofs.Common.{string_bytes, length, sum_by, ◌∙◌, sym, ap}
use Rattle.vx_texts.proofs.BufferLemmas.{total_cut}
use Rattle.vx_texts.proofs.buffer.TextBuffer.bytes_len.Goals as goal

pub returns-clause-total : goal.returns-clause-total
returns-clause-total c =
    ap length c.as_str.ensures.value
    ∙ sym (total_cut (string_bytes c.self.inside.bytes) c.self.inside.offsets.items c.self.invariant)
    ∙ ap (sum_by length) c.self.view_is
