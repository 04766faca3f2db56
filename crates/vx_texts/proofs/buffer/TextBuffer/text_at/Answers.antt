use Rattle.std.proofs.Common.{◌+◌, string_bytes, IsCharBoundary, get_or, slice_range, ◌∙◌, sym, ap, subst, arith}
use Rattle.vx_texts.proofs.BufferLemmas.{place_before, offset_read, text_read}
use Rattle.vx_texts.proofs.buffer.TextBuffer.text_at.Goals as goal

pub index-requires : goal.index-requires
index-requires c =
    let low = place_before (string_bytes c.self.inside.bytes) c.self.inside.offsets.items c.args.self.now c.self.view_is c.args.i c.requires in
    let size = c.self.inside.offsets.ok.0 in
    omega (arith, low, size)

pub overflow_add-i : goal.overflow_add-i
overflow_add-i c =
    let low = place_before (string_bytes c.self.inside.bytes) c.self.inside.offsets.items c.args.self.now c.self.view_is c.args.i c.requires in
    let size = c.self.inside.offsets.ok.0 in
    let room = c.self.inside.offsets.ok.1 in
    let small = c.self.inside.offsets.small in
    record { fits = omega (arith, low, size, room, small) }

pub index-requires-2 : goal.index-requires-2
index-requires-2 c =
    let low = place_before (string_bytes c.self.inside.bytes) c.self.inside.offsets.items c.args.self.now c.self.view_is c.args.i c.requires in
    let size = c.self.inside.offsets.ok.0 in
    omega (arith, low, size)

pub range-requires-clause-start_le_end : goal.range-requires-clause-start_le_end
range-requires-clause-start_le_end c =
    let os = c.self.inside.offsets.items in
    let low = place_before (string_bytes c.self.inside.bytes) os c.args.self.now c.self.view_is c.args.i c.requires in
    let from = offset_read os c.args.i c.index.result.now (omega (arith, low)) c.index.ensures in
    let to = offset_read os (c.args.i + 1) c.index-2.result.now low c.index-2.ensures in
    let up = c.self.invariant.rising c.args.i low in
    omega (arith, from, to, up)

pub range-requires-clause-start_boundary : goal.range-requires-clause-start_boundary
range-requires-clause-start_boundary c = λ _.
    let os = c.self.inside.offsets.items in
    let low = place_before (string_bytes c.self.inside.bytes) os c.args.self.now c.self.view_is c.args.i c.requires in
    let from = offset_read os c.args.i c.index.result.now (omega (arith, low)) c.index.ensures in
    subst (IsCharBoundary c.as_str.result.now) (sym from)
    (subst (λ b. IsCharBoundary b (get_or os c.args.i 0)) (sym c.as_str.ensures.value) (c.self.invariant.cuts c.args.i (omega (arith, low))))

pub range-requires-clause-end_boundary : goal.range-requires-clause-end_boundary
range-requires-clause-end_boundary c =
    let os = c.self.inside.offsets.items in
    let low = place_before (string_bytes c.self.inside.bytes) os c.args.self.now c.self.view_is c.args.i c.requires in
    let to = offset_read os (c.args.i + 1) c.index-2.result.now low c.index-2.ensures in
    subst (IsCharBoundary c.as_str.result.now) (sym to)
    (subst (λ b. IsCharBoundary b (get_or os (c.args.i + 1) 0)) (sym c.as_str.ensures.value) (c.self.invariant.cuts (c.args.i + 1) low))

pub returns : goal.returns
returns c =
    let bs = string_bytes c.self.inside.bytes in
    let os = c.self.inside.offsets.items in
    let low = place_before bs os c.args.self.now c.self.view_is c.args.i c.requires in
    let from = offset_read os c.args.i c.index.result.now (omega (arith, low)) c.index.ensures in
    let to = offset_read os (c.args.i + 1) c.index-2.result.now low c.index-2.ensures in
    text_read bs os c.args.self.now c.self.view_is c.args.i c.index.result.now c.index-2.result.now c.range.result.now c.requires from to
    (c.range.ensures.value ∙ ap (λ b. slice_range b c.index.result.now c.index-2.result.now) c.as_str.ensures.value)
