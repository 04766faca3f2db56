use Rattle.std.proofs.Common.{◌<◌, length, None, ◌∙◌, ap, arith}
use Rattle.std.proofs.lemmas.List.Sums.{sum_by_more, sum_by_more_le}
use Rattle.vx_texts.specs.Texts.{byte_count}
use Rattle.vx_texts.proofs.texts.Texts.bytes_len.Goals as goal

pub overflow_add-total : goal.overflow_add-total
overflow_add-total c =
    let ts = c.args.self.now in
    let i = c.places.i in
    let low : i < length ts = omega (arith, c.places-test.true, c.len-i-end.ensures.count) in
    let most = sum_by_more_le byte_count ts i None low in
    let here = c.byte_count-total.ensures ∙ ap byte_count c.text_at.ensures in
    record { fits = omega (arith, most, here, c.places.invariant, c.len-i-end.ensures.fitting) }

pub places-preserved : goal.places-preserved
places-preserved c =
    let ts = c.args.self.now in
    let i = c.places.i in
    let low : i < length ts = omega (arith, c.places-test.true, c.len-i-end.ensures.count) in
    let more = sum_by_more byte_count ts i None low in
    let here = c.byte_count-total.ensures ∙ ap byte_count c.text_at.ensures in
    omega (arith, more, here, c.places.invariant)
