use Rattle.std.proofs.Common.{◌∙◌, ◌<◌, ◌≤◌, ◌≡◌, sym, ap, length, drop, get_or, ◌+◌, rules, arith}
use Rattle.vx_csv.specs.ByteReading.{Seen, read_behind, seen, taken}
use Rattle.vx_csv.proofs.ReadRecords.{read_more, read_end}
use Rattle.vx_csv.proofs.reading.read_whole.Goals as goal

pub loop-byte-preserved : goal.loop-byte-preserved
loop-byte-preserved c =
    let text = c.args.text.now in
    let i = c.loop-byte.byte-index in
    let r = seen c.loop-byte.reading in
    let within : i < length text = omega (arith, c.loop-byte-test.true) in
    let now : seen c.take.new.self ≡ taken r (get_or text i 0) = search rules in
    c.loop-byte.invariant ∙ read_more text r i within ∙ ap (λ (s : Seen). read_behind s (drop (i + 1) text)) (sym now)

pub returns : goal.returns
returns c =
    let text = c.args.text.now in
    let i = c.loop-byte.byte-index in
    let over : length text ≤ i = omega (arith, c.loop-byte-test.false) in
    sym (c.loop-byte.invariant ∙ read_end text (seen c.loop-byte.reading) i over)
