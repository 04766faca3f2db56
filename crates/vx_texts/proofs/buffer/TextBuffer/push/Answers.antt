use Rattle.std.proofs.Common.{◌≡◌, ◌+◌, ◌-◌, ◌&&◌, ◌||◌, eqb, string_bytes, length, sum_by, ◌∙◌, ap, arith}
use Rattle.vx_words.specs.Words.{bit_of}
use Rattle.vx_words.specs.Truths.{words_for}
use Rattle.vx_texts.proofs.BufferLemmas.{length_seen, total_cut, pushed_seen}
use Rattle.vx_texts.proofs.buffer.TextBuffer.push.Goals as goal

pub push_bit-requires : goal.push_bit-requires
push_bit-requires c =
    let long = length_seen (string_bytes c.self.inside.bytes) c.self.inside.offsets.items c.args.self.now c.self.view_is in
    let size = c.self.inside.offsets.ok.0 in
    let count : length c.args.self.now ≡ c.len-len.result - 1 = omega (arith, c.len-len.ensures, long, size) in
    c.requires.words ∙ ap words_for count

pub push_text-requires-clause-few : goal.push_text-requires-clause-few
push_text-requires-clause-few c =
    let bytes = ap length c.in_ok-make_room.ensures.bytes in
    let total = total_cut (string_bytes c.self.inside.bytes) c.self.inside.offsets.items c.self.invariant in
    let whole = ap (sum_by length) c.self.view_is in
    omega (arith, bytes, total, whole, c.requires.few)

pub invariant_of-self-2 : goal.invariant_of-self-2
invariant_of-self-2 c =
    (pushed_seen (string_bytes c.self.inside.bytes) c.args.text.now c.self.inside.offsets.items _ _ c.args.self.now _ _ c.self.view_is c.self.invariant c.utf8.text c.requires.few
    c.in_ok-make_room.ensures.bytes c.in_ok-make_room.ensures.offsets c.push_text.ensures.bytes c.push_text.ensures.offsets).0

pub returns-clause-texts : goal.returns-clause-texts
returns-clause-texts c =
    (pushed_seen (string_bytes c.self.inside.bytes) c.args.text.now c.self.inside.offsets.items _ _ c.args.self.now _ _ c.self.view_is c.self.invariant c.utf8.text c.requires.few
    c.in_ok-make_room.ensures.bytes c.in_ok-make_room.ensures.offsets c.push_text.ensures.bytes c.push_text.ensures.offsets).1

pub returns-clause-lengths : goal.returns-clause-lengths
returns-clause-lengths c =
    let long = length_seen (string_bytes c.self.inside.bytes) c.self.inside.offsets.items c.args.self.now c.self.view_is in
    let size = c.self.inside.offsets.ok.0 in
    let count : c.len-len.result - 1 ≡ length c.args.self.now = omega (arith, c.len-len.ensures, long, size) in
    c.in_ok-push_bit.ensures.lengths ∙ ap (λ n. words_for (n + 1)) count

pub returns-clause-bits : goal.returns-clause-bits
returns-clause-bits c = λ j.
    let long = length_seen (string_bytes c.self.inside.bytes) c.self.inside.offsets.items c.args.self.now c.self.view_is in
    let size = c.self.inside.offsets.ok.0 in
    let count : c.len-len.result - 1 ≡ length c.args.self.now = omega (arith, c.len-len.ensures, long, size) in
    c.in_ok-push_bit.ensures.bits j ∙ ap (λ n. (eqb j n && c.args.known) || bit_of c.args.valid.now.items j) count
