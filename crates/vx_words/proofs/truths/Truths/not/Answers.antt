use Rattle.std.proofs.Common.{refl, ap, arith}
use Rattle.std.proofs.lemmas.List.{take_at}
use Rattle.std.specs.Prelude.{length}
use Rattle.vx_dtype.specs.Logic.{not3}
use Rattle.vx_words.proofs.TruthLemmas.{one_tidy, one_vals_seen}
use Rattle.vx_words.proofs.truths.Truths.not.Goals as goal

pub not_words-requires-clause-taken : goal.not_words-requires-clause-taken
not_words-requires-clause-taken c =
    let t = c.words.ensures.tidy in
    let p = t.valid_length in
    let q = t.values_length in
    omega arith

pub not_words-requires-clause-out : goal.not_words-requires-clause-out
not_words-requires-clause-out c =
    let t = c.words.ensures.tidy in
    let p = t.valid_length in
    let v = ap length c.deref_mut.ensures.value in
    let b = ap length c.deref_mut-2.ensures.value in
    let x = c.in_ok-valid.ensures.lengths in
    let y = c.in_ok-values.ensures.lengths in
    (omega arith, omega arith)

pub of_words-requires : goal.of_words-requires
of_words-requires c =
    let t = c.words.ensures in
    let p = t.tidy.valid_length in
    let v = ap length c.deref_mut.ensures.value in
    let b = ap length c.deref_mut-2.ensures.value in
    let x = c.in_ok-valid.ensures.lengths in
    let y = c.in_ok-values.ensures.lengths in
    let made = c.not_words.ensures in
    rw (
      take_at c.not_words.new.ov _ c.in_ok-valid.valid.len (omega arith),
      take_at c.not_words.new.ob _ c.in_ok-values.values.len (omega arith),
      c.len-3.ensures,
    )
    (one_tidy not3 c.words.result.0.now c.words.result.1.now c.not_words.new.ov c.not_words.new.ob (length c.args.self.now) t.tidy
    made.truths refl made.lengths.0 made.lengths.1 made.bare)

pub returns : goal.returns
returns c =
    let t = c.words.ensures in
    let p = t.tidy.valid_length in
    let v = ap length c.deref_mut.ensures.value in
    let b = ap length c.deref_mut-2.ensures.value in
    let x = c.in_ok-valid.ensures.lengths in
    let y = c.in_ok-values.ensures.lengths in
    let made = c.not_words.ensures in
    rw (
      c.of_words.ensures,
      take_at c.not_words.new.ov _ c.in_ok-valid.valid.len (omega arith),
      take_at c.not_words.new.ob _ c.in_ok-values.values.len (omega arith),
      c.len-3.ensures,
    )
    (one_vals_seen not3 c.words.result.0.now c.words.result.1.now c.not_words.new.ov c.not_words.new.ob c.args.self.now t.truths t.tidy made.truths)
