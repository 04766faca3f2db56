use Rattle.std.proofs.Common.{◌≡◌, refl, ap, arith}
use Rattle.std.proofs.lemmas.List.{take_at}
use Rattle.std.specs.Prelude.{length}
use Rattle.vx_dtype.specs.Values.{null_val}
use Rattle.vx_words.specs.declared.logic.Connective.{Connective}
use Rattle.vx_words.specs.declared.logic.Connective.TheVariants.{And, Or}
use Rattle.vx_words.specs.Connectives.{connected3}
use Rattle.vx_words.proofs.TruthLemmas.{both_tidy_seen, both_vals_seen}
use Rattle.vx_words.proofs.truths.connected.Goals as goal

connected_nulls : (connective : Connective) → connected3 connective null_val null_val ≡ null_val
connected_nulls And = refl
connected_nulls Or = refl

pub connect_words-requires-clause-left : goal.connect_words-requires-clause-left
connect_words-requires-clause-left c =
    let l = c.words.ensures.tidy in
    let p = l.valid_length in
    let q = l.values_length in
    omega arith

pub connect_words-requires-clause-right : goal.connect_words-requires-clause-right
connect_words-requires-clause-right c =
    let l = c.words.ensures.tidy in
    let r = c.words-2.ensures.tidy in
    let p = l.valid_length in
    let q = r.valid_length in
    let s = r.values_length in
    (omega arith, omega arith)

pub connect_words-requires-clause-out : goal.connect_words-requires-clause-out
connect_words-requires-clause-out c =
    let l = c.words.ensures.tidy in
    let p = l.valid_length in
    let v = ap length c.deref_mut.ensures.value in
    let b = ap length c.deref_mut-2.ensures.value in
    let x = c.in_ok-valid.ensures.lengths in
    let y = c.in_ok-values.ensures.lengths in
    (omega arith, omega arith)

pub of_words-requires : goal.of_words-requires
of_words-requires c =
    let l = c.words.ensures in
    let r = c.words-2.ensures in
    let p = l.tidy.valid_length in
    let v = ap length c.deref_mut.ensures.value in
    let b = ap length c.deref_mut-2.ensures.value in
    let x = c.in_ok-valid.ensures.lengths in
    let y = c.in_ok-values.ensures.lengths in
    let made = c.connect_words.ensures in
    rw (
      take_at c.connect_words.new.ov _ c.in_ok-valid.valid.len (omega arith),
      take_at c.connect_words.new.ob _ c.in_ok-values.values.len (omega arith),
      c.len-3.ensures,
    )
    (both_tidy_seen (connected3 c.args.connective) c.words.result.0.now c.words.result.1.now c.words-2.result.0.now c.words-2.result.1.now c.connect_words.new.ov c.connect_words.new.ob
    c.args.left.now c.args.right.now c.requires l.truths l.tidy r.truths r.tidy (connected_nulls c.args.connective) made.lengths.0 made.lengths.1 made.truths made.bare)

pub returns : goal.returns
returns c =
    let l = c.words.ensures in
    let r = c.words-2.ensures in
    let p = l.tidy.valid_length in
    let v = ap length c.deref_mut.ensures.value in
    let b = ap length c.deref_mut-2.ensures.value in
    let x = c.in_ok-valid.ensures.lengths in
    let y = c.in_ok-values.ensures.lengths in
    let made = c.connect_words.ensures in
    rw (
      c.of_words.ensures,
      take_at c.connect_words.new.ov _ c.in_ok-valid.valid.len (omega arith),
      take_at c.connect_words.new.ob _ c.in_ok-values.values.len (omega arith),
      c.len-3.ensures,
    )
    (both_vals_seen (connected3 c.args.connective) c.words.result.0.now c.words.result.1.now c.words-2.result.0.now c.words-2.result.1.now c.connect_words.new.ov c.connect_words.new.ob
    c.args.left.now c.args.right.now c.requires l.truths l.tidy r.truths r.tidy made.truths)
