use Rattle.std.proofs.Common.{◌/◌, arith, refl}
use Rattle.vx_words.proofs.NextLemmas.{first_in_rest, none_in_rest, first_in_word}
use Rattle.vx_words.proofs.bits.next_bit.Goals as goal

pub overflow_add-result : goal.overflow_add-result
overflow_add-result c =
    let first = first_in_rest c.args.words.now c.args.from _ (c.type_inv.words (c.args.from / 64)) (omega arith) refl _ refl c.if-rest-ne0.true in
    let inside = first.within in
    record { fits = omega arith }

pub returns-then-rest-ne0 : goal.returns-then-rest-ne0
returns-then-rest-ne0 c =
    first_in_rest c.args.words.now c.args.from _ (c.type_inv.words (c.args.from / 64)) (omega arith) refl _ refl c.if-rest-ne0.true

pub words-init : goal.words-init
words-init c =
    none_in_rest c.args.words.now c.args.from _ (c.type_inv.words (c.args.from / 64)) (omega arith) refl c.if-rest-ne0.false

pub overflow_mul-result : goal.overflow_mul-result
overflow_mul-result c = record { fits = omega arith }

pub overflow_add-result-then-words-k-ne0 : goal.overflow_add-result-then-words-k-ne0
overflow_add-result-then-words-k-ne0 c =
    let after = c.words.auto.k in
    let first =
    first_in_word c.args.words.now c.args.from c.words.k c.words-test.true c.words.invariant _ (c.type_inv.words c.words.k) (omega arith) refl
    c.if-words-k-ne0.true in
    let inside = first.within in
    record { fits = omega arith }

pub returns-then-words-k-ne0 : goal.returns-then-words-k-ne0
returns-then-words-k-ne0 c =
    let after = c.words.auto.k in
    first_in_word c.args.words.now c.args.from c.words.k c.words-test.true c.words.invariant _ (c.type_inv.words c.words.k) (omega arith) refl
    c.if-words-k-ne0.true
