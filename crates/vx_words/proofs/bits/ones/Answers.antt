use Rattle.std.proofs.Common.{◌/◌, ◌%◌, ◌-◌, ◌*◌, ◌^◌, set, ◌∙◌, ap, arith}
use Rattle.std.specs.Prelude.{replicate}
use Rattle.vx_words.proofs.BitLemmas.{bit_of-full, bit_of-full_less}
use Rattle.vx_words.proofs.bits.ones.Goals as goal

pub returns-then-rest-eq0-clause-bits : goal.returns-then-rest-eq0-clause-bits
returns-then-rest-eq0-clause-bits c = λ j. bit_of-full _ _ c.args.len j c.in_ok-words.ensures (omega arith)

pub returns-clause-bits : goal.returns-clause-bits
returns-clause-bits c =
    let m = c.args.len / 64 in
    let r = c.args.len % 64 in
    λ j. bit_of-full_less _ m r c.args.len j
    (ap (λ ws. set ws m (1 * 2 ^ r % 2 ^ 64 - 1)) (c.in_ok-words.ensures ∙ ap (λ n. replicate n (2 ^ 64 - 1)) (omega arith))) (omega arith) (omega arith)
