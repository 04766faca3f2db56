use Rattle.std.proofs.Common.{arith}
use Rattle.vx_topk.proofs.PairLemmas.{pair-first, pair-parts, pair-long}
use Rattle.vx_topk.proofs.first_rows.both_parts.Goals as goal

pub bounds-parts-0 : goal.bounds-parts-0
bounds-parts-0 c =
    let h = c.requires in
    let two = pair-long h.0 h.1 c.args.parts.now h.3 in omega (arith, two)

pub of_value-requires : goal.of_value-requires
of_value-requires c =
    let h = c.requires in
    (h.0, h.2, pair-first h.0 h.1 c.args.parts.now c.index-parts-0.result h.3 c.index-parts-0.is)

pub bounds-parts-1 : goal.bounds-parts-1
bounds-parts-1 c =
    let h = c.requires in
    let two = pair-long h.0 h.1 c.args.parts.now h.3 in omega (arith, two)

pub returns : goal.returns
returns c k v f =
    pair-parts k v c.args.parts.now c.index-parts-0.result c.index-parts-1.result c.in_ok-key.key c.in_ok-value.value f c.index-parts-0.is c.index-parts-1.is c.in_ok-key.ensures c.in_ok-value.ensures.cases
