use Rattle.std.proofs.Common.{◌∙◌, ap, Bool, List, length, get_or, arith}
use Rattle.vx_scan.proofs.one_block.is_ruled_out.Goals as goal

pub index-requires : goal.index-requires
index-requires c =
    let one = ap length (c.in_ok-flags.ensures c.args.filter.now c.in_ok-rule.ensures c.requires.slots) in
    omega (arith, one)

pub returns : goal.returns
returns c =
    c.index.ensures ∙ ap (λ (bs : List Bool). get_or bs 0 c.index.result.now) (c.in_ok-flags.ensures c.args.filter.now c.in_ok-rule.ensures c.requires.slots)
