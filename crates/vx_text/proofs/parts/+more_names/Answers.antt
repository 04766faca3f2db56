use Rattle.std.proofs.Common.{rules, ◌≡◌, suc, ◌-◌, arith}
use Rattle.vx_text.specs.Grammar.{more_parts}
use Rattle.vx_text.proofs.parts.+more_names.Goals as goal

pub returns-in-Some-after : goal.returns-in-Some-after
unfolding more_parts
returns-in-Some-after t c = let k : c.args.more ≡ suc (c.args.more - 1) = omega arith in rw k (search rules)
