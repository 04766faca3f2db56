use Rattle.std.proofs.Common.{rules, ◌≡◌, suc, ◌-◌, arith}
use Rattle.vx_text.specs.NamedExpressions.{negated}
use Rattle.vx_text.proofs.naming.+negated.Goals as goal

pub returns : goal.returns
unfolding negated
returns t c = let k : c.args.count ≡ suc (c.args.count - 1) = omega arith in rw k (search rules)
