use Rattle.std.proofs.Common.{rules, ◌≡◌, suc, ◌-◌, arith}
use Rattle.vx_text.specs.Grammar.{more_parts, type_at}
use Rattle.vx_text.proofs.types.+type_front.Goals as goal

pub type_at-returns : goal.type_at-returns
unfolding type_at
type_at-returns t c = let k : c.args.deep ≡ suc (c.args.deep - 1) = omega arith in rw k (search rules)

pub more_fields-returns-in-Some-after-clause-read : goal.more_fields-returns-in-Some-after-clause-read
unfolding more_parts
more_fields-returns-in-Some-after-clause-read t c = let k : c.args.more ≡ suc (c.args.more - 1) = omega arith in rw k (search rules)
