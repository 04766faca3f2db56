use Rattle.std.proofs.Common.{rules, ◌≡◌, suc, ◌-◌, arith}
use Rattle.vx_text.specs.Grammar.{more_parts, item_at}
use Rattle.vx_text.proofs.items.+item_front.Goals as goal

pub item_at-returns : goal.item_at-returns
unfolding item_at
item_at-returns t c = let k : c.args.deep ≡ suc (c.args.deep - 1) = omega arith in rw k (search rules)

pub more_items-returns-in-Some-after : goal.more_items-returns-in-Some-after
unfolding more_parts
more_items-returns-in-Some-after t c = let k : c.args.more ≡ suc (c.args.more - 1) = omega arith in rw k (search rules)
