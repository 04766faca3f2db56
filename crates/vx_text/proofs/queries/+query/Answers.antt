use Rattle.std.proofs.Common.{rules, ◌≡◌, suc, ◌-◌, arith, sym, ap, ◌∙◌, subst}
use Rattle.std.specs.Prelude.{option_map, IfOk}
use Rattle.vx_text.specs.Grammar.{more_parts, chain, query_at, operand_with}
use Rattle.vx_text.proofs.ReadingLemmas.{chain-goes}
use Rattle.vx_text.proofs.queries.+query.Goals as goal

pub chain_front-returns-in_default-2 : goal.chain_front-returns-in_default-2
unfolding chain
chain_front-returns-in_default-2 t c = let k : c.args.more ≡ suc (c.args.more - 1) = omega arith in rw k (search rules)

pub chain_front-returns : goal.chain_front-returns
chain_front-returns t c =
    let k : c.args.more ≡ suc (c.args.more - 1) = omega arith in
    let operand = operand_with c.args.level (query_at c.args.deep) in
    let found = ap (option_map (λ x. (x.0, x.1.now))) (sym c.in-Some-2.is) ∙ c.in_ok-right.ensures in
    let goes = chain-goes c.args.level operand c.args.more c.args.left c.in-Some-2.right c.in_ok-left.left c.in-Some.operator c.args.tokens.now c.in-Some.rest.now c.in-Some-2.rest.now k c.in-Some.ensures found c.in_ok-left.ensures in
    subst (λ r. IfOk c.chain_front.result (λ answer. option_map (λ x. (x.0, x.1.now)) answer ≡ r)) goes c.chain_front.ensures

pub query_front-returns : goal.query_front-returns
unfolding query_at
query_front-returns t c = let k : c.args.deep ≡ suc (c.args.deep - 1) = omega arith in rw k (search rules)

pub more_arguments-returns-in-Some-after : goal.more_arguments-returns-in-Some-after
unfolding more_parts
more_arguments-returns-in-Some-after t c = let k : c.args.more ≡ suc (c.args.more - 1) = omega arith in rw k (search rules)

pub more_named-returns-in-Some-after : goal.more_named-returns-in-Some-after
unfolding more_parts
more_named-returns-in-Some-after t c = let k : c.args.more ≡ suc (c.args.more - 1) = omega arith in rw k (search rules)
