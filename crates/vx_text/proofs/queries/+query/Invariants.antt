use Rattle.std.proofs.Common.{ℕ, ◌+◌, ◌*◌}
use Rattle.vx_text.specs.declared.operators.Level.{Level}
use Rattle.vx_text.specs.declared.operators.Level.TheVariants as levels
use Rattle.vx_text.proofs.queries.+query.Given as goal

abbrev pub decreases-query_front : goal.decreases-query_front
decreases-query_front l = 1048576 * l.deep

-- the tighter an operator binds, the lower its operands
abbrev of_level : Level → ℕ
of_level levels.Disjunction = 800000
of_level levels.Conjunction = 600000
of_level levels.Comparison = 500000
of_level levels.Sum = 400000

abbrev pub decreases-chained_front : goal.decreases-chained_front
decreases-chained_front l = 1048576 * l.deep + of_level l.level + 20000

abbrev pub decreases-chain_front : goal.decreases-chain_front
decreases-chain_front l = 1048576 * l.deep + of_level l.level + 10000 + l.more

abbrev pub decreases-operand_front : goal.decreases-operand_front
decreases-operand_front l = 1048576 * l.deep + of_level l.level

abbrev pub decreases-not_front : goal.decreases-not_front
decreases-not_front l = 1048576 * l.deep + 550000

abbrev pub decreases-compare_front : goal.decreases-compare_front
decreases-compare_front l = 1048576 * l.deep + 540000

abbrev pub decreases-post_front : goal.decreases-post_front
decreases-post_front l = 1048576 * l.deep + 350000

abbrev pub decreases-atom_front : goal.decreases-atom_front
decreases-atom_front l = 1048576 * l.deep + 340000

abbrev pub decreases-sign_atom : goal.decreases-sign_atom
decreases-sign_atom l = 1048576 * l.deep + 300000

abbrev pub decreases-word_atom : goal.decreases-word_atom
decreases-word_atom l = 1048576 * l.deep + 300000

abbrev pub decreases-cast_front : goal.decreases-cast_front
decreases-cast_front l = 1048576 * l.deep + 200000

abbrev pub decreases-call_front : goal.decreases-call_front
decreases-call_front l = 1048576 * l.deep + 200000

abbrev pub decreases-pack_front : goal.decreases-pack_front
decreases-pack_front l = 1048576 * l.deep + 200000

abbrev pub decreases-arguments_front : goal.decreases-arguments_front
decreases-arguments_front l = 1048576 * l.deep + 150000

abbrev pub decreases-more_arguments : goal.decreases-more_arguments
decreases-more_arguments l = 1048576 * l.deep + 100000 + l.more

abbrev pub decreases-all_named_front : goal.decreases-all_named_front
decreases-all_named_front l = 1048576 * l.deep + 150000

abbrev pub decreases-more_named : goal.decreases-more_named
decreases-more_named l = 1048576 * l.deep + 100000 + l.more

abbrev pub decreases-named_front : goal.decreases-named_front
decreases-named_front l = 1048576 * l.deep + 50000
