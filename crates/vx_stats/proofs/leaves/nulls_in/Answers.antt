use Rattle.std.proofs.Common.{ap, ◌∙◌, length}
use Rattle.std.specs.List.{filter}
use Rattle.std.specs.Prelude.{is_none}
use Rattle.vx_column.specs.Columns.{true_count}
use Rattle.vx_numbers.specs.Numbers.{NumberList}
use Rattle.vx_stats.proofs.FirstLemmas.{counted-nulls, nulls-numbered}
use Rattle.vx_stats.proofs.leaves.nulls_in.Goals as goal

pub returns-then-is_primitive : goal.returns-then-is_primitive
returns-then-is_primitive c =
    c.null_count.ensures ∙ ap (λ (ns : NumberList). length (filter is_none ns.numbers)) c.deref.ensures
    ∙ nulls-numbered c.in_ok-numbers.numbers.value c.args.column.now.rows c.in_ok-numbers.ensures.rows

pub returns : goal.returns
returns c = c.true_count.ensures ∙ ap true_count c.in_ok-nulls.ensures.rows ∙ counted-nulls c.args.column.now.rows
