use Rattle.std.proofs.Common.{sym, ◌∙◌}
use Rattle.vx_expr.specs.Trees.{children_of}
use Rattle.vx_partition.specs.Numbering.{exprs_of}
use Rattle.vx_partition.proofs.TableLemmas.{as_many_numbers, is_found, same_key}
use Rattle.vx_partition.proofs.numbers.Numbers.number.Goals as goal

pub over_numbers-requires : goal.over_numbers-requires
over_numbers-requires c =
    as_many_numbers (exprs_of c.args.self.now.nodes.entries) c.args.below.now (children_of c.args.expr.now) c.requires.below

pub returns-in-Some-clause-number : goal.returns-in-Some-clause-number
returns-in-Some-clause-number c =
    let nodes = c.args.self.now.nodes.entries in
    is_found nodes c.requires.numbering c.in-Some.number (c.in-Some.field-0-1.now, c.in-Some.field-0-2.now) c.in-Some.ensures.entry c.args.expr.now
    c.args.below.now c.requires.below (sym c.in_ok-key.ensures ∙ same_key c.in_ok-key.key c.in-Some.field-0-1.now nodes (sym c.in-Some.ensures.key))
