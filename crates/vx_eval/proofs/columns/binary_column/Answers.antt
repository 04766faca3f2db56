use Rattle.vx_eval.proofs.NodeLemmas.{and_given, or_given, add_given, sub_given, compare_given}
use Rattle.vx_eval.proofs.columns.binary_column.Goals as goal

pub returns-in-And : goal.returns-in-And
returns-in-And c t slots rows d e h k = rw c.in-And.is (and_given t slots rows d e c.args.left.now c.args.right.now c.and_columns.result h k c.and_columns.ensures)

pub returns-in-Or : goal.returns-in-Or
returns-in-Or c t slots rows d e h k = rw c.in-Or.is (or_given t slots rows d e c.args.left.now c.args.right.now c.or_columns.result h k c.or_columns.ensures)

pub returns-in-Add : goal.returns-in-Add
returns-in-Add c t slots rows d e h k = rw c.in-Add.is (add_given t slots rows d e c.args.left.now c.args.right.now c.add_columns.result h k c.add_columns.ensures)

pub returns-in-Sub : goal.returns-in-Sub
returns-in-Sub c t slots rows d e h k =
    rw c.in-Sub.is (sub_given t slots rows d e c.args.left.now c.args.right.now c.subtract_columns.result h k c.subtract_columns.ensures)

pub returns-in-Some : goal.returns-in-Some
returns-in-Some c t slots rows d e h k =
    compare_given t slots rows d e c.args.left.now c.args.right.now c.compare_columns.result h k c.args.op c.in-Some.comparison c.in-Some.ensures
    c.compare_columns.ensures
