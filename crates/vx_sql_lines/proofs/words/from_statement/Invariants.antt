use Rattle.std.proofs.Common.{◌≡◌, drop, length}
use Rattle.std.specs.List.{prefix_len}
use Rattle.vx_sql_lines.specs.Lines.{is_between_statements}
use Rattle.vx_sql_lines.proofs.words.from_statement.Given as goal

abbrev pub decreases-loop-left : goal.decreases-loop-left
decreases-loop-left l = length l.left

-- the bytes that were gone over stand before the statement
abbrev pub invariant-loop-left : goal.invariant-loop-left
invariant-loop-left l =
    drop (prefix_len is_between_statements l.fn.text) l.fn.text ≡ drop (prefix_len is_between_statements l.left) l.left
