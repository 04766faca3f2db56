use Rattle.std.specs.Fmt.{IsPlainFormatter}
use Rattle.vx_dtype.proofs.PrintingLemmas.{HasBegun}
use Rattle.vx_text.specs.Writing.{query_text}
use Rattle.vx_text.specs.WritingParts.{parts_of, parts_steps, parts_text}
use Rattle.vx_text.proofs.writing.write_expr.Given as goal

-- what is left is the text of the parts
abbrev pub invariant-loop-part : goal.invariant-loop-part
invariant-loop-part g l = IsPlainFormatter l.fn.f → HasBegun g.W.Write.write_str_gives l.fn.f (query_text l.expr) l.f (parts_text (parts_of l.left.items))

abbrev pub decreases-loop-part : goal.decreases-loop-part
decreases-loop-part g l = parts_steps (parts_of l.left.items)
