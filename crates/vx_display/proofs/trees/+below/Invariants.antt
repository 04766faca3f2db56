use Rattle.std.proofs.Common.{drop}
use Rattle.std.specs.Fmt.{IsPlainFormatter}
use Rattle.vx_dtype.proofs.PrintingLemmas.{HasBegun}
use Rattle.vx_expr.specs.Trees.{trees_of, children_of}
use Rattle.vx_expr.specs.Heights.{height}
use Rattle.vx_display.specs.TreeTexts.{below_text, list_below, names_of}
use Rattle.vx_display.specs.TreeLines.{prefix_text}
use Rattle.vx_display.proofs.trees.+below.Given as goal

-- the height of the node
abbrev pub decreases-write_below : goal.decreases-write_below
decreases-write_below g l = height l.expr.now

-- what is left is the lines of the children from here on
abbrev pub invariant-loop-i : goal.invariant-loop-i
invariant-loop-i g l =
    IsPlainFormatter l.initial.f → HasBegun g.W.Write.write_str_gives l.initial.f (below_text (prefix_text l.prefix) (names_of l.expr) l.expr) l.f (list_below (prefix_text l.prefix) (drop l.i (names_of l.expr)) (trees_of (drop l.i (children_of l.expr))))
