use Rattle.std.proofs.Common.{[], drop}
use denote.Text.{Utf8}
use denote.Shadow.{shadow}
use Rattle.std.specs.Fmt.{IsPlainFormatter}
use Rattle.vx_dtype.proofs.PrintingLemmas.{HasBegun}
use Rattle.vx_expr.specs.Trees.{trees_of}
use Rattle.vx_expr.specs.CompactTexts.{named_texts}
use Rattle.vx_partition.proofs.split_texts.write_named.Given as goal

-- the separator is text, and what is left is the text of the names and expressions from here on
abbrev pub invariant-loop-i : goal.invariant-loop-i
invariant-loop-i g l =
    shadow (Utf8 l.separator)
    × (IsPlainFormatter l.initial.f → HasBegun g.W.Write.write_str_gives l.initial.f (named_texts [] l.names (trees_of l.values)) l.f (named_texts l.separator (drop l.i l.names) (trees_of (drop l.i l.values))))
