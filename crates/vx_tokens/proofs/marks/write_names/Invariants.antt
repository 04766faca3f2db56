use Rattle.std.proofs.Common.{[], drop}
use denote.Text.{Utf8}
use denote.Shadow.{shadow}
use Rattle.std.specs.Fmt.{IsPlainFormatter}
use Rattle.vx_dtype.proofs.PrintingLemmas.{HasBegun}
use Rattle.vx_tokens.specs.Names.{names_text}
use Rattle.vx_tokens.proofs.marks.write_names.Given as goal

-- the separator is text, and what is left is the text of the names from here on
abbrev pub invariant-loop-i : goal.invariant-loop-i
invariant-loop-i g l =
    shadow (Utf8 l.separator)
    × (IsPlainFormatter l.initial.f → HasBegun g.W.Write.write_str_gives l.initial.f (names_text [] l.names) l.f (names_text l.separator (drop l.i l.names)))
