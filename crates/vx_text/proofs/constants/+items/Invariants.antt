use Rattle.std.proofs.Common.{[], map, drop}
use denote.Text.{Utf8}
use denote.Shadow.{shadow}
use Rattle.std.specs.Fmt.{IsPlainFormatter}
use Rattle.vx_dtype.specs.RawViews.{raw_view, raws_of}
use Rattle.vx_dtype.proofs.PrintingLemmas.{HasBegun}
use Rattle.vx_text.specs.Writing.{items_text}
use Rattle.vx_text.proofs.constants.+items.Given as goal

-- the separator is text, and what is left is the text of the values from here on
abbrev pub invariant-write_items-loop-i : goal.invariant-write_items-loop-i
invariant-write_items-loop-i g l =
    shadow (Utf8 l.separator)
    × (IsPlainFormatter l.initial.f → HasBegun g.W.Write.write_str_gives l.initial.f (items_text [] (raws_of (map raw_view l.values))) l.f (items_text l.separator (raws_of (map raw_view (drop l.i l.values)))))
