use Rattle.std.proofs.Common.{[], map, drop}
use denote.Text.{Utf8}
use denote.Shadow.{shadow}
use Rattle.std.specs.Fmt.{IsPlainFormatter}
use Rattle.vx_dtype.specs.Zipped.{zipped}
use Rattle.vx_dtype.specs.ScalarTexts.{items_text, members_text}
use Rattle.vx_dtype.specs.TypeViews.{type_view}
use Rattle.vx_dtype.specs.RawViews.{raw_view, raws_of}
use Rattle.vx_dtype.proofs.PrintingLemmas.{HasBegun}
use Rattle.vx_dtype.proofs.types.printing.+printing.Given as goal

-- the separator is text, and what is left is the text of the values from here on
abbrev pub invariant-write_items-loop-i : goal.invariant-write_items-loop-i
invariant-write_items-loop-i g l =
    shadow (Utf8 l.separator)
    × (IsPlainFormatter l.initial.f → HasBegun g.W.Write.write_str_gives l.initial.f (items_text [] (raws_of (map raw_view l.values)) (type_view l.dtype)) l.f (items_text l.separator (raws_of (map raw_view (drop l.i l.values))) (type_view l.dtype)))

-- the same of the values of fields
abbrev pub invariant-write_members-loop-i : goal.invariant-write_members-loop-i
invariant-write_members-loop-i g l =
    shadow (Utf8 l.separator)
    × (IsPlainFormatter l.initial.f → HasBegun g.W.Write.write_str_gives l.initial.f (members_text [] (raws_of (map raw_view l.values)) l.fields) l.f (members_text l.separator (raws_of (map raw_view (drop l.i l.values))) (zipped (drop l.i l.fields-inside.names) (map type_view (drop l.i l.fields-inside.dtypes.value.items)))))
