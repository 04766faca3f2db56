use Rattle.std.proofs.Common.{map, drop}
use Rattle.vx_dtype.specs.RawViews.{raw_view, raws_of}
use Rattle.vx_wire_bytes.specs.Fields.{IsShort, IsText}
use Rattle.vx_wire_bytes.specs.ValueForms.{AllTextsAre}
use Rattle.vx_wire_bytes.proofs.lengths.+has_short_texts.Given as goal

-- the values before a place are short, so those from it on decide
abbrev pub invariant-have_short_texts-loop-i : goal.invariant-have_short_texts-loop-i
invariant-have_short_texts-loop-i l =
    (AllTextsAre IsShort (raws_of (map raw_view (drop l.i l.values))) → AllTextsAre IsShort (raws_of (map raw_view l.values)))
    × (AllTextsAre IsShort (raws_of (map raw_view l.values)) → AllTextsAre IsShort (raws_of (map raw_view (drop l.i l.values))))
    × (AllTextsAre IsText (raws_of (map raw_view (drop l.i l.values))) → AllTextsAre IsText (raws_of (map raw_view l.values)))
