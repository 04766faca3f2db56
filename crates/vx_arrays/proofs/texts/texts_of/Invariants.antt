use Rattle.std.proofs.Common.{◌≡◌, ◌-◌, map}
use Rattle.std.specs.List.{list_all, range_with_len}
use Rattle.vx_dtype.specs.RawViews.{raw_view}
use Rattle.vx_dtype.specs.Values.{raw_text}
use Rattle.vx_column.specs.Answers.{optional_raw}
use Rattle.vx_arrays.specs.Arrays.{cells, text_at, has_text}
use Rattle.vx_arrays.proofs.texts.texts_of.Given as goal

-- the texts so far, and what is left to test
abbrev pub invariant-loop-i : goal.invariant-loop-i
invariant-loop-i l =
    (map raw_view l.texts.items ≡ map (optional_raw raw_text) (cells l.fn.validity (text_at l.fn.offsets l.fn.bytes) l.i))
    × (list_all (has_text l.fn.validity l.fn.offsets l.fn.bytes) (range_with_len 0 l.fn.rows)
    ≡ list_all (has_text l.fn.validity l.fn.offsets l.fn.bytes) (range_with_len l.i (l.fn.rows - l.i)))
