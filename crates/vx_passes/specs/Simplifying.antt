-- Simplifying: a field taken straight from a pack is the pack's value of that name; then ranges are found in the whole.
use Rattle.std.specs.Prelude.{Option, Some, None, Result, Ok, Err}
use Rattle.vx_expr.specs.Children.{packed_value}
use Rattle.vx_expr.specs.Trees.{Tree, get_item, pack}
use Rattle.vx_semantics.specs.Typing.{Refusal, unknown_field, and_then}
use Rattle.vx_passes.specs.Rebuilding.{rebuilt}
use Rattle.vx_passes.specs.Ranges.{ranged}

-- the expression, or the refusal of an unknown field
abbrev pub known_field : Option Tree → Result Tree Refusal
known_field (Some e) = Ok e
known_field None = Err unknown_field

-- a field straight on a pack is the pack's value; any other node stays
abbrev pub field_of_pack : Tree → Result Tree Refusal
field_of_pack (get_item f (pack names es n)) = known_field (packed_value f names es)
field_of_pack e = Ok e

-- the expression without fields straight on packs
abbrev pub without_packed_fields : Tree → Result Tree Refusal
without_packed_fields e = rebuilt field_of_pack e

-- the expression without these, and with its ranges
abbrev pub simplified : Tree → Result Tree Refusal
simplified e = and_then (without_packed_fields e) (λ d. Ok (ranged d))
