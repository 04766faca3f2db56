-- Simplifying by types: fields on packs and ranges, then selects, then merges, then fields on packs and ranges again.
use Rattle.std.specs.Prelude.{Result}
use Rattle.vx_dtype.specs.Types.{Ty}
use Rattle.vx_expr.specs.Trees.{Tree}
use Rattle.vx_semantics.specs.Typing.{Refusal, and_then}
use Rattle.vx_passes.specs.Simplifying.{simplified}
use Rattle.vx_passes.specs.Selecting.{without_select}
use Rattle.vx_passes.specs.Merging.{without_merge}

-- the four passes in their order, with the first refusal
abbrev pub simplified_typed : Ty → Tree → Result Tree Refusal
simplified_typed t e =
    and_then (simplified e) (λ a. and_then (without_select t a) (λ b. and_then (without_merge t b) simplified))
