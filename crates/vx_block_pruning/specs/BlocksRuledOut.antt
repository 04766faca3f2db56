-- Which blocks of a table a filter rules out, in order.
use Rattle.std.specs.Prelude.{ℕ, Bool, List, map}
use Rattle.std.specs.List.{range_with_len}
use Rattle.vx_expr.specs.Trees.{Tree}
use Rattle.vx_semantics.specs.Meaning.{Slots}
use Rattle.vx_semantics.specs.Tables.{Zones, numbered_from}
use Rattle.vx_semantics.specs.Pruning.{rules_out}

-- of each block, whether a filter rules it out
abbrev pub blocks_ruled_out : Zones → Slots → Tree → List Bool
blocks_ruled_out zones slots e = map (λ b. rules_out zones slots b.0 e) (numbered_from 0 zones.lengths)

-- the same of each block of a run, which begins at a block and is so long
abbrev pub run_ruled_out : Zones → Slots → ℕ → ℕ → Tree → List Bool
run_ruled_out zones slots first count e = map (λ block. rules_out zones slots block e) (range_with_len first count)
