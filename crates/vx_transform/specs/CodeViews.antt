-- For the checker: no public clause cites this.
-- How the parts of the passes are seen: readings of comparisons, the bounds that wait for others, structs that go into a merge,
-- and what is asked of a struct's type.
use Rattle.std.specs.Prelude.{ℕ, List, [], option_map, unwrap_or}
use Rattle.std.specs.HashMap.{get}
use Rattle.vx_expr.specs.Equal.{tree_eq}
use Rattle.vx_expr.specs.Trees.{Tree}
use Rattle.vx_transform.specs.declared.range_bounds.Reading.{Reading as CodeReading}
use Rattle.vx_transform.specs.declared.unpaired_bounds.Places.{Places}
use Rattle.vx_transform.specs.declared.unpaired_bounds.Waiting.{Waiting}
use Rattle.vx_transform.specs.Pairs.{WaitsAt}
use Rattle.vx_transform.specs.declared.merged_structs.Giving.{Giving as CodeGiving}
use Rattle.vx_passes.specs.Ranges.{Reading}
use Rattle.vx_passes.specs.Merging.{Giving}
use Rattle.vx_transform.specs.declared.struct_heads.StructHead.{StructHead as CodeHead}
use Rattle.vx_laws_removing.specs.Walking.{StructHead}

-- a comparison read with one of its operands on the left
abbrev pub reading_view : CodeReading → Reading
reading_view r = record { operand = r.operand.now; operator = r.operator; other = r.other.now }

-- the places that are kept of an operand
abbrev pub places_at : Places → Tree → List ℕ
places_at p e = unwrap_or (option_map (λ q. q.items) (get tree_eq p.by_operand e)) []

-- what is kept are the places of the bounds among those made
abbrev pub Waits : Waiting → List Tree → Type 0
Waits w made = WaitsAt (places_at w.below) (places_at w.above) made

-- a struct that goes into a merge
abbrev pub giving_view : CodeGiving → Giving
giving_view g = record { names = g.names; expression = g.expr }

-- what a select or a merge asks of a struct's type
abbrev pub head_view : CodeHead → StructHead
head_view h = record { names = h.names; nullability = h.nullability }
