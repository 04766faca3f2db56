use Rattle.std.proofs.Common.{◌≡◌, drop}
use Rattle.vx_expr.specs.Trees.{children_of}
use Rattle.vx_passes.specs.Simplifying.{field_of_pack}
use Rattle.vx_transform.specs.Rebuilds.{each}
use Rattle.vx_transform.proofs.RebuildLemmas.{before}
use Rattle.vx_transform.proofs.walking.values_taken.Given as goal

-- what was collected, and what is left
abbrev pub invariant-loop-i : goal.invariant-loop-i
invariant-loop-i l = each field_of_pack (children_of l.pack) ≡ before l.values.items (each field_of_pack (drop l.i (children_of l.pack)))
