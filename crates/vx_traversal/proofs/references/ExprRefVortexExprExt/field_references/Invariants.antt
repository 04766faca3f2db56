use Rattle.std.proofs.Common.{List, [], drop, map}
use Rattle.std.specs.List.{flat_map}
use Rattle.vx_dtype.specs.Types.{Bytes}
use Rattle.vx_traversal.specs.References.{own_names, AddsNames}
use Rattle.vx_traversal.proofs.references.ExprRefVortexExprExt.field_references.Given as goal

-- what adds the names of the nodes from i on to what is held adds the names of all of them to nothing
abbrev pub invariant-loop-i : goal.invariant-loop-i
invariant-loop-i l = (after : List Bytes) → AddsNames (flat_map own_names (drop l.i (map (λ node. node.now) l.nodes.items))) l.fields.keys after → AddsNames (flat_map own_names (map (λ node. node.now) l.nodes.items)) [] after
