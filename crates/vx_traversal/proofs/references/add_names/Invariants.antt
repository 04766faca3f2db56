use Rattle.std.proofs.Common.{List, drop}
use Rattle.vx_dtype.specs.Types.{Bytes}
use Rattle.vx_traversal.specs.References.{AddsNames}
use Rattle.vx_traversal.proofs.references.add_names.Given as goal

-- what adds the names from i on to what is held adds all the names to what was held
abbrev pub invariant-loop-i : goal.invariant-loop-i
invariant-loop-i l = (after : List Bytes) → AddsNames (drop l.i l.fn.names) l.fields.keys after → AddsNames l.fn.names l.fn.fields.keys after
