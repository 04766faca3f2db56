use Rattle.std.proofs.Common.{◌≡◌, ◌++◌, List, drop}
use Rattle.std.specs.List.{flat_map}
use Rattle.vx_dtype.specs.Types.{Bytes}
use Rattle.vx_typing.proofs.field_places.all_names.Given as goal

-- what was collected, and what is left
abbrev pub invariant-loop-names : goal.invariant-loop-names
invariant-loop-names l = flat_map (λ (own : List Bytes). own) l.structs ≡ l.all.items ++ flat_map (λ (own : List Bytes). own) (drop l.names-index l.structs)
