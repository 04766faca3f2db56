use Rattle.std.proofs.Common.{◌≡◌, List, take}
use Rattle.vx_dtype.specs.Types.{Bytes}
use Rattle.vx_semantics.specs.Merging.{merged_names}
use Rattle.vx_typing.proofs.few_structs.names_of_few.Given as goal

-- the names of the structs so far
abbrev pub invariant-loop-i : goal.invariant-loop-i
invariant-loop-i l = l.names.items ≡ merged_names (λ (own : List Bytes). own) (take l.i l.structs)
