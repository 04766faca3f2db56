use Rattle.std.proofs.Common.{◌≡◌, not, Some, map, take}
use Rattle.vx_column.proofs.structs.nulls_of.Given as goal

-- the places so far that aren't valid
abbrev pub invariant-loop-is_valid : goal.invariant-loop-is_valid
invariant-loop-is_valid l = l.nulls.items ≡ map (λ b. Some (not b)) (take l.is_valid-index l.fn.valid)
