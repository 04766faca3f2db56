use Rattle.std.proofs.Common.{◌≡◌, ◌≤◌, length, take}
use Rattle.vx_typing.specs.MergedFields.{last_place}
use Rattle.vx_typing.proofs.few_structs.last_place.Given as goal

-- where the name stands among the structs that are left, it stands last
abbrev pub invariant-loop-giver : goal.invariant-loop-giver
invariant-loop-giver l = (l.giver ≤ length l.structs) × (last_place 0 l.name l.structs ≡ last_place 0 l.name (take l.giver l.structs))

-- how many structs are left
abbrev pub decreases-loop-giver : goal.decreases-loop-giver
decreases-loop-giver l = l.giver
