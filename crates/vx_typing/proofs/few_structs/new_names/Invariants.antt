use Rattle.std.proofs.Common.{◌≡◌, not, filter, take}
use Rattle.std.specs.List.{list_any}
use Rattle.vx_dtype.specs.TypeRules.{has_name}
use Rattle.vx_typing.proofs.few_structs.new_names.Given as goal

-- the new ones of the names so far
abbrev pub invariant-loop-name : goal.invariant-loop-name
invariant-loop-name l = l.new.items ≡ filter (λ name. not (list_any (has_name name) l.before)) (take l.name-index l.name-items)
