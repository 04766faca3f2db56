use Rattle.std.proofs.Common.{◌≡◌, map, take}
use Rattle.vx_expr.specs.Trees.{get_item}
use Rattle.vx_transform.proofs.packs.fields_pack.Given as goal

-- the fields of the names so far
abbrev pub invariant-loop-name : goal.invariant-loop-name
invariant-loop-name l = l.fields.items ≡ map (λ f. get_item f l.child) (take l.name-index l.fn.names)
