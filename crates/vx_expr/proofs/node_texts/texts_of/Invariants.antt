use Rattle.std.proofs.Common.{◌≡◌, map, take}
use Rattle.std.specs.String.{string_bytes}
use Rattle.vx_expr.proofs.node_texts.texts_of.Given as goal

-- the texts so far are the names so far
abbrev pub invariant-loop-name : goal.invariant-loop-name
invariant-loop-name l = map string_bytes l.texts.items ≡ take l.name-index l.fn.names
