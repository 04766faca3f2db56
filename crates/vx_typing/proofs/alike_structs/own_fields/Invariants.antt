use Rattle.std.proofs.Common.{take}
use Rattle.vx_typing.proofs.AlikeStructs.{AreOwn}
use Rattle.vx_typing.proofs.alike_structs.own_fields.Given as goal

-- the fields of the names so far
abbrev pub invariant-loop-index : goal.invariant-loop-index
invariant-loop-index l = AreOwn l.giver l.names (take l.index l.names) l.fields.items
