use Rattle.std.proofs.Common.{◌<◌, length, IfSome}
use Rattle.vx_wire_bytes.proofs.trees.link.Given as goal

-- what was found stands within
abbrev pub invariant-loop-i : goal.invariant-loop-i
invariant-loop-i l = IfSome l.last (λ place. place < length l.children)
