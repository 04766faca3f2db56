use Rattle.std.proofs.Common.{◌≡◌, ◌++◌, drop}
use Rattle.vx_typing.proofs.field_places.followed_by.Given as goal

-- what is left to put there
abbrev pub invariant-loop-name : goal.invariant-loop-name
invariant-loop-name l = l.fn.names.items ++ l.more ≡ l.names.items ++ drop l.name-index l.more
