use Rattle.std.proofs.Common.{◌≡◌, filter, take}
use Rattle.vx_dtype.specs.TypeRules.{has_name}
use Rattle.vx_prepare.proofs.splitting.names_among.Given as goal

abbrev pub invariant-loop-name : goal.invariant-loop-name
invariant-loop-name l = l.kept.items ≡ filter (λ name. has_name name l.fn.others) (take l.name-index l.names)
