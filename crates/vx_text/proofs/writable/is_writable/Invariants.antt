use Rattle.std.proofs.Common.{◌≡◌, map, drop}
use Rattle.std.specs.List.{list_all}
use Rattle.vx_text.specs.Writing.{is_writable}
use Rattle.vx_text.proofs.WritableLemmas.{is_static}
use Rattle.vx_text.proofs.writable.is_writable.Given as goal

-- what is left to test
abbrev pub invariant-loop-node : goal.invariant-loop-node
invariant-loop-node l = is_writable l.expr ≡ list_all is_static (map (λ e. e.now) (drop l.node-index l.node-items))
