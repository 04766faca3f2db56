use Rattle.std.proofs.Common.{sym, ap, ◌∙◌, ◌++◌, []}
use Rattle.vx_dtype.specs.Types.{Bytes}
use Rattle.vx_wire_bytes.proofs.ReadLemmas.{one_node}
use Rattle.vx_wire_bytes.proofs.laws.one_tree.Goals as goal

pub returns : goal.returns
returns c = λ bytes a b p q. (one_node a b [] [] p.spellable q.spellable (ap (λ (x : Bytes). x ++ []) (sym p.spelled ∙ q.spelled))).0
