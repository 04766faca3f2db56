use Rattle.std.proofs.Common.{◌∙◌, ap}
use Rattle.vx_dtype.specs.Equal.{names_eq}
use Rattle.vx_prune.specs.Relations.{has_pair, relation_map}
use Rattle.vx_prune.proofs.RequiredLemmas.{same_kinds}
use Rattle.vx_prune.proofs.relations.is_required.Goals as goal

pub returns : goal.returns
returns c = c.contains.ensures ∙ ap (λ same. has_pair names_eq same (relation_map c.args.required.now) c.args.path.now c.args.stat) same_kinds
