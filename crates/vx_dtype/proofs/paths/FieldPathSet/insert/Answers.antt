use Rattle.std.proofs.Common.{not, ap, ◌∙◌}
use Rattle.vx_dtype.specs.Paths.{has_path, with_path}
use Rattle.vx_dtype.proofs.PathLemmas.{has_path_known, with_path_inserted}
use Rattle.vx_dtype.proofs.paths.FieldPathSet.insert.Goals as goal

pub returns-clause-added : goal.returns-clause-added
returns-clause-added c =
    c.in_ok-insert.ensures.added ∙ ap not (has_path_known c.args.path c.self.inside.paths.keys) ∙ ap (λ ps. not (has_path c.args.path ps)) c.self.view_is

pub returns-clause-ok : goal.returns-clause-ok
returns-clause-ok c =
    c.in_ok-insert.ensures.keys ∙ with_path_inserted c.args.path c.self.inside.paths.keys ∙ ap (with_path c.args.path) c.self.view_is
