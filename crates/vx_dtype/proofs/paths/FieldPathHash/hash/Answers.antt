use Rattle.std.proofs.Common.{◌∙◌, ap, fold}
use Rattle.vx_dtype.specs.Feeds.{names_feed}
use Rattle.vx_dtype.specs.PathViews.{part_name}
use Rattle.vx_dtype.proofs.PathLemmas.{names_feed_parts}
use Rattle.vx_dtype.proofs.paths.FieldPathHash.hash.Goals as goal

pub returns : goal.returns
returns g c =
    c.hash.ensures ∙ ap (fold g.H.Hasher.write c.args.state.now) (names_feed_parts part_name c.parts.result.now ∙ ap names_feed c.parts.ensures)
