use Rattle.std.proofs.Common.{◌++◌, ap, sym, ◌∙◌, append_assoc}
use Rattle.std.specs.String.{string_bytes}
use Rattle.vx_dtype.specs.PathViews.{part_name}
use Rattle.vx_zones.specs.Separators.{separator_at}
use Rattle.vx_zones.proofs.JoinedLemmas.{joined_path-more}
use Rattle.vx_zones.proofs.joined_names.joined_path.Goals as goal

pub loop-i-preserved : goal.loop-i-preserved
loop-i-preserved c =
    let i = c.loop-i.i in
    let joined = string_bytes c.loop-i.joined in
    c.in_ok-push_str-2.ensures.bytes ∙ ap (λ bs. bs ++ c.as_str.result.now) c.in_ok-push_str.ensures.bytes ∙ append_assoc joined c.separator.result.now c.as_str.result.now
    ∙ ap (λ bs. joined ++ (bs ++ c.as_str.result.now)) c.separator.ensures ∙ ap (λ bs. joined ++ (separator_at i ++ bs)) (c.as_str.ensures ∙ c.name_of.ensures)
    ∙ ap (λ bs. bs ++ (separator_at i ++ part_name c.index-parts-i.result)) c.loop-i.invariant
    ∙ sym (joined_path-more part_name c.parts-parts.result.now i c.index-parts-i.result c.loop-i-test.true c.index-parts-i.is)
