use Rattle.std.proofs.Common.{◌∙◌, ap, ◌++◌}
use Rattle.std.specs.List.{flat_map}
use Rattle.std.specs.Char.{encode_utf8}
use Rattle.vx_dtype.specs.Types.{Bytes}
use Rattle.vx_laws_explaining.specs.ExplainedPictures.{marked_byte}
use Rattle.vx_explaining.proofs.MarkLemmas.{marked_push}
use Rattle.vx_explaining.proofs.marks.marked_text.Goals as goal

pub loop-c-preserved : goal.loop-c-preserved
loop-c-preserved c =
    let one = flat_map marked_byte (encode_utf8 c.in-Some.c) in
    c.in_ok-push_marked.ensures ∙ ap (λ (z : Bytes). z ++ one) c.loop-c.invariant ∙ marked_push c.loop-c.yielded c.in-Some.c
