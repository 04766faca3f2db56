use Rattle.std.proofs.Common.{◌≡◌, ◌∙◌, ap, ◌++◌, codes, decimal}
use Rattle.std.specs.String.{string_bytes}
use Rattle.vx_laws_explaining.specs.ExplainedPictures.{marked_text}
use Rattle.vx_explaining.proofs.pictures.push_heading.Goals as goal

pub returns : goal.returns
returns c =
    let text : string_bytes c.write.new.self ≡ string_bytes c.args.out.now ++ (codes "<text transform=\"translate(" ++ (decimal c.left_of-left.result
    ++ (codes ",168) rotate(-45)\">" ++ (string_bytes c.in_ok-name.name ++ codes "</text>\n")))) = c.in_ok-write.ensures.bytes in
    let name : string_bytes c.in_ok-name.name ≡ marked_text c.args.name.now = c.in_ok-name.ensures ∙ ap marked_text c.as_str.ensures in
    text ∙ (λ i. string_bytes c.args.out.now ++ (codes "<text transform=\"translate(" ++ (decimal (c.left_of-left.ensures i)
    ++ (codes ",168) rotate(-45)\">" ++ (name i ++ codes "</text>\n")))))
