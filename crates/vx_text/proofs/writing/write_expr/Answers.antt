use Rattle.std.proofs.Common.{◌≡◌, ◌∷◌, ◌++◌, [], refl, ap, ◌∙◌, sym}
use Rattle.vx_dtype.proofs.PrintingLemmas.{has_begun_more, has_begun_nothing}
use Rattle.vx_expr.proofs.PostOrderLemmas.{mapped_more}
use Rattle.vx_text.specs.WritingParts.{opening_text, part_of, parts_of, parts_text}
use Rattle.vx_text.proofs.WritingLemmas.{steps_fewer, text_begun, text_opened}
use Rattle.vx_text.proofs.writing.write_expr.Goals as goal

pub loop-part-smaller : goal.loop-part-smaller
loop-part-smaller g c =
    let all = parts_of c.loop-part.left.items in
    let ps = parts_of c.pop.new.self.items in
    let popped : all ≡ ps ++ part_of c.in-Some.part ∷ [] = mapped_more part_of c.pop.new.self.items c.loop-part.left.items c.in-Some.part c.in-Some.ensures.items in
    let began = c.in_ok-write_part.ensures in
    steps_fewer all ps (parts_of c.write_part.new.left.items) began.rest (part_of c.in-Some.part) popped began.left began.steps

pub loop-part-preserved : goal.loop-part-preserved
loop-part-preserved g c = λ plain.
    let all = parts_of c.loop-part.left.items in
    let ps = parts_of c.pop.new.self.items in
    let popped : all ≡ ps ++ part_of c.in-Some.part ∷ [] = mapped_more part_of c.pop.new.self.items c.loop-part.left.items c.in-Some.part c.in-Some.ensures.items in
    let began = c.in_ok-write_part.ensures in
    let begun = c.loop-part.invariant plain in
    let text = text_begun all ps (parts_of c.write_part.new.left.items) began.rest (part_of c.in-Some.part) began.written popped began.left began.text in
    has_begun_more _ _ _ _ _ _ _ _ text begun (began.wrote begun.1.plain)

pub loop-part-init : goal.loop-part-init
loop-part-init g c = λ plain.
    let e = c.args.expr.now in
    let left : parts_of c.write_node.new.left.items ≡ (e, 0) ∷ [] = c.in_ok-write_node.ensures.left ∙ ap (λ ps. parts_of ps ++ (e, 0) ∷ []) c.new-left.ensures.items in
    has_begun_more _ _ _ _ _ _ _ _ (text_opened e ∙ ap (λ ps. opening_text e ++ parts_text ps) (sym left)) (has_begun_nothing _ _ _ _ refl plain) (c.in_ok-write_node.ensures.text plain refl)
