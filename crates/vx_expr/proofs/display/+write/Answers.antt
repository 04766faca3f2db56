use Rattle.std.proofs.Common.{rules, ◌≡◌, ◌<◌, ◌≤◌, [], ◌∷◌, ◌++◌, length, drop, refl, ap, sym, subst, inl, inr, arith}
use Rattle.std.proofs.lemmas.Bool.{cases_lt}
use Rattle.std.proofs.Math.ListN.{get_or}
use lib.Utf8.{encode}
use Rattle.std.specs.Fmt.{WritesOnOk}
use Rattle.vx_dtype.proofs.PrintingLemmas.{has_begun_more, has_written_begun}
use Rattle.vx_expr.specs.Trees.{trees_of}
use Rattle.vx_expr.specs.Heights.{height, highest}
use Rattle.vx_expr.specs.CompactTexts.{named_texts}
use Rattle.vx_expr.specs.declared.display.Piece.TheVariants.{Whole, Closing}
use Rattle.vx_expr.specs.Pieces.{part_of, parts_of, part_text, part_height, parts_height}
use Rattle.vx_expr.proofs.PieceLemmas.{text_begun, steps_fewer, last_height, height_kept, began_wholly}
use Rattle.vx_expr.proofs.PostOrderLemmas.{mapped_more}
use Rattle.vx_expr.proofs.TreeLemmas.{height_at}
use Rattle.vx_expr.proofs.CompactLemmas.{listed_texts_step, named_texts_step, named_texts_no_name, named_texts_no_value}
use Rattle.vx_expr.proofs.display.+write.Goals as goal

pub write_binary-write_piece-requires : goal.write_binary-write_piece-requires
write_binary-write_piece-requires g t c κs within =
    let all = parts_of c.loop-piece.left.items in
    let ps = parts_of c.pop.new.self.items in
    let popped : all ≡ ps ++ part_of c.in-Some.piece ∷ [] = mapped_more part_of c.pop.new.self.items c.loop-piece.left.items c.in-Some.piece c.in-Some.ensures.items in
    let lower : part_height (part_of c.in-Some.piece) ≤ parts_height all = last_height all ps (part_of c.in-Some.piece) popped in
    (omega (arith, lower, c.loop-piece.invariant.0, c.decreases), search rules)

pub write_binary-loop-piece-smaller : goal.write_binary-loop-piece-smaller
write_binary-loop-piece-smaller g t c =
    let all = parts_of c.loop-piece.left.items in
    let ps = parts_of c.pop.new.self.items in
    let popped : all ≡ ps ++ part_of c.in-Some.piece ∷ [] = mapped_more part_of c.pop.new.self.items c.loop-piece.left.items c.in-Some.piece c.in-Some.ensures.items in
    let began = c.in_ok-write_piece.ensures in
    steps_fewer all ps (parts_of c.write_piece.new.left.items) began.rest (part_of c.in-Some.piece) popped began.left began.steps

pub write_binary-loop-piece-preserved : goal.write_binary-loop-piece-preserved
write_binary-loop-piece-preserved g t c =
    let all = parts_of c.loop-piece.left.items in
    let ps = parts_of c.pop.new.self.items in
    let after = parts_of c.write_piece.new.left.items in
    let popped : all ≡ ps ++ part_of c.in-Some.piece ∷ [] = mapped_more part_of c.pop.new.self.items c.loop-piece.left.items c.in-Some.piece c.in-Some.ensures.items in
    let began = c.in_ok-write_piece.ensures in (
      omega (arith, height_kept all ps after began.rest (part_of c.in-Some.piece) popped began.left began.lower, c.loop-piece.invariant.0),
      λ plain.
          let begun = c.loop-piece.invariant.1 plain in
          let text = text_begun all ps after began.rest (part_of c.in-Some.piece) began.written popped began.left began.text in
          has_begun_more _ _ _ _ _ _ _ _ text begun (began.wrote begun.1.plain),
    )

pub write_piece-returns-in_default : goal.write_piece-returns-in_default
write_piece-returns-in_default g t c =
    let is : c.args.piece ≡ Whole c.in-Whole.expr = search rules in
    began_wholly _ _ _ _ _ _ _
    (subst (λ q. WritesOnOk g.W.Write.write_str_gives c.args.f.now c.write_expr.result (part_text (part_of q)) c.write_expr.new.f) (sym is) c.write_expr.ensures)

pub write_piece-returns-in-Closing : goal.write_piece-returns-in-Closing
unfolding encode
write_piece-returns-in-Closing g t c =
    let is : c.args.piece ≡ Closing = search rules in
    began_wholly _ _ _ _ _ _ _
    (subst (λ q. WritesOnOk g.W.Write.write_str_gives c.args.f.now c.write_str.result (part_text (part_of q)) c.write_str.new.self) (sym is) c.write_str.ensures.writes)

pub write_list-write_expr-requires : goal.write_list-write_expr-requires
write_list-write_expr-requires g t c κs within =
    let items = c.args.values.now in
    let x = c.index-values-i.result in
    let within_items : c.loop-i.i < length items = search rules in
    let d = height_at items c.loop-i.i x within_items in
    let at : x ≡ get_or items c.loop-i.i x = search rules in
    let below : height x ≤ highest (trees_of items) = omega (arith, d, ap height at) in
    (omega (arith, below, c.decreases), search rules)

pub write_list-loop-i-preserved : goal.write_list-loop-i-preserved
unfolding encode
write_list-loop-i-preserved g t c =
    let es = c.args.values.now in
    let i = c.loop-i.i in
    let e = c.index-values-i.result in
    let within : i < length es = search rules in
    let there : get_or es i e ≡ e = search rules in
    let step = listed_texts_step c.loop-i.separator.now es i e within there in (
      (44 ∷ 32 ∷ [], (refl, refl)),
      λ plain.
          let begun = c.loop-i.invariant.1 plain in
          let separated = has_begun_more _ _ _ _ _ _ _ _ step begun (c.in_ok-write_str.ensures.writes begun.1.plain refl) in
          has_begun_more _ _ _ _ _ _ _ _ refl separated (c.in_ok-write_expr.ensures separated.1.plain refl),
    )

pub write_named-write_expr-requires : goal.write_named-write_expr-requires
write_named-write_expr-requires g t c κs within =
    let items = c.args.values.now in
    let x = c.index-values-i.result in
    let within_items : c.loop-i.i < length items = search rules in
    let d = height_at items c.loop-i.i x within_items in
    let at : x ≡ get_or items c.loop-i.i x = search rules in
    let below : height x ≤ highest (trees_of items) = omega (arith, d, ap height at) in
    (omega (arith, below, c.decreases), search rules)

pub write_named-loop-i-preserved : goal.write_named-loop-i-preserved
unfolding encode
write_named-loop-i-preserved g t c =
    let names = c.args.names.now in
    let es = c.args.values.now in
    let i = c.loop-i.i in
    let name = c.as_str.result.now in
    let e = c.index-values-i.result in
    let within : i < length es = search rules in
    let has_name : i < length names = search rules in
    let there : get_or es i e ≡ e = search rules in
    let named : get_or names i name ≡ name = search rules in
    let step = named_texts_step c.loop-i.separator.now names es i name e has_name within named there in (
      (44 ∷ 32 ∷ [], (refl, refl)),
      λ plain.
          let begun = c.loop-i.invariant.1 plain in
          let separated = has_begun_more _ _ _ _ _ _ _ _ step begun (c.in_ok-write_str.ensures.writes begun.1.plain refl) in
          let with_name = has_begun_more _ _ _ _ _ _ _ _ refl separated (c.in_ok-write_str-2.ensures.writes separated.1.plain refl) in
          let with_colon = has_begun_more _ _ _ _ _ _ _ _ refl with_name (c.in_ok-write_str-3.ensures.writes with_name.1.plain refl) in
          has_begun_more _ _ _ _ _ _ _ _ refl with_colon (c.in_ok-write_expr.ensures with_colon.1.plain refl),
    )

pub write_named-returns : goal.write_named-returns
write_named-returns g t c = λ plain _.
    let names = c.args.names.now in
    let es = c.args.values.now in
    let i = c.loop-i.i in
    let none : named_texts c.loop-i.separator.now (drop i names) (trees_of (drop i es)) ≡ [] =
    elim (cases_lt i (length es)) [
      | inl more ↦
          let no_name : length names ≤ i = search rules in
          named_texts_no_name c.loop-i.separator.now names (trees_of (drop i es)) i no_name
      | inr past ↦ named_texts_no_value c.loop-i.separator.now (drop i names) es i past
    ] in
    has_written_begun _ _ _ _ _ none (c.loop-i.invariant.1 plain)
