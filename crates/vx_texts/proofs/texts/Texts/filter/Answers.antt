use Rattle.std.proofs.Common.{◌≡◌, ◌+◌, ◌++◌, None, IfOk, drop, option_copied, ◌∙◌, sym, ap, subst, arith}
use Rattle.std.proofs.lemmas.List.{get_or_default}
use Rattle.vx_words.specs.Truths.{kept_items}
use Rattle.vx_words.proofs.KeptLemmas.{kept_step, kept_end}
use Rattle.vx_texts.proofs.KeptTexts.{room_for}
use Rattle.vx_texts.proofs.texts.Texts.filter.Goals as goal

pub prove-unreachable-requires : goal.prove-unreachable-requires
prove-unreachable-requires c =
    let past = c.if-prove.true in
    let inside = c.in-Some.ensures.within in
    omega (arith, c.len-places.ensures.count, c.requires)

pub add-requires : goal.add-requires
add-requires c =
    let first = c.in-Some.ensures in
    let inside = first.within in
    let i = c.in-Some.i in
    let xs = c.args.self.now in
    let ks = c.args.keep.now in
    let t = option_copied c.text_at.result in
    room_for c.kept.kept (kept_items (drop (i + 1) xs) (drop (i + 1) ks)) xs t ks
    (kept_step xs ks c.requires c.kept.kept c.kept.from i t first
    (get_or_default xs i t None (omega (arith, c.requires)) ∙ sym c.text_at.ensures) c.kept.invariant.1)
    c.len-places.ensures.fitting

pub kept-preserved : goal.kept-preserved
kept-preserved c =
    let first = c.in-Some.ensures in
    let inside = first.within in
    let i = c.in-Some.i in
    let xs = c.args.self.now in
    let ks = c.args.keep.now in
    let t = option_copied c.text_at.result in (
      omega arith,
      ap (λ made. made ++ kept_items (drop (i + 1) xs) (drop (i + 1) ks)) c.in_ok-add.ensures.pushed
          ∙ kept_step xs ks c.requires c.kept.kept c.kept.from i t first
          (get_or_default xs i t None (omega (arith, c.requires)) ∙ sym c.text_at.ensures) c.kept.invariant.1,
    )

pub returns : goal.returns
returns c =
    subst (λ ts. IfOk c.finish.result (λ texts. texts ≡ ts))
    (kept_end c.args.self.now c.args.keep.now c.requires c.kept.kept c.kept.from c.kept.invariant.0 c.in_default.ensures c.kept.invariant.1)
    c.finish.ensures
