use Rattle.std.proofs.Common.{◌≡◌, ◌∷◌, ◌∙◌, ap, sym, rules}
use Rattle.vx_dtype.specs.Like.{wildcards}
use Rattle.vx_kernels.specs.Patterns.{part_view, letters}
use Rattle.vx_kernels.proofs.PatternLemmas.{parts_more}
use Rattle.vx_kernels.proofs.NeedleLemmas.{needles_step}
use Rattle.vx_kernels.proofs.patterns.parts_of.Goals as goal

pub loop-c-preserved : goal.loop-c-preserved
loop-c-preserved c =
    let behind = wildcards (letters c.args.fold_case c.meaning_at-meaning.result.1.now) in
    let next : wildcards (letters c.args.fold_case c.loop-c.rest.now) ≡ part_view c.in_ok-part_of.field-0 ∷ behind = ap wildcards c.in-Some.ensures ∙ c.meaning_at-meaning.ensures.meaning ∙ ap (λ w. w ∷ behind) (sym c.in_ok-part_of.ensures.part) in (
      search rules,
      parts_more _ _ c.in_ok-part_of.field-0 _ _ _ c.loop-c.invariant.1 next c.in_ok-push.ensures.items,
      needles_step _ _ c.in_ok-part_of.field-0 _ _ c.loop-c.invariant.2 next c.in_ok-push.ensures.items c.in_ok-part_of.ensures.needle,
    )
