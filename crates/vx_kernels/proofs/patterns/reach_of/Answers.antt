use Rattle.std.proofs.Common.{◌∙◌, ap, sym, subst, false, rules}
use Rattle.vx_dtype.specs.Like.{is_empty}
use Rattle.vx_kernels.specs.Patterns.{part_view, is_run, takes, IsNeedleOf}
use Rattle.vx_kernels.proofs.PatternLemmas.{reach_last_run, reach_run, reach_text_ends, reach_differs, reach_more, reach_done, letters_none, letters_some, zero_length}
use Rattle.vx_kernels.proofs.NeedleLemmas.{needles_first, run_found}
use Rattle.vx_kernels.proofs.patterns.reach_of.Goals as goal

pub returns-then-is_empty : goal.returns-then-is_empty
returns-then-is_empty c = reach_last_run _ c.loop-parts.parts.now _ _ _ c.in-len1-up.len_at_least (sym c.in-Some.ensures.run ∙ ap (λ p. is_run (part_view p)) c.part-item.is) c.if-is_empty.ensures c.loop-parts.invariant.1

pub returns-in-Some : goal.returns-in-Some
returns-in-Some c =
    run_found c.args.parts.now c.loop-parts.parts.now _ c.in-Some.needle.now c.args.text.now c.loop-parts.rest.now c.in-len1-up.len_at_least
    (reach_run _ c.loop-parts.parts.now _ _ _ c.in-len1-up.len_at_least (sym c.in-Some.ensures.run ∙ ap (λ p. is_run (part_view p)) c.part-item.is) c.loop-parts.invariant.1)
    c.loop-parts.invariant.2 (λ ws h. c.in-Some.ensures.needle ws (subst (λ p. IsNeedleOf p ws) (sym c.part-item.is) h))

pub returns-in-None : goal.returns-in-None
returns-in-None c = reach_text_ends _ c.loop-parts.parts.now _ _ _ c.in-len1-up.len_at_least (sym c.in_default-needle_behind.ensures.run ∙ ap (λ p. is_run (part_view p)) c.part-item.is) c.in-None.ensures c.loop-parts.invariant.1

pub returns-then-not-takes : goal.returns-then-not-takes
returns-then-not-takes c = reach_differs _ c.loop-parts.parts.now _ _ _ _ _ c.in-len1-up.len_at_least (sym c.in_default-needle_behind.ensures.run ∙ ap (λ p. is_run (part_view p)) c.part-item.is) c.in-Some-front.ensures (c.if-not-takes.ensures ∙ ap (λ p. takes (part_view p) c.in-Some-front.c) c.part-item.is) c.loop-parts.invariant.1

pub loop-parts-preserved : goal.loop-parts-preserved
loop-parts-preserved c = (
  search rules,
  reach_more _ c.loop-parts.parts.now _ _ _ _ _ c.in-len1-up.len_at_least (sym c.in_default-needle_behind.ensures.run ∙ ap (λ p. is_run (part_view p)) c.part-item.is) c.in-Some-front.ensures (c.if-not-takes.ensures ∙ ap (λ p. takes (part_view p) c.in-Some-front.c) c.part-item.is) c.loop-parts.invariant.1,
  λ fit. (needles_first c.loop-parts.parts.now c.part-item.result c.in-len1-up.len_at_least (c.loop-parts.invariant.2 fit)).1,
)

pub returns-then-is_empty-2 : goal.returns-then-is_empty-2
returns-then-is_empty-2 c =
    reach_done _ c.loop-parts.parts.now _ _ c.in_default.len_below c.loop-parts.invariant.1 ∙ ap is_empty (letters_none false c.loop-parts.rest.now (zero_length c.loop-parts.rest.now c.if-is_empty-2.ensures))

pub returns-else-is_empty-2 : goal.returns-else-is_empty-2
returns-else-is_empty-2 c =
    reach_done _ c.loop-parts.parts.now _ _ c.in_default.len_below c.loop-parts.invariant.1 ∙ letters_some false c.loop-parts.rest.now c.loop-parts.invariant.0 c.if-is_empty-2.ensures
