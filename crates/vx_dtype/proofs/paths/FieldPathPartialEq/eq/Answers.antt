use Rattle.std.proofs.Common.{◌≡◌, ◌∙◌, sym, subst, Decides}
use Rattle.vx_dtype.specs.Equal.{names_eq}
use Rattle.vx_dtype.specs.EqualLaws.{names_decides}
use Rattle.vx_dtype.specs.PathViews.{part_name}
use Rattle.vx_dtype.proofs.PathLemmas.{names_eq_parts}
use Rattle.vx_dtype.proofs.paths.FieldPathPartialEq.eq.Goals as goal

pub returns-clause-gives : goal.returns-clause-gives
returns-clause-gives c =
    c.eq.ensures ∙ names_eq_parts part_name c.parts.result.now c.parts-2.result.now ∙ (λ i. names_eq (c.parts.ensures i) (c.parts-2.ensures i))

pub returns-clause-same : goal.returns-clause-same
returns-clause-same c =
    subst (λ b. Decides b (c.args.self.now ≡ c.args.other.now)) (sym (returns-clause-gives c)) (names_decides c.args.self.now c.args.other.now)
